-- What a settings file says, step by step.
use Rattle.nr_files.proofs.Common.{◌≡◌, ◌≢◌, ℕ, inr, Option, Some, None, Result, Ok, Err, List, [], ◌∷◌, ap}
use Rattle.nr_files.proofs.Common.{refl, arith, nat_tests, ◌<◌, ◌&&◌, nat_le, length, list_all, Gives}
use Rattle.nr_files.specs.Settings.{all_known, is_known, limit_of, number_in, settings_of, settings_said}
use Rattle.nr_files.proofs.RefusalFacts.{never_if, never_or, never_then}
use Rattle.std.proofs.{Common.String, Common.Global, lemmas.Str.IsUtf8-from_is_utf8, lemmas.Str.is_utf8-from_IsUtf8}
use Rattle.std.specs.{Prelude.pos, Prelude.string_bytes, Map.keys_of, Str.IsUtf8}
use Rattle.toml.specs.{Data.Data, Data.integer, Data.Members, Parse.parse_document, View.members_view, declared.value.Value.Value}
use Rattle.nr_files.specs.declared.settings.SettingsFault.TheVariants as fault

-- the names of a table's members are the keys of its entries
pub known_keys : (es : List (String Global × Value))
    → all_known (members_view es) ≡ list_all (λ key. is_known (string_bytes key)) (keys_of es)
known_keys [] = refl
known_keys (e ∷ es) = ap (λ b. is_known (string_bytes e.0) && b) (known_keys es)

-- a call that returns what the specification says
pub gives-same : {X E : Type 0} (memory : E) (r said : Result X E) → said ≡ r → Gives memory (λ x. x) r said
gives-same memory (Ok x) said is = is
gives-same memory (Err e) said is = inr is

-- a file that is too long, one whose text is a table, and one whose text is not
pub said-too_long : (text : List ℕ) → 65536 < length text → settings_said text ≡ Err fault.TooLong
unfolding settings_said
said-too_long text long = grind (arith, nat_tests)

pub said-table : (text : List ℕ) (members : Members) → (65536 < length text → ⊥) → IsUtf8 text
    → parse_document text ≡ Some members → settings_said text ≡ settings_of members
unfolding settings_said
said-table text given short utf8 is = grind (arith, nat_tests, is_utf8-from_IsUtf8)

pub said-no_table : (text : List ℕ) → (65536 < length text → ⊥) → (IsUtf8 text → parse_document text ≡ None)
    → settings_said text ≡ Err fault.Toml
unfolding settings_said
said-no_table text short none = grind (arith, nat_tests, IsUtf8-from_is_utf8)

-- the text of a settings file is never unread
number_in-unread : (low high : ℕ) (value : Data) → number_in low high value ≢ Err fault.Read
number_in-unread low high (integer (pos n)) = never_if _ (nat_le low n && nat_le n high) _ _ (λ is. cc) (λ is. cc)
number_in-unread low high value = λ is. cc

limit_of-unread : (value : Option Data) → limit_of value ≢ Err fault.Read
limit_of-unread None = λ is. cc
limit_of-unread (Some value) = never_then _ (number_in 0 4294967295 value) _ (number_in-unread 0 4294967295 value) (λ n is. cc)

settings_of-unread : (given : Members) → settings_of given ≢ Err fault.Read
unfolding settings_of
settings_of-unread given = grind (arith, never_if, never_then, never_or, number_in-unread, limit_of-unread)

pub settings_said-unread : (text : List ℕ) → settings_said text ≢ Err fault.Read
unfolding settings_said
settings_said-unread text = grind (arith, nat_tests, never_if, never_then, never_or, settings_of-unread)
