-- The fields of a record by their places, and a record whose fields are the first of the columns' names.
use Rattle.nr_files.proofs.Common.{◌≡◌, ℕ, ◌+◌, ◌≤◌, List, [], ◌∷◌, length, length-drop, map, drop, ap, sym}
use Rattle.nr_files.proofs.Common.{◌∙◌, refl, arith, Option, Some, None, Bor, ◌&&◌, bytes_eq, IfSome, list_all}
use Rattle.nr_files.proofs.Common.{option_map, drop_more, get_or_default, field_at, fields_of, text_of_field, Record}
use Rattle.std.{specs.List.starts_with, specs.List.zip, proofs.lemmas.Iterator.YieldsList}
use Rattle.std.proofs.lemmas.Iterator.Consumers.{YieldsList-from_shown}
use Rattle.csv.proofs.RecordFacts.{field-get, field-none, field-there}
use Rattle.csv.specs.declared.record.ByteRecordIter.{ByteRecordIter}

-- the fields that are left of a record from a place on
left-none : (r : Record) (i : ℕ) → None ≡ field_at r i → length (drop i r) ≡ 0
left-none r i none = grind (arith, length-drop, field-there r i)

left-some : (r : Record) (i : ℕ) (f : List ℕ) → Some f ≡ field_at r i → drop i r ≡ f ∷ drop (i + 1) r
left-some r i f some = grind (arith, drop_more r i f, field-get r i f, field-none r i, get_or_default r i f [])

-- the fields of a record, one after another
abbrev pub next_field : ByteRecordIter → Option (Bor (List ℕ)) → ByteRecordIter → Type 0
next_field a r b = (b.row ≡ a.row) × (option_map (λ s. s.now) r ≡ field_at (fields_of a.row.now) a.at)
    × IfSome r (λ _. b.at ≡ a.at + 1)

pub fields-yielded : (s : ByteRecordIter) → YieldsList next_field (λ f. f.now) s (drop s.at (fields_of s.row.now))
fields-yielded s =
    YieldsList-from_shown next_field (λ f. f.now) (λ s. drop s.at (fields_of s.row.now))
    (λ s t is. left-none (fields_of s.row.now) s.at is.1) (λ s x t is.
    left-some (fields_of s.row.now) s.at x.now is.1
    ∙ ap (λ at. x.now ∷ drop at (fields_of s.row.now)) (sym is.2)
    ∙ ap (λ row. x.now ∷ drop t.at (fields_of row.now)) (sym is.0)) s

-- each field with the name at its place
pub all-names : (fields : List (List ℕ)) (names : List (Bor (List ℕ))) → length fields ≤ length names
    → list_all (λ (p : List ℕ × Bor (List ℕ)). bytes_eq (text_of_field p.0) p.1.now) (zip fields names)
    ≡ starts_with bytes_eq (map (λ name. name.now) names) (map text_of_field fields)
all-names [] names few = refl
all-names (field ∷ fields) [] few = absurd (omega (arith, few))
all-names (field ∷ fields) (name ∷ names) few =
    ap (λ b. bytes_eq (text_of_field field) name.now && b) (all-names fields names (omega (arith, few)))
