-- The number that a field of a record writes.
use Rattle.std.specs.Prelude.{ℕ, Bool, ◌==◌, ◌&&◌, ◌||◌, nat_le, if◌then◌else◌, List, [], ◌∷◌, length}
use Rattle.std.specs.{Prelude.Option, Prelude.Some, Prelude.None, List.list_all, Char.is_ascii_digit, Str.Parse.digits_value}

-- a space or a tab
abbrev pub is_blank : ℕ → Bool
is_blank b = (b == 32) || (b == 9)

-- a field without the blanks at its start
abbrev pub from_first_mark : List ℕ → List ℕ
from_first_mark [] = []
from_first_mark (b ∷ bs) = if is_blank b then from_first_mark bs else b ∷ bs

-- a field without the blanks at its end
abbrev pub to_last_mark : List ℕ → List ℕ
to_last_mark [] = []
to_last_mark (b ∷ bs) = if list_all is_blank (b ∷ bs) then [] else b ∷ to_last_mark bs

-- a field without the spaces and tabs at both its ends
abbrev pub text_of_field : List ℕ → List ℕ
text_of_field field = to_last_mark (from_first_mark field)

-- the number that 1 to `most` decimal digits write
unfoldable pub numeral : ℕ → List ℕ → Option ℕ
numeral most text =
    if nat_le 1 (length text) && nat_le (length text) most && list_all is_ascii_digit text then Some (digits_value 10 text)
    else None

-- the number that a field writes, of at most ten digits
abbrev pub short_number : List ℕ → Option ℕ
short_number text = numeral 10 text
