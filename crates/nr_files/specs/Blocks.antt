-- The blocks file, which has one transport block a line, in hexadecimal digits.
use Rattle.std.specs.Prelude.{ℕ, ◌+◌, ◌-◌, ◌*◌, ◌%◌, ◌≤◌, ◌==◌, nat_lt, not, if◌then◌else◌}
use Rattle.std.specs.Prelude.{Result, Ok, Err, List, [], ◌∷◌, length, take, slice_index}
use Rattle.std.specs.{List.slice_split, List.list_all, Char.is_ascii_hexdigit, Char.digit_value}
use Rattle.nr_refusal.specs.Refusal.{◌>>=◌}
use Rattle.nr_files.specs.declared.blocks.BlocksFault.{BlocksFault}
use Rattle.nr_files.specs.declared.blocks.BlocksFault.TheVariants as fault

-- a text without one such character at its end
abbrev pub without_last : ℕ → List ℕ → List ℕ
without_last c text = if slice_index text (length text - 1) == c then take (length text - 1) text else text

-- the parts between the line feeds (10); one at the text's end begins no part
unfoldable pub parts_of : List ℕ → List (List ℕ)
parts_of text = slice_split (λ c. c == 10) (without_last 10 text)

-- the octets that pairs of hexadecimal digits write, the high digit first
unfoldable pub octets_of_digits : List ℕ → List ℕ
octets_of_digits [] = []
octets_of_digits (high ∷ []) = []
octets_of_digits (high ∷ low ∷ digits) = (16 * digit_value high + digit_value low) ∷ octets_of_digits digits

-- how many octets a transport block of the file has: at most 1,310,720 bits
abbrev pub IsBlockLength : ℕ → Type 0
IsBlockLength n = (1 ≤ n) × (n ≤ 163840)

-- the transport block that line `number` holds, or the line's first fault
unfoldable pub block_said : ℕ → List ℕ → Result (List ℕ) BlocksFault
block_said number line =
    if length line == 0 then Err (fault.Blank number)
    else (if not (list_all is_ascii_hexdigit line) then Err (fault.Digit number)
    else (if length line % 2 == 1 then Err (fault.Odd number)
    else (if nat_lt 327680 (length line) then Err (fault.LongLine number)
    else Ok (octets_of_digits line))))

-- the blocks of the lines from line `number` on, each without a carriage return (13) at its end, or the first fault
unfoldable pub blocks_from : ℕ → List (List ℕ) → Result (List (List ℕ)) BlocksFault
blocks_from number [] = Ok []
blocks_from number (part ∷ parts) =
    if nat_lt 256 number then Err fault.TooMany
    else (do
      block ← block_said number (without_last 13 part)
      blocks ← blocks_from (number + 1) parts
      Ok (block ∷ blocks))

-- the transport blocks of a blocks file, or its first fault
unfoldable pub blocks_said : List ℕ → Result (List (List ℕ)) BlocksFault
blocks_said text =
    if nat_lt 100000000 (length text) then Err fault.TooLong
    else (if length text == 0 then Err fault.Empty
    else blocks_from 1 (parts_of text))
