-- The sizes of the two LDPC base graphs, and which one a transport block takes (TS 38.212, 5.3.2, 6.2.2 and 7.2.2).
use Rattle.std.specs.Prelude.{ℕ, ◌*◌, Bool, ◌&&◌, ◌||◌, not, Result, Ok, Err, nat_le, if◌then◌else◌, List}
use Rattle.std.specs.Prelude.{codes}
use Rattle.nr_graphpick.specs.declared.Graph.{Graph}
use Rattle.nr_graphpick.specs.declared.Graph.TheVariants.{One, Two}
use Rattle.nr_graphpick.specs.declared.PickFault.{PickFault}
use Rattle.nr_graphpick.specs.declared.PickFault.TheVariants.{RateRange, SizeRange}

-- how many rows of blocks the parity-check matrix of a base graph has (TS 38.212, 5.3.2)
abbrev pub rows_of : Graph → ℕ
rows_of One = 46
rows_of Two = 42

-- how many columns of blocks it has
abbrev pub cols_of : Graph → ℕ
cols_of One = 68
cols_of Two = 52

-- how many of these columns hold the information bits
abbrev pub info_cols_of : Graph → ℕ
info_cols_of One = 22
info_cols_of Two = 10

-- the base graph's number, as it is printed
abbrev pub digits_of : Graph → List ℕ
digits_of One = codes "1"
digits_of Two = codes "2"

-- Base graph 2 is taken up to 292 bits, up to 3824 at a rate up to 0.67, or at one up to 0.25. A transport block has
-- `a` bits, and the code rate is rate/2048 (TS 38.212, 6.2.2 and 7.2.2).
abbrev pub takes_two : ℕ → ℕ → Bool
takes_two a rate = nat_le a 292 || (nat_le a 3824 && nat_le (100 * rate) 137216) || nat_le (4 * rate) 2048

-- the base graph of a transport block, or the first fault
abbrev pub pick_said : ℕ → ℕ → Result Graph PickFault
pick_said a rate =
    if not (nat_le 1 rate && nat_le rate 2048) then Err RateRange
    else (if not (nat_le 1 a && nat_le a 1310720) then Err SizeRange
    else (if takes_two a rate then Ok Two else Ok One))
