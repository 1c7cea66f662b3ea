-- What the four core rows of a base graph add up to, from the first parity column on (TS 38.212, 5.3.2).
use Rattle.std.specs.Prelude.{◌≡◌, ℕ, ◌==◌, Bool, if◌then◌else◌, List}
use Rattle.nr_bitvec.specs.Bit.{◌⊕◌}
use Rattle.nr_shifttable.specs.{declared.entry.Entry.Entry, Tails.tail, Tails.HasCore}
use Rattle.nr_ldpcenc.specs.{Parity.parity, Rows.one_at, Rows.positions}

-- of three values, two of which are equal, the third
abbrev pub third_of : ℕ → ℕ → ℕ → ℕ
third_of a b c = if a == b then c else if a == c then b else a

-- The first parity column, n, has the values a, b and c in the four core rows. Two of them are equal and cancel, and so
-- do the zeros of the diagonals. V is the third value. So from column n on, rows t of the four add up to bit (t + V mod z)
-- mod z of column n. This is true for each lifting size z and each word, and in each set of an accepted table's base
-- graph.
abbrev pub CoreRowsAddUp : Type 0
CoreRowsAddUp =
    (es : List Entry) (set n a b c : ℕ) → HasCore es set n a b c → (z t : ℕ) (w : ℕ → Bool)
    → let rest : ℕ → Bool = λ i. parity w (positions set z t (tail es i n)) in
    (rest 0 ⊕ rest 1) ⊕ (rest 2 ⊕ rest 3) ≡ w (one_at z t n (third_of a b c))
