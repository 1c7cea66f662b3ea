-- Bit interleaving (TS 38.212, 5.4.2.2). The bits are written row by row into a matrix of Qm rows, and read column by
-- column.
use Rattle.std.specs.Prelude.{◌≡◌, ℕ, ◌+◌, ◌*◌, ◌/◌, ◌%◌, ◌<◌, Bool, List, length, map}
use Rattle.std.specs.List.{range_with_len}
use Rattle.nr_bitvec.specs.Bit.{bit}

-- the index among e selected bits of the bit at place m: f at place i + j Qm is e at i E/Qm + j
abbrev pub seat_of : ℕ → ℕ → ℕ → ℕ
seat_of qm e m = (m % qm) * (e / qm) + m / qm

-- the bits in their interleaved order
unfoldable pub interleaving_of : ℕ → List Bool → List Bool
interleaving_of qm bits = map (λ m. bit bits (seat_of qm (length bits) m)) (range_with_len 0 (length bits))

-- each place has an index of its own among the e bits
pub record IsSeating (qm e : ℕ) : Type 0 where
  pub inside : (m : ℕ) → m < e → seat_of qm e m < e
  pub apart : (m n : ℕ) → m < e → n < e → seat_of qm e m ≡ seat_of qm e n → m ≡ n

-- interleaving takes each bit once, if their number is a multiple of Qm
abbrev pub SeatsAreSeating : Type 0
SeatsAreSeating = (qm e : ℕ) → 0 < qm → e % qm ≡ 0 → IsSeating qm e
