-- The lowest eight bits of a word, lane by lane, and where they are put.
use Rattle.nr_calls.proofs.Common.{inl, inr, ◌≡◌, ℕ, zero, suc, ◌+◌, ◌-◌, ◌*◌, ◌/◌, ◌^◌, ◌<◌}
use Rattle.nr_calls.proofs.Common.{◌≤◌, if◌then◌else◌, List, [], ◌∷◌, length, get_or, ap, sym, ◌∙◌, arith}
use Rattle.nr_calls.proofs.Common.{bit_at, cases_lt, pow_pos, bit_at_ones, bit_at-lt, bit_at_shr}
use Rattle.std.proofs.{Common.nat_lt, Common.bit_and, lemmas.Bool.le-ltb, lemmas.Nat.Bits.and_pow, lemmas.Nat.Bits.bit_at_and}
use Rattle.std.{proofs.lemmas.Simd.get_or-put_chunk_at, proofs.lemmas.Simd.get_or-put_chunk_below, specs.Simd.Lanes.put_chunk}
use lib.Lanes.{top}

-- the lesser of a lane and 1, as the lanes find it
abbrev lesser : ℕ → ℕ
lesser v = if top 7 (if nat_lt v 1 then 255 else 0) then v else 1

lesser-pos : (v : ℕ) → 0 < v → lesser v ≡ 1
lesser-pos v pos = ap (λ b. if top 7 (if b then 255 else 0) then v else 1) (le-ltb v 1 pos)

lesser-bit : (v b p : ℕ) → v ≡ b * p → b < 2 → 0 < p → lesser v ≡ b
lesser-bit v zero p is small pos = ap lesser {x = v} {y = 0} (omega (arith, is))
lesser-bit v (suc zero) p is small pos = lesser-pos v (omega (arith, is, pos))
lesser-bit v (suc (suc b)) p is small pos = omega (arith, small)

lane : (word k : ℕ) → k < 8 → lesser (bit_and (bit_and word 255) (2 ^ k)) ≡ bit_at word k
lane word k below =
    lesser-bit (bit_and (bit_and word 255) (2 ^ k)) (bit_at (bit_and word 255) k) (2 ^ k) (and_pow (bit_and word 255) k)
    (bit_at-lt (bit_and word 255) k) (pow_pos k)
    ∙ bit_at_and word 255 k ∙ omega (arith, bit_at_ones 8 k below, bit_at-lt word k)

-- the eight lanes
pub eight_lanes : (word k : ℕ) → k < 8
    → get_or (lesser (bit_and (bit_and word 255) 1) ∷ lesser (bit_and (bit_and word 255) 2)
    ∷ lesser (bit_and (bit_and word 255) 4) ∷ lesser (bit_and (bit_and word 255) 8)
    ∷ lesser (bit_and (bit_and word 255) 16) ∷ lesser (bit_and (bit_and word 255) 32) ∷ lesser
    (bit_and (bit_and word 255) 64) ∷ lesser (bit_and (bit_and word 255) 128) ∷ []) k 0 ≡ bit_at word k
eight_lanes word zero below = lane word 0 below
eight_lanes word (suc zero) below = lane word 1 below
eight_lanes word (suc (suc zero)) below = lane word 2 below
eight_lanes word (suc (suc (suc zero))) below = lane word 3 below
eight_lanes word (suc (suc (suc (suc zero)))) below = lane word 4 below
eight_lanes word (suc (suc (suc (suc (suc zero))))) below = lane word 5 below
eight_lanes word (suc (suc (suc (suc (suc (suc zero)))))) below = lane word 6 below
eight_lanes word (suc (suc (suc (suc (suc (suc (suc zero))))))) below = lane word 7 below
eight_lanes word (suc (suc (suc (suc (suc (suc (suc (suc k)))))))) below = omega (arith, below)

-- eight more octets
pub eight_more : (word rest i : ℕ) (out eight : List ℕ) → rest ≡ word / 2 ^ (8 * i) → length eight ≡ 8
    → 8 * i + 8 ≤ length out
    → ((k : ℕ) → k < 8 → get_or eight k 0 ≡ bit_at rest k)
    → ((k : ℕ) → k < 8 * i → get_or out k 0 ≡ bit_at word k) → (k : ℕ) → k < 8 * (i + 1)
    → get_or (put_chunk (8 * i) out eight) k 0
    ≡ bit_at word k
eight_more word rest i out eight left long within each so_far k below = elim (cases_lt k (8 * i)) [
  | inl before ↦ get_or-put_chunk_below (8 * i) out eight k 0 before ∙ so_far k before
  | inr past ↦
      let j : ℕ = k - 8 * i in
      let place : 8 * i + j ≡ k = omega arith in
      let lt : j < 8 = omega arith in
      ap (λ m. get_or (put_chunk (8 * i) out eight) m 0) (sym place)
      ∙ get_or-put_chunk_at (8 * i) out eight j 0 (omega (arith, lt, long)) (omega arith)
      ∙ each j lt ∙ ap (λ v. bit_at v j) left ∙ bit_at_shr word (8 * i) j ∙ ap (bit_at word) place
]
