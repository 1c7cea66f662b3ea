-- The indices of places, which are written one part after another.
use Rattle.nr_calls.proofs.Common.{◌≡◌, ℕ, ◌+◌, ◌-◌, ◌*◌, ◌/◌, ◌<◌, ◌≤◌, ◌++◌, Bool, List}
use Rattle.nr_calls.proofs.Common.{length, get_or, take, sum, sym}
use Rattle.nr_calls.proofs.Common.{inl, inr, ◌∙◌, arith, cases_lt, get_or-append_right, get_or-take, get_or_append_left}
use Rattle.nr_calls.proofs.Common.{ap, subst, length-take-le, bit, cols_of}
use Rattle.std.{proofs.Common.◌%◌, proofs.lemmas.Nat.div-mul-add, proofs.lemmas.Nat.mod-mul-add, proofs.lemmas.Nat.mul-add-lt}
use Rattle.std.proofs.Math.Nat.{mul_comm}
use Rattle.nr_blockdesk.specs.Sent.{IsBitAt, IsMatching, SentBitsAreAt, block_at, position_at, sent_of}
use Rattle.nr_calls.specs.Placing.{Placing, bit_by, index_at}
use borrow.Rule.Slice.PartMut.{post_of, put_mid}

-- what is true of the entries before a part, and of those of the part, is true of all up to its end
pub part-more : (P : ℕ → ℕ → Type 0) (n k : ℕ) (before part : List ℕ) → n ≤ length before
    → ((m : ℕ) → m < n → P m (get_or before m 0))
    → ((j : ℕ) → j < length part → P (n + j) (get_or part j 0))
    → (m : ℕ) → m < n + length part → P m (get_or (put_mid n k before part) m 0)
part-more P n k before part within low high m below =
    let long = length-take-le n before within in
    let rest : List ℕ = part ++ post_of n k before in
    elim (cases_lt m n) [
      | inl lt ↦ subst (P m)
          (sym (get_or_append_left (take n before) rest 0 m (omega (arith, long, lt)) ∙ get_or-take n before m 0 lt)) (low m lt)
      | inr ge ↦
          let j : ℕ = m - n in
          let inside : j < length part = omega (arith, ge, below) in
          let there : n + j ≡ m = omega (arith, ge) in
          subst (λ q. P q (get_or (put_mid n k before part) m 0)) there
          (subst (P (n + j))
          (sym (get_or-append_right (take n before) rest n m 0 long ge
          ∙ get_or_append_left part (post_of n k before) 0 j inside))
          (high j inside))
    ]

-- an index is one of those of all code blocks
pub index-inside : (p : Placing) (m : ℕ) → IsBitAt p.matching m
    → cols_of p.matching.buffer.graph * p.matching.buffer.z ≡ 2 * p.matching.buffer.z + p.n
    → index_at p m < length p.matching.lengths * p.n
index-inside p m here columns =
    let z : ℕ = p.matching.buffer.z in
    let short : position_at p.matching m - 2 * z < p.n =
    omega (arith, here.position.unpunctured, here.position.coded, columns) in
    omega (
      arith,
      mul-add-lt (block_at p.matching m) p.n (position_at p.matching m - 2 * z) (length p.matching.lengths) here.block short,
      mul_comm p.n (length p.matching.lengths),
    )

-- an index names the bit that is sent at its place
pub bit-carried : SentBitsAreAt → (p : Placing) (words : ℕ → List Bool) (m index : ℕ) → IsMatching p.matching
    → cols_of p.matching.buffer.graph * p.matching.buffer.z ≡ 2 * p.matching.buffer.z + p.n → m < sum p.matching.lengths
    → index ≡ index_at p m → bit (sent_of p.matching words) m ≡ bit_by p words index
bit-carried sents p words m index is columns inside names =
    let t = p.matching in
    let z : ℕ = t.buffer.z in
    let r : ℕ = block_at t m in
    let here = sents t m is inside in
    let low = here.position.unpunctured in
    let high = here.position.coded in
    let q : ℕ = position_at t m - 2 * z in
    let short : q < p.n = omega (arith, low, high, columns) in
    let row : index / p.n ≡ r = ap (λ n. n / p.n) names ∙ div-mul-add r p.n q short in
    let rest : index % p.n ≡ q = ap (λ n. n % p.n) names ∙ mod-mul-add r p.n q short in
    let place : position_at t m ≡ index % p.n + 2 * z = omega (arith, low, rest) in
    here.value words ∙ ap (λ s. bit (words s) (position_at t m)) (sym row) ∙ ap (bit (words (index / p.n))) place
