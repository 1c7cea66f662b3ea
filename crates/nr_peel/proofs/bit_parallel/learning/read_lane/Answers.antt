use Rattle.nr_peel.proofs.Common.{rules, ap, ◌∙◌, ◌==◌, nat_tests, ◌≡◌, ◌+◌, ◌/◌, ◌≤◌, ℕ, List}
use Rattle.nr_peel.proofs.Common.{cond, length-replicate, replicate, set, arith, cases_lt, bit_at-lt, bit, place, place-zeros}
use Rattle.nr_peel.proofs.{Common.IsWritten, GivenLaneFacts.digit_is}
use Rattle.nr_peel.proofs.bit_parallel.learning.read_lane.Goals.{After-low_bits}
use Rattle.nr_bitvec.proofs.NumberFacts.{cond_one}
use Rattle.std.proofs.Math.Nat.{add_assoc}
use Rattle.nr_lifting.proofs.LaneWordFacts.{written_more}
use Rattle.nr_peel.proofs.bit_parallel.learning.read_lane.Given as given
use Rattle.nr_peel.proofs.bit_parallel.learning.read_lane.Goals as goal

-- no place past the end is set
past_written : (W size n : ℕ) (G : ℕ → ℕ) (lane : List ℕ) → IsWritten size n G lane (replicate W 0) → (t : ℕ)
    → size ≤ t → place lane t ≡ 0
past_written W size n G lane h t past = grind (arith, nat_tests, cases_lt, place-zeros)

-- the next word is read
pub loop-i-preserved : goal.loop-i-preserved
loop-i-preserved g c = search (rules, written_more, digit_is, bit_at-lt, add_assoc, length-replicate {A = ℕ} g.row.W 0)

-- the last word is cut
last_written : (g : given.Over) (c : After-low_bits g)
    → IsWritten c.args.size (c.args.size / 64 + 1) (λ t. cond (bit c.args.bits.now.items (c.args.from + t)) 1 0)
    (set c.loop-i.lane (c.args.size / 64) c.low_bits.result) (replicate g.row.W 0)
last_written g c = search (rules, written_more, digit_is, bit_at-lt, add_assoc, length-replicate {A = ℕ} g.row.W 0)

pub returns-then-rest-ne0 : goal.returns-then-rest-ne0
returns-then-rest-ne0 g c =
    let h = last_written g (goal.at.returns-then-rest-ne0 g c).After-low_bits in
    record {
      bits = λ t below. ap (λ n. n == 1) (h.done t (omega arith) below) ∙ cond_one _;
      clear = past_written _ _ _ _ _ h;
    }

pub returns-else-rest-ne0-clause-clear : goal.returns-else-rest-ne0-clause-clear
returns-else-rest-ne0-clause-clear g c = past_written _ _ _ _ _ c.loop-i.invariant
