use Rattle.nr_blockdesk.proofs.Common.{◌≡◌, ℕ, Bool, true, false, refl, ◌∙◌, arith, length, length-replicate, List}
use Rattle.nr_blockdesk.proofs.Common.{replicate}
use Rattle.nr_blockdesk.proofs.Common.{marks_in, marks_with, bit_says, received_marks}
use Rattle.nr_blockdesk.specs.inside.PartMasks.{is_listed}
use Rattle.nr_blockdesk.proofs.{MergingFacts.empty-bit, SelectedBitFacts.runs-more}
use Rattle.nr_blockdesk.proofs.gather_part.gather_told.Goals as goal

none-told : (zeros ones : List Bool) (n m p : ℕ) (v : Bool) → zeros ≡ replicate n false → ones ≡ replicate m false
    → is_listed (marks_with zeros ones) p v ≡ false
none-told zeros ones n m p false none also = empty-bit zeros n p none
none-told zeros ones n m p true none also = empty-bit ones m p also

-- nothing is told before the first bit
pub loop-k-init : goal.loop-k-init
loop-k-init c =
    let old = c.args.told.now in
    record {
      told = λ p v. none-told old.heard.items c.zero.new.self.items _ _ p v c.requires.empty.marks c.zero.ensures.items;
      below = omega arith;
      long = grind (arith, length-replicate);
    }

-- one run more is told
pub loop-k-preserved : goal.loop-k-preserved
loop-k-preserved c =
    let s = c.args.selected.now in
    record {
      told = runs-more (bit_says c.args.buffer.now c.args.rv (received_marks s) s.value.items) 0 c.loop-k.k
          c.run-position.result.1 c.loop-k.k (omega arith) (λ p v. false) (is_listed (marks_in c.loop-k.told))
          (is_listed (marks_in c.tell_run.new.told)) true true (λ _. c.loop-k.invariant.told)
          (λ _. c.tell_run.ensures.told c.args.buffer.now c.args.rv c.run-position.ensures.places) refl;
      below = omega (arith, c.run-position.ensures.most, c.loop-k-test.true);
      long = c.tell_run.ensures.long ∙ c.loop-k.invariant.long;
    }

pub returns-clause-told : goal.returns-clause-told
returns-clause-told c = λ p v.
    let s = c.args.selected.now in
    let all : c.loop-k.k ≡ length s.value.items =
    omega (arith, c.loop-k.invariant.below, c.loop-k-test.false, c.len-count.ensures.value) in
    rw all at (c.loop-k.invariant.told p v)
