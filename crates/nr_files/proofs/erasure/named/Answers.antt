use Rattle.nr_files.proofs.Common.{◌≡◌, ℕ, map, replicate, ◌∙◌, true, false, arith, fill_by_all, get_or-replicate}
use Rattle.nr_files.proofs.Common.{length-replicate, range_with_len}
use Rattle.std.proofs.lemmas.{List.FromFn.length-map-range_with_len, Result.IfOk-weaker}
use Rattle.nr_files.proofs.erasure.named.Goals as goal

-- one value for each of some numbers
all-same : {X : Type 0} (x : X) (count : ℕ) → replicate count x ≡ map (λ (m : ℕ). x) (range_with_len 0 count)
all-same x count =
    fill_by_all (λ m. x) (replicate count x) count x (length-replicate count x) (λ k below. get_or-replicate count k x x below)

pub returns-in-Nothing : goal.returns-in-Nothing
returns-in-Nothing c =
    IfOk-weaker c.zeros.result _ _ (λ v filled. filled ∙ rw c.in-Nothing.is (all-same false c.args.count)) c.zeros.ensures

pub returns-in-All : goal.returns-in-All
returns-in-All c =
    IfOk-weaker c.ones.result _ _ (λ v filled. filled ∙ rw c.in-All.is (all-same true c.args.count)) c.ones.ensures

pub packed-requires : goal.packed-requires
packed-requires c = grind (arith, length-map-range_with_len)
