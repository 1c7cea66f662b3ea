use Rattle.nr_calls.proofs.Common.{◌≡◌, ◌∙◌, ap, sym, subst, arith, List, ℕ, ◌+◌, ◌-◌, ◌*◌, ◌<◌}
use Rattle.nr_calls.proofs.Common.{◌≤◌, below_more, drop, length, drop-drop, get_or-map, map, open_still, verdict, Verdict}
use Rattle.nr_calls.proofs.Common.{block_fits, length-map, length-map-range_with_len, nth_row, true, IsHandedUp}
use Rattle.nr_calls.specs.inside.Words.{row_found}
use Rattle.std.proofs.lemmas.List.FromFn.{get_or-map-range_with_len}
use Rattle.nr_calls.proofs.ManyFacts.{row-before, row-inside, row-long, row-same, row-written}
use Rattle.std.proofs.lemmas.Slice.{drop-put_mid}
use borrow.Rule.Slice.PartMut.{put_mid}
use Rattle.nr_calls.proofs.many.ManyFound.write.Goals as goal

-- The block that is delivered goes into its own row. The rows before keep theirs, and those after are as they were.
pub loop-k-preserved : goal.loop-k-preserved
loop-k-preserved c =
    let size = c.args.self.now.each.block in
    let lasts = c.args.self.now.last.items in
    let n = length lasts in
    let k = c.loop-k.k in
    let inv = c.loop-k.invariant in
    let below : k < n = omega (arith, c.loop-k-test.true, c.len-k-end.ensures) in
    let inside : k * size + size ≤ length c.loop-k.blocks =
    row-inside size k n _ below (c.loop-k.auto.blocks ∙ c.requires.block) in
    let next : (k + 1) * size ≡ k * size + size = omega arith in
    record {
      so_far = below_more _ _
          (λ j lt. rw (row-before size j k _ c.loop-k.blocks c.hand_up.new.block lt inside) (inv.so_far j lt))
          (rw (row-written size k _ c.loop-k.blocks c.hand_up.new.block inside
          (c.hand_up.auto.block ∙ row-long size k c.loop-k.blocks inside))
          (subst (λ (v : Verdict). IsHandedUp v (nth_row size k c.args.blocks.now) c.hand_up.new.block)
          (ap verdict c.index.ensures ∙ sym (get_or-map verdict lasts k c.index.result.now open_still below))
          (subst (λ (b : List ℕ). IsHandedUp (verdict c.index.result.now) b c.hand_up.new.block)
          (row-same size k c.loop-k.blocks c.args.blocks.now inv.later) c.hand_up.ensures)));
      later = ap (λ m. drop m (put_mid (k * size) (k * size + size - k * size) c.loop-k.blocks c.hand_up.new.block)) next
          ∙ drop-put_mid (k * size) _ c.loop-k.blocks c.hand_up.new.block (k * size + size) (omega arith)
          (omega (arith, inside)) (omega (arith, c.hand_up.auto.block, row-long size k c.loop-k.blocks inside))
          ∙ sym (drop-drop size (k * size) c.loop-k.blocks) ∙ ap (drop size) inv.later
          ∙ drop-drop size (k * size) c.args.blocks.now
          ∙ ap (λ m. drop m c.args.blocks.now) (sym next);
    }

-- it fills its row
pub hand_up-requires : goal.hand_up-requires
hand_up-requires c =
    let size = c.args.self.now.each.block in
    let lasts = c.args.self.now.last.items in
    let k = c.loop-k.k in
    let below : k < length lasts = omega (arith, c.loop-k-test.true, c.len-k-end.ensures) in
    let inside : k * size + size ≤ length c.loop-k.blocks =
    row-inside size k (length lasts) _ below (c.loop-k.auto.blocks ∙ c.requires.block) in
    subst (λ (n : ℕ). block_fits n (verdict c.index.result.now) ≡ true) (sym (row-long size k c.loop-k.blocks inside))
    (subst (λ (v : Verdict). block_fits size v ≡ true)
    (get_or-map verdict lasts k c.index.result.now open_still below ∙ sym (ap verdict c.index.ensures))
    (c.requires.filled k open_still below))

-- so each block's rows have what is found of it
pub returns : goal.returns
returns c = λ k d below.
    let m = c.args.self.now in
    let lasts = map verdict m.last.items in
    let found = row_found m.each m.outcomes.items m.left.items lasts in
    let many : length lasts ≡ length m.last.items = length-map m.last.items verdict in
    let here : k < length lasts = omega (arith, below, length-map-range_with_len found 0 (length lasts)) in
    rw (get_or-map-range_with_len found 0 (length lasts) k k d here (omega arith)) (record {
      outcomes = ap (nth_row m.each.outcomes k) (c.copy_from_slice.ensures.after ∙ c.deref.ensures.value);
      left = ap (nth_row m.each.left k) (c.copy_from_slice-2.ensures.after ∙ c.deref-2.ensures.value);
      block = c.loop-k.invariant.so_far k (omega (arith, here, many, c.loop-k-test.false, c.len-k-end.ensures));
    })
