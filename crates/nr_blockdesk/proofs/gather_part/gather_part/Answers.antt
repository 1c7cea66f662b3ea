use Rattle.nr_blockdesk.proofs.Common.{marks_in, ◌≡◌, ◌∙◌, ap, arith, length, min, list_any, range_with_len, or-false}
use Rattle.nr_blockdesk.proofs.{Common.says, Common.bit_says, Common.received_marks, MergingFacts.empty-bit}
use Rattle.nr_blockdesk.proofs.SelectedBitFacts.{runs-more}
use Rattle.nr_blockdesk.proofs.gather_part.gather_part.Goals as goal

pub fold_turns-requires : goal.fold_turns-requires
fold_turns-requires c = record { some = c.turn-turn.ensures.some; both = c.requires.both }

pub loop-k-init : goal.loop-k-init
loop-k-init c = grind (arith, or-false)

-- one run more is in the masks
pub loop-k-preserved : goal.loop-k-preserved
loop-k-preserved c = record {
  part_masks =
      runs-more (bit_says c.args.buffer.now c.args.rv (received_marks c.fold_turns.new.self) c.fold_turns.new.self.value.items)
      0 c.loop-k.k c.run-position.result.1 c.loop-k.k (omega arith)
      (says (marks_in c.args.part_masks.now))
      (says (marks_in c.loop-k.part_masks))
      (says (marks_in c.gather_run-one_bit.new.part_masks))
      c.loop-k.one_bit c.gather_run-one_bit.result c.loop-k.invariant.part_masks
      (λ clean. c.gather_run-one_bit.ensures.part_masks clean c.args.buffer.now c.args.rv c.run-position.ensures.places);
  below = omega (arith, c.run-position.ensures.most, c.loop-k-test.true);
  marks = c.gather_run-one_bit.ensures.marks ∙ c.loop-k.invariant.marks;
  bits = c.gather_run-one_bit.ensures.bits ∙ c.loop-k.invariant.bits;
}

-- the first turn tells what all turns do, since the others were folded into it
pub returns-then-one_bit-clause-part_masks : goal.returns-then-one_bit-clause-part_masks
returns-then-one_bit-clause-part_masks c = λ _ p v.
    let b = c.args.buffer.now in
    let folded = c.fold_turns.new.self in
    let turns = c.fold_turns.ensures.said c.if-not-fold_turns.false b c.args.rv c.turn-turn.ensures.again p v in
    let count : c.loop-k.k ≡ min (length c.args.selected.now.value.items) c.turn-turn.result = omega (
      arith,
      c.loop-k.invariant.below,
      c.loop-k-test.false,
      c.min-count.ensures,
      c.len.ensures.value,
      c.fold_turns.ensures.long,
    ) in
    let so_far : says (marks_in c.loop-k.part_masks) p v
    ≡ list_any (bit_says b c.args.rv (received_marks folded) folded.value.items p v) (range_with_len 0 c.loop-k.k) =
    grind (arith, empty-bit) in
    so_far ∙ ap (λ n. list_any (bit_says b c.args.rv (received_marks folded) folded.value.items p v) (range_with_len 0 n)) count
    ∙ turns
