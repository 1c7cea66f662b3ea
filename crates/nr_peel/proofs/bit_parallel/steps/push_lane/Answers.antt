use Rattle.nr_peel.proofs.Common.{refl, sym, ◌∙◌, ◌*◌, ◌+◌, append-nil, arith, length-append, is_set, step_in}
use Rattle.nr_peel.proofs.StepFacts.{lane_room, lane_steps, row_inside, turned_steps, word_steps, zero_steps}
use Rattle.nr_peel.proofs.bit_parallel.steps.push_lane.Goals.{then-word-ne0, else-word-ne0}
use Rattle.nr_peel.proofs.bit_parallel.steps.push_lane.Goals as goal

pub push_word-requires-clause-rows : goal.push_word-requires-clause-rows
push_word-requires-clause-rows g c =
    let step = step_in c.args.entry.now.row (c.args.entry.now.col * c.args.size) c.args.size c.args.rotation in
    rw c.of-block.ensures.size
    (λ j set. row_inside step c.args.lane.now c.args.size c.requires.clear c.loop-i.i j _ refl (omega arith) set)

-- the steps of each word have room, since those of the whole lane have
pub push_word-requires-clause-room : goal.push_word-requires-clause-room
push_word-requires-clause-room g c =
    let step = step_in c.args.entry.now.row (c.args.entry.now.col * c.args.size) c.args.size c.args.rotation in
    let room = lane_room step c.args.lane.now c.args.size c.requires.clear c.loop-i.i g.row.W (omega arith) (omega arith) in
    rw (
      c.of-block.ensures.row,
      c.of-block.ensures.first,
      c.of-block.ensures.size,
      c.of-block.ensures.rotation,
      word_steps step c.args.lane.now c.args.size c.requires.clear _ _ c.loop-i.i _ refl c.loop-i.invariant.steps,
    ) (grind (arith, length-append, room))

-- the next word's steps are there, if it marks any
pub loop-i-preserved : goal.loop-i-preserved
loop-i-preserved g c =
    let step = step_in c.args.entry.now.row (c.args.entry.now.col * c.args.size) c.args.size c.args.rotation in
    let so_far = c.loop-i.invariant.steps in
    elim c.if-word-ne0.branch [
      | then-word-ne0 w ↦ rw w.taken-is record {
        steps = rw (c.of-block.ensures.row, c.of-block.ensures.first, c.of-block.ensures.size, c.of-block.ensures.rotation)
            at w.push_word.ensures.steps
            ∙ word_steps step c.args.lane.now c.args.size c.requires.clear _ _ c.loop-i.i _ refl so_far;
        capacity = w.push_word.ensures.capacity ∙ c.loop-i.invariant.capacity;
      }
      | else-word-ne0 w ↦ rw w.taken-is record {
        steps = rw (zero_steps (λ b. step (64 * c.loop-i.i + b)), append-nil c.loop-i.taken.items)
            at (word_steps step c.args.lane.now c.args.size c.requires.clear _ _ c.loop-i.i 0 (sym w.if-word-ne0.false) so_far);
        capacity = c.loop-i.invariant.capacity;
      }
    ]

pub returns-clause-steps : goal.returns-clause-steps
returns-clause-steps g c =
    let step = step_in c.args.entry.now.row (c.args.entry.now.col * c.args.size) c.args.size c.args.rotation in
    let rows = lane_steps step c.args.lane.now c.args.size c.requires.clear (64 * c.loop-i.i) (omega arith) in
    let steps = rows ∙ turned_steps c.args.entry.now.row c.args.entry.now.col c.args.size c.args.rotation
    (is_set c.args.lane.now) c.requires.rotation in
    rw (c.replace-taken.ensures.value, steps) at c.loop-i.invariant.steps
