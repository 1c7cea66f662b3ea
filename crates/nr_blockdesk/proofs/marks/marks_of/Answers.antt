use Rattle.nr_blockdesk.proofs.Common.{◌≡◌, ◌+◌, ◌*◌, min, length, refl, ◌∙◌, arith, length-append}
use Rattle.nr_blockdesk.proofs.{Common.length-low_first, MarkFacts.heards-are, MarkFacts.heards-more}
use Rattle.nr_blockdesk.proofs.marks.marks_of.Goals as goal

-- up to 64 places more are marked
pub loop-i-preserved : goal.loop-i-preserved
loop-i-preserved c =
    let inv = c.loop-i.invariant in
    let places = c.args.places.now in
    let marks = c.loop-i.heard.items in
    let bits = c.loop-i.value.items in
    let wide = c.min-wide.result in
    let now = c.gather-marks.result.0 in
    let word = c.gather-marks.result.1 in
    let start : min (64 * c.loop-i.i) (length c.args.places.now) ≡ 64 * c.loop-i.i =
    omega (arith, c.loop-i-test.true, c.div_ceil-i-end.ensures) in
    let next : min (64 * (c.loop-i.i + 1)) (length c.args.places.now) ≡ 64 * c.loop-i.i + c.min-wide.result =
    omega (arith, c.min-wide.ensures, c.loop-i-test.true, c.div_ceil-i-end.ensures) in
    let one : length c.push_word.new.self.items ≡ length marks + wide =
    rw (c.push_word.ensures.items, length-append, length-low_first wide now) refl in
    let two : length c.push_word-in-loop-i.new.self.items ≡ length bits + wide =
    rw (c.push_word-in-loop-i.ensures.items, length-append, length-low_first wide word) refl in
    record {
      marks = omega (arith, one, next, start, inv.marks);
      bits = omega (arith, two, next, start, inv.bits);
      marks_room = omega (arith, one, c.push_word.ensures.room, inv.marks_room);
      bits_room = omega (arith, two, c.push_word-in-loop-i.ensures.room, inv.bits_room);
      part_masks = λ m below. rw (c.push_word.ensures.items, c.push_word-in-loop-i.ensures.items)
          (heards-more places marks bits (64 * c.loop-i.i) wide now word (inv.marks ∙ start) (inv.bits ∙ start)
          (λ k low. inv.part_masks k (omega (arith, low, start))) c.gather-marks.ensures m (omega (arith, below, next)));
    }

pub returns : goal.returns
returns c = grind (arith, heards-are)
