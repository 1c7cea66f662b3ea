use Rattle.nr_blockdesk.proofs.Common.{◌≡◌, ℕ, ◌+◌, ◌*◌, ◌/◌, ◌%◌, ◌<◌, ◌≤◌, Some, None, length}
use Rattle.nr_blockdesk.proofs.Common.{refl, ap, ◌∙◌}
use Rattle.nr_blockdesk.proofs.Common.{arith, bit, cols_of, given_count, place_count, heard_at, heard_bit, heards_of}
use Rattle.nr_blockdesk.proofs.Common.{marks_in, place_heard, place_of, seat_of, mul-le-mul_right}
use Rattle.nr_blockdesk.proofs.{MarkFacts.heard-at, MarkFacts.length-heards, MarkFacts.some-marked}
use Rattle.nr_blockdesk.proofs.SettlingFacts.{settled-both, settled-none, settled-one}
use Rattle.nr_interleave.proofs.SeatFacts.{whole-is}
use Rattle.nr_blockdesk.proofs.part_masks.settle_columns.Goals.{then-get+then-settle_position, then-get+else-settle_position}
use Rattle.nr_blockdesk.proofs.part_masks.settle_columns.Goals.{else-get}
use Rattle.nr_blockdesk.proofs.part_masks.settle_columns.Goals as goal

-- the places of columns of a part
place-inside : (qm e column count m : ℕ) → e % qm ≡ 0 → column + count ≤ e / qm → m < qm * (column + count) → m < e
place-inside qm e column count m whole most below =
    let columns : (column + count) * qm ≤ e / qm * qm = mul-le-mul_right qm most in
    omega (arith, columns, whole-is qm e whole, below)

pub loop-m-init : goal.loop-m-init
loop-m-init c =
    let b = c.args.part.now.arrival.now.buffer.now in
    let marks : length c.args.told.now.heard.items ≡ cols_of b.graph * b.z = c.requires.settled.long in
    record {
      settled = c.requires.settled;
      cursors = c.at_column-cursors.ensures.cursors b c.args.part.now.arrival.now.tx.now.rv
          (omega (arith, marks, c.is_short.ensures));
      places = c.at_column-cursors.ensures.places;
      given = c.at_column-cursors.ensures.given;
    }

pub next-pos-requires-clause-more : goal.next-pos-requires-clause-more
next-pos-requires-clause-more c =
    let part = c.args.part.now in
    omega (
      arith,
      c.loop-m.invariant.given,
      c.loop-m.invariant.places,
      place-inside part.arrival.now.tx.now.qm part.count
          c.args.column c.args.count c.loop-m.m part.whole c.requires.columns c.loop-m-test.true,
    )

-- one place more: its position is told both bits, or one, or it is erased
pub loop-m-preserved : goal.loop-m-preserved
loop-m-preserved c =
    let part = c.args.part.now in
    let b = part.arrival.now.buffer.now in
    let tx = part.arrival.now.tx.now in
    let places = heards_of part in
    let H = part.arrival.now.marks.now.heard.items in
    let V = part.arrival.now.marks.now.value.items in
    let m : ℕ = c.loop-m.m in
    let inv = c.loop-m.invariant in
    let next = c.next-pos.ensures in
    let pos : ℕ = c.next-pos.result in
    let old = marks_in c.loop-m.told in
    let low : m < part.count =
    place-inside tx.qm part.count c.args.column c.args.count m part.whole c.requires.columns c.loop-m-test.true in
    let below : m < length places = omega (arith, low, length-heards H V part.from part.count) in
    let places-are : place_count tx.qm c.next-pos.new.self ≡ part.count = next.places ∙ inv.places in
    let given-are : given_count tx.qm c.next-pos.new.self ≡ m + 1 = next.given ∙ ap (λ n. n + 1) inv.given in
    let at : pos ≡ place_of b tx.rv (seat_of tx.qm (length places) m) =
    next.value ∙ rw (inv.places, inv.given, length-heards H V part.from part.count) refl in
    let here : heard_at places m ≡ place_heard (bit H (part.from + m)) (bit V (part.from + m)) =
    heard-at H V part.from part.count m low in
    elim c.if-get.branch [
      | then-get+then-settle_position w ↦
          let some : heard_bit (heard_at places m) ≡ Some w.get-bit.result =
          rw (here, ← c.get.ensures, w.if-get.true, some-marked (bit V (part.from + m)), w.get-bit.ensures) refl in
          let e = w.settle_position.ensures in
          record {
            settled = rw (w.told-is, w.both-is) (settled-both b tx places m pos w.get-bit.result below some at old
                (marks_in w.settle_position.new.told) w.settle_position.result e.both e.told e.long c.loop-m.both
                w.if-settle_position.true (omega (arith, next.inside, inv.settled.long)) inv.settled);
            cursors = next.cursors;
            places = places-are;
            given = given-are;
          }
      | then-get+else-settle_position w ↦
          let some : heard_bit (heard_at places m) ≡ Some w.get-bit.result =
          rw (here, ← c.get.ensures, w.if-get.true, some-marked (bit V (part.from + m)), w.get-bit.ensures) refl in
          let e = w.settle_position.ensures in
          record {
            settled = rw (w.told-is, w.both-is) (settled-one b tx places m pos w.get-bit.result below some at old
                (marks_in w.settle_position.new.told) w.settle_position.result e.both e.told e.long c.loop-m.both
                w.if-settle_position.false inv.settled);
            cursors = next.cursors;
            places = places-are;
            given = given-are;
          }
      | else-get w ↦
          let none : heard_bit (heard_at places m) ≡ None = rw (here, ← c.get.ensures, w.if-get.false) refl in
          record {
            settled = rw (w.told-is, w.both-is) (settled-none b tx places m old c.loop-m.both none inv.settled);
            cursors = next.cursors;
            places = places-are;
            given = given-are;
          }
    ]
