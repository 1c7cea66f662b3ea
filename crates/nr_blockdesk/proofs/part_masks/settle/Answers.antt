use Rattle.nr_blockdesk.proofs.Common.{◌≡◌, ℕ, ◌+◌, ◌*◌, ◌/◌, ◌%◌, ◌≤◌, length, sym, subst}
use Rattle.nr_blockdesk.proofs.Common.{◌∙◌, arith, heards_of, marks_in, ap}
use Rattle.nr_blockdesk.proofs.Common.{place_of, seat_of, mul-le-mul_right}
use Rattle.nr_blockdesk.specs.inside.{PartMasks.is_listed_both, Receiving.AreSettled}
use Rattle.nr_blockdesk.proofs.{MarkFacts.length-heards, SettlingFacts.settled-passed}
use Rattle.nr_interleave.proofs.SeatFacts.{whole-is}
use Rattle.nr_blockdesk.proofs.part_masks.settle.Goals.{then-has_both, else-has_both}
use Rattle.nr_blockdesk.proofs.part_masks.settle.Goals as goal

-- columns of a part
columns-inside : (qm e column : ℕ) → e % qm ≡ 0 → column ≤ e / qm → qm * column ≤ e
columns-inside qm e column whole most =
    let columns : column * qm ≤ e / qm * qm = mul-le-mul_right qm most in
    omega (arith, columns, whole-is qm e whole)

-- these columns are settled, or no place in them has a position that is told both bits
pub loop-column-preserved : goal.loop-column-preserved
loop-column-preserved c =
    let part = c.args.part.now in
    let b = part.arrival.now.buffer.now in
    let tx = part.arrival.now.tx.now in
    let places = heards_of part in
    let inv = c.loop-column.invariant in
    let column : ℕ = c.loop-column.column in
    let some : ℕ = c.min-some.result in
    let below : column + some ≤ part.count / tx.qm = omega (arith, inv.below, c.min-some.ensures, c.loop-column-test.true) in
    elim c.if-has_both.branch [
      | then-has_both w ↦ record { settled = rw (w.told-is, w.both-is) w.settle_columns-both.ensures.settled; below = below }
      | else-has_both w ↦
          let long : length places ≡ part.count =
          length-heards part.arrival.now.marks.now.heard.items part.arrival.now.marks.now.value.items part.from part.count in
          let all : tx.qm * column + tx.qm * some ≡ tx.qm * (column + some) = omega arith in
          let inside : tx.qm * (column + some) ≤ part.count =
          columns-inside tx.qm part.count (column + some) part.whole below in
          record {
            settled = rw (w.told-is, w.both-is) (subst (λ n. AreSettled b tx places n (marks_in c.loop-column.told)
                c.loop-column.both) all
                (settled-passed b tx places (tx.qm * column) (tx.qm * some) (marks_in c.loop-column.told) c.loop-column.both
                (omega (arith, long, all, inside))
                (λ m low high. ap (λ n. is_listed_both (marks_in c.loop-column.told)
                (place_of b tx.rv (seat_of tx.qm n m))) long
                ∙ c.has_both.ensures w.if-has_both.false m low (omega (arith, high, all)))
                inv.settled));
            below = below;
          }
    ]

pub returns : goal.returns
returns c =
    let part = c.args.part.now in
    let tx = part.arrival.now.tx.now in
    let column : c.loop-column.column ≡ part.count / tx.qm =
    omega (arith, c.loop-column.invariant.below, c.loop-column-test.false) in
    let all : tx.qm * c.loop-column.column ≡ length (heards_of part) =
    ap (λ n. tx.qm * n) column ∙ whole-is tx.qm part.count part.whole
    ∙ sym (length-heards part.arrival.now.marks.now.heard.items part.arrival.now.marks.now.value.items part.from part.count) in
    record { settled = rw all at c.loop-column.invariant.settled }
