use Rattle.nr_blockdesk.proofs.Common.{◌≡◌, ◌+◌, length, refl, sym, ap, ◌∙◌, arith, or-false, length-set, seat_of}
use Rattle.nr_blockdesk.proofs.{Common.slice, Common.place_of, SliceFacts.told_more}
use Rattle.nr_blockdesk.proofs.slices.hear_slices.Goals as goal

pub loop-m-init : goal.loop-m-init
loop-m-init c = record {
  told = λ j p short. sym (or-false (slice c.args.known.now j p));
  long = refl;
  cursors = c.new-cursors.ensures.cursors c.args.buffer.now c.args.rv c.requires.positions;
  places = c.new-cursors.ensures.places;
  given = c.new-cursors.ensures.given;
}

-- one place more is told to the slice that has its position
pub loop-m-preserved : goal.loop-m-preserved
loop-m-preserved c =
    let inv = c.loop-m.invariant in
    let next = c.next.ensures in
    let at : c.next.result ≡ place_of c.args.buffer.now c.args.rv (seat_of c.args.qm (length c.args.arrived.now) c.loop-m.m) =
    next.value ∙ rw (inv.places, inv.given) refl in
    record {
      told = told_more c.args.buffer.now c.args.rv c.args.qm (length c.args.arrived.now) c.loop-m.known c.args.known.now
          c.args.arrived.now c.loop-m.m c.next.result _ (omega (arith, next.inside, inv.long, c.requires.long)) at refl inv.told;
      long = grind (arith, length-set, inv.long);
      cursors = next.cursors;
      places = next.places ∙ inv.places;
      given = next.given ∙ ap (λ n. n + 1) inv.given;
    }
