use Rattle.std.proofs.Common.{◌≡◌, ◌∙◌, ap, refl, sym, arith, ◌+◌, ◌*◌, ◌∷◌, [], Ok, Err}
use Rattle.std.proofs.Common.{⊎_elim, inl, inr, true, get_or, length, map, subst}
use Rattle.std.proofs.lemmas.List.{length-append, length-map}
use Rattle.std.proofs.lemmas.Result.{err_from_is_err_and}
use Rattle.nr_blockdesk.specs.Receiving.{ReceiverView, verdict}
use Rattle.nr_calls.specs.inside.Words.{block_fits, found_of_each, has_room}
use Rattle.nr_refusal.proofs.ResultFacts.{gives-err}
use Rattle.nr_calls.proofs.FoundRowFacts.{no-rows, rows-more}
use Rattle.nr_calls.proofs.ManyFacts.{room-fills, row-fails, row-inside, row-more, rows-all}
use Rattle.nr_calls.specs.declared.fault.Fault.TheVariants as fault
use Rattle.nr_calls.specs.declared.findings.Room.{Room}
use Rattle.nr_calls.specs.Many.{each_said}
use Rattle.nr_calls.proofs.many_rows.hear_rows.Goals as goal

pub loop-k-init : goal.loop-k-init
unfolding each_said
loop-k-init c =
    let new = c.requires.none in
    let none = no-rows c.args.many.now.each _ _ _ new.outcomes new.left (ap (map verdict) new.last) in
    record {
      said = ap Ok (sym none.1);
      each = refl;
      many = ap (λ vs. length (map verdict vs)) new.last;
      rows = none.0;
      link = c.requires.same;
    }

-- What is found of one more row of places follows what was found of those before, and fills the room of a block.
pub loop-k-preserved : goal.loop-k-preserved
loop-k-preserved c =
    let inv = c.loop-k.invariant in
    let link-is = ap (λ (v : ReceiverView). v.link) c.in_ok-receiver.ensures.same in
    let one = rw link-is at c.in_ok-hear_row.ensures.added in
    let more = rows-more c.args.many.now.each _ _ _ inv.rows one.found
    (subst (λ (r : Room). has_room r one.found ≡ true) (sym c.requires.each) one.fills) _ _ _
    one.outcomes one.left one.last in
    record {
      said = row-more _ c.args.rows.places c.args.rows.room.count c.loop-k.k c.args.rows.octets.now _ _
          one.found c.loop-k-test.true inv.said one.is more.1;
      each = c.in_ok-hear_row.ensures.each ∙ inv.each;
      many = ap length one.last ∙ length-append (map verdict c.loop-k.many.last.items) (one.found.last ∷ [])
          ∙ ap (λ n. n + 1) inv.many;
      rows = more.0;
      link = c.in_ok-hear_row.ensures.link ∙ link-is;
    }

-- a row's places are within all of them
pub slice_bounds-row-end : goal.slice_bounds-row-end
slice_bounds-row-end c =
    omega (
      arith,
      row-inside c.args.rows.places c.loop-k.k c.args.rows.room.count (length c.args.rows.octets.now)
          c.loop-k-test.true c.requires.whole,
    )

pub overflow_mul-row : goal.overflow_mul-row
overflow_mul-row c =
    omega (
      arith,
      c.ranges.rows,
      row-inside c.args.rows.places c.loop-k.k c.args.rows.room.count
          (length c.args.rows.octets.now) c.loop-k-test.true c.requires.whole,
    )

pub overflow_mul-row-in-loop-k : goal.overflow_mul-row-in-loop-k
overflow_mul-row-in-loop-k c =
    omega (
      arith,
      c.ranges.rows,
      row-inside c.args.rows.places c.loop-k.k c.args.rows.room.count
          (length c.args.rows.octets.now) c.loop-k-test.true c.requires.whole,
    )

pub overflow_add-row : goal.overflow_add-row
overflow_add-row c =
    omega (
      arith,
      c.ranges.rows,
      row-inside c.args.rows.places c.loop-k.k c.args.rows.room.count
          (length c.args.rows.octets.now) c.loop-k-test.true c.requires.whole,
    )

pub returns-in_err-receiver-clause-said : goal.returns-in_err-receiver-clause-said
returns-in_err-receiver-clause-said c =
    let p = err_from_is_err_and c.from_residual.result c.from_residual.ensures.1 in
    gives-err fault.Memory _ c.from_residual.result c.in_err-receiver.field-0.0 _ (p.1 ∙ ap Err p.2)
    (inl c.in_err-receiver.ensures.err)

-- If memory did not run out, this row is the first that is refused, so its fault is that of all.
pub returns-in_err-hear_row-clause-said : goal.returns-in_err-hear_row-clause-said
returns-in_err-hear_row-clause-said c =
    let e = c.in_err-hear_row.field-0.0 in
    let p = err_from_is_err_and c.from_residual-in_err-hear_row.result c.from_residual-in_err-hear_row.ensures.1 in
    gives-err fault.Memory _ c.from_residual-in_err-hear_row.result e _ (p.1 ∙ ap Err p.2)
    (⊎_elim (λ memory. inl memory)
    (λ said. inr (row-fails _ c.args.rows.places c.args.rows.room.count c.loop-k.k c.args.rows.octets.now
    _ e c.loop-k-test.true c.loop-k.invariant.said said))
    (rw (ap (λ (v : ReceiverView). v.link) c.in_ok-receiver.ensures.same) at c.in_err-hear_row.ensures.refused))

pub returns-clause-said : goal.returns-clause-said
returns-clause-said c =
    let inv = c.loop-k.invariant in
    let many = c.loop-k.many in
    rows-all _ c.args.rows.places c.args.rows.room.count c.loop-k.k c.args.rows.octets.now (found_of_each many)
    (omega (arith, c.loop-k-test.false, c.loop-k.auto.k-end))
    (rw (sym inv.each) at inv.said)

-- The caller's room is so many times that of one block, and as many blocks were found, each of which fills its own.
pub returns-clause-room : goal.returns-clause-room
returns-clause-room c =
    let inv = c.loop-k.invariant in
    let count = c.args.rows.room.count in
    let lasts = c.loop-k.many.last.items in
    let each = c.args.many.now.each in
    let all = room-fills count each c.args.rows.room.all c.requires.fits in
    let of : length (map verdict lasts) ≡ length lasts = length-map lasts verdict in
    let n : count ≡ length (map verdict lasts) =
    omega (arith, c.loop-k-test.false, c.loop-k.auto.k-end, inv.many) in
    record {
      outcomes = all.0 ∙ ap (λ m. m * each.outcomes) n ∙ sym inv.rows.outcomes;
      left = all.1.0 ∙ ap (λ m. m * each.left) n ∙ sym inv.rows.left;
      block = all.1.1 ∙ ap (λ m. m * each.block) (n ∙ of) ∙ ap (λ (r : Room). length lasts * r.block) (sym inv.each);
      filled = λ k d below.
          subst (λ (r : Room). block_fits r.block (get_or (map verdict lasts) k d) ≡ true) (sym inv.each)
          (inv.rows.filled k d (omega (arith, below, of)));
    }
