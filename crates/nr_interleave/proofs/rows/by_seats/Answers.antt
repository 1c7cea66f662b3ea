use Rattle.nr_interleave.proofs.Common.{◌∙◌, arith, range_with_len, append_assoc, map-range_with_len_more, bit, row_by_row}
use Rattle.nr_interleave.proofs.Common.{ℕ, ◌+◌, ◌*◌, ◌/◌, ◌%◌, ◌++◌, Bool, [], ◌∷◌, map, sym, ap}
use Rattle.nr_interleave.proofs.SeatFacts.{place-below}
use Rattle.nr_interleave.proofs.rows.by_seats.Goals as goal

pub overflow_add-from : goal.overflow_add-from
overflow_add-from c = grind (arith, place-below)

pub get-requires : goal.get-requires
get-requires c = omega (arith, place-below c.args.qm c.args.count c.loop-k.k c.requires.whole c.loop-k-test.true, c.requires.inside)

-- Bit k, row by row, is in row k / columns and column k % columns. The bits have the columns one after the other.
pub loop-k-preserved : goal.loop-k-preserved
loop-k-preserved c =
    let columns : ℕ = c.args.count / c.args.qm in
    let f : ℕ → Bool = λ k. bit c.args.bits.now.items (c.args.from + (c.args.qm * (k % columns) + k / columns)) in
    let old = c.args.selected.now.items in
    let k = c.loop-k.k in
    record {
      items = c.push_in_room.ensures.items
          ∙ ap (λ xs. xs ++ c.get.result ∷ []) c.loop-k.invariant.items
          ∙ append_assoc old (map f (range_with_len 0 k)) (c.get.result ∷ [])
          ∙ ap (λ b. old ++ (map f (range_with_len 0 k) ++ b ∷ [])) c.get.ensures
          ∙ ap (λ xs. old ++ xs) (sym (map-range_with_len_more f 0 k k (omega arith)));
      room = omega (arith, c.push_in_room.ensures.room, c.loop-k.invariant.room);
    }

pub returns-clause-items : goal.returns-clause-items
unfolding row_by_row
returns-clause-items c = grind arith
