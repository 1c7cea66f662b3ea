use Rattle.nr_interleave.proofs.Common.{◌≡◌, ℕ, Bool, [], ◌∷◌, ◌++◌, length, map, sym, ◌∙◌, ap, arith}
use Rattle.nr_interleave.proofs.Common.{range_with_len, append_assoc, map-range_with_len_more, bit, seat_of, interleaving_of}
use Rattle.nr_interleave.proofs.by_places.Goals as goal

-- The bit at the seat of place m follows those of the places before, in the order of TS 38.212, 5.4.2.2.
pub loop-m-preserved : goal.loop-m-preserved
loop-m-preserved c =
    let bits = c.args.bits.now.items in
    let placed : ℕ → Bool = λ m. bit bits (seat_of c.args.qm (length bits) m) in
    let here : c.get.result ≡ placed c.loop-m.m =
    c.get.ensures
    ∙ ap (λ i. bit bits i) (c.seat.ensures.value ∙ ap (λ e. seat_of c.args.qm e c.loop-m.m) c.len-e.ensures.value) in
    record {
      placed =
          c.push_in_room.ensures.items
          ∙ ap (λ xs. xs ++ c.get.result ∷ []) c.loop-m.invariant.placed
          ∙ append_assoc c.args.spread.now.items (map placed (range_with_len 0 c.loop-m.m)) (c.get.result ∷ [])
          ∙ ap (λ b. c.args.spread.now.items ++ (map placed (range_with_len 0 c.loop-m.m) ++ b ∷ [])) here
          ∙ ap (λ xs. c.args.spread.now.items ++ xs)
          (sym (map-range_with_len_more placed 0 c.loop-m.m c.loop-m.m (omega arith)));
      room = let before = c.loop-m.invariant.room in let one = c.push_in_room.ensures.room in omega arith;
    }

pub returns-clause-items : goal.returns-clause-items
unfolding interleaving_of
returns-clause-items c = grind arith
