use Rattle.std.proofs.Common.{◌≡◌, ◌∙◌, ◌++◌, ◌∷◌, [], ℕ, List, arith, drop, length, subst, sym}
use Rattle.std.proofs.Common.{take}
use Rattle.std.specs.Prelude.{slice_index}
use Rattle.std.proofs.lemmas.List.{take-append-le, take_all}
use Rattle.nr_peel.specs.Slices.{slice}
use Rattle.nr_blockdesk.specs.Heard.{heard_record}
use Rattle.nr_blockdesk.specs.Outcome.{left}
use Rattle.nr_blockdesk.specs.Slices.{IsBetween}
use Rattle.nr_calls.specs.inside.Simulating.{drawn_reception}
use Rattle.nr_calls.proofs.side.hear_block.Goals as goal

-- the words are written back whole
pub returns-clause-hears : goal.returns-clause-hears
returns-clause-hears c = λ j r list lengths marks short block said long share fits same between.
    let link = c.args.link.now in
    let new = c.hear_part.new.known in
    let list-after = list ++ drawn_reception (c.args.tx.now, marks) ∷ [] in
    let told = rw (c.deref_mut.ensures.value, c.deref_mut-2.ensures.value, c.deref_mut-3.ensures.value) at
    c.hear_part.ensures.hears in
    let as-many : c.args.known.now.len ≡ length new = omega (arith, c.deref_mut-3.ensures.len, c.hear_part.ensures.long) in
    let back : take c.args.known.now.len (new ++ drop (length new) c.args.known.now.items) ≡ new =
    take-append-le c.args.known.now.len new (drop (length new) c.args.known.now.items) (omega (arith, as-many))
    ∙ take_all c.args.known.now.len new (omega (arith, as-many)) in
    subst (λ (w : List ℕ). IsBetween link list-after r (slice w j)
    × (slice_index c.hear_part.result.1 j ≡ left link (heard_record link list-after) r))
    (sym back)
    (told j r list lengths marks short block said long share fits same between)
