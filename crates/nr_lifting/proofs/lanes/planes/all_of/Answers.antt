use Rattle.nr_lifting.proofs.Names.{bit_at, sym, ◌∙◌, ◌≡◌, bit_at_ones, shr_and_one}
use Rattle.nr_lifting.proofs.lanes.planes.all_of.Goals as goal

pub returns-then-n-b-eq1 : goal.returns-then-n-b-eq1
returns-then-n-b-eq1 c = λ j short.
    let one : bit_at c.args.n c.args.b ≡ 1 = sym (shr_and_one c.args.n c.args.b) ∙ c.if-n-b-eq1.true in
    bit_at_ones 64 j short ∙ sym one
