use Rattle.nr_lifting.proofs.Names.{[], ap, arith, bit_at, get_or-replicate, get_or-set_other, get_or-set_same, length, length-set}
use Rattle.nr_lifting.proofs.Names.{mod-eq_of_lt, place, replicate, ◌%◌, ◌/◌, ◌<◌, ◌∙◌, ◌≡◌}
use Rattle.nr_lifting.proofs.PlaneLaneFacts.{digits_more, plane_digit}
use Rattle.nr_lifting.proofs.lanes.planes.planes_of.Goals as goal

-- the next plane
pub loop-b-preserved : goal.loop-b-preserved
loop-b-preserved g c =
    let b = c.loop-b.b in
    let word = c.all_of.result in
    let within : b < length c.loop-b.planes = omega (arith, c.loop-b.invariant.long) in
    record {
      numbers = λ t short.
          digits_more b c.args.n _ (plane_digit c.loop-b.planes t) (c.loop-b.invariant.numbers t short)
          (λ k below. ap (λ p. place p t)
          (get_or-set_other c.loop-b.planes b k (replicate g.row.W word) [] (λ e. omega (arith, e, below))))
          (ap (λ p. place p t) (get_or-set_same c.loop-b.planes b (replicate g.row.W word) [] within)
          ∙ ap (λ m. bit_at m (t % 64)) (get_or-replicate g.row.W (t / 64) word 0 (omega (arith, short)))
          ∙ c.all_of.ensures (t % 64) (omega arith));
      long = length-set c.loop-b.planes b (replicate g.row.W word) ∙ c.loop-b.invariant.long;
    }

pub returns : goal.returns
returns g c = λ t short.
    let all : c.loop-b.b ≡ g.row.P = omega arith in
    rw (c.loop-b.invariant.long, ← all) (c.loop-b.invariant.numbers t short ∙ mod-eq_of_lt (rw all c.requires.small))
