-- Each word holds the marks that its generator has drawn.
use Rattle.nr_drawing.proofs.DrawnWordFacts.{Gathers}
use Rattle.nr_drawing.proofs.draw_both.Given as goal

abbrev pub invariant-loop : goal.invariant-loop
invariant-loop l = record {
  early : Gathers l.threshold l.counter l.first l.fn.early l.early;
  late : Gathers l.threshold l.counter l.second l.fn.late l.late;
}
