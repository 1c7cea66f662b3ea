use Rattle.nr_ratematch.proofs.Common.{arith, sym, ◌∙◌}
use Rattle.nr_ratematch.proofs.BufferFacts.{cycle-place, place-sent, length-live}
use Rattle.nr_ratematch.proofs.buffer.Buffer.cycle.Goals as goal

-- The cycle leaves out the fillers and begins at k0, or after the fillers if k0 is one, as in TS 38.212, 5.4.2.1.
pub returns-clause-places : goal.returns-clause-places
returns-clause-places c = λ k.
    rw (
      c.min.ensures,
      c.saturating_sub.ensures,
      c.start-start.ensures.value,
      c.min-front.ensures,
      c.min-end.ensures,
      ← c.self.view_is,
    )
    (cycle-place _ c.args.rv k c.self.invariant c.requires)

pub returns-clause-sent : goal.returns-clause-sent
returns-clause-sent c = grind (arith, place-sent)

pub returns-clause-count : goal.returns-clause-count
returns-clause-count c =
    rw (c.min-front.ensures, c.min-end.ensures, ← c.self.view_is)
    (sym (length-live _ c.args.rv c.self.invariant c.requires ∙ omega (arith, c.self.invariant.some, c.self.invariant.held)))
