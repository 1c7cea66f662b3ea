-- If the source fails, the octets before that were at most the limit.
use Rattle.std.proofs.KnownBytes.{Consumes-kept}
use Rattle.nr_streams.proofs.source.read_to_end.Goals as goal

pub returns-in-Err-clause-first : goal.returns-in-Err-clause-first
returns-in-Err-clause-first g c _ = (
  c.loop-count.text.items,
  Consumes-kept _ _ _ _ c.loop-count.invariant.taken c.in-Err.ensures.octets,
  c.loop-count.invariant.within,
)
