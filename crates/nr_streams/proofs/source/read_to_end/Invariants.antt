use Rattle.nr_streams.proofs.Common.{◌≡◌, ◌-◌, ◌<◌, ◌≤◌, length}
use Rattle.std.{proofs.Common.vec_len, specs.Io.KnownBytes.Consumes}
use Rattle.nr_streams.proofs.source.read_to_end.Given as goal

-- the text is what has come so far, and no pull has failed
abbrev pub invariant-loop-count : goal.invariant-loop-count
invariant-loop-count g l = record {
  within : length l.text.items ≤ l.limit;
  taken : Consumes (g.S.Source.remaining l.fn.source) (g.S.Source.remaining l.source) l.text.items;
  sound : g.S.Source.failures l.source ≡ g.S.Source.failures l.fn.source;
  room : 0 < length l.piece;
}

-- each turn that goes on adds an octet
abbrev pub decreases-loop-count : goal.decreases-loop-count
decreases-loop-count g l = l.limit - vec_len l.text
