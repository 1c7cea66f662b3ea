use Rattle.nr_calls.{proofs.Common.◌≡◌, proofs.Common.take, specs.Rooms.digest_entry}
use Rattle.std.specs.Prelude.{fold}
use Rattle.nr_calls.proofs.rooms.digest_of.Given as goal

-- the digest of the entries so far
abbrev pub invariant-loop-entry : goal.invariant-loop-entry
invariant-loop-entry l = l.digest ≡ fold digest_entry 14695981039346656037 (take l.entry-index l.entries)
