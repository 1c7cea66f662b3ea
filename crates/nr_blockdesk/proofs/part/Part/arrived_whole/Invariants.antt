-- Each place so far is marked.
use Rattle.nr_blockdesk.proofs.Common.{◌≡◌, ℕ, ◌+◌, ◌*◌, ◌<◌, true, bit}
use Rattle.nr_blockdesk.proofs.part.Part.arrived_whole.Given as goal

abbrev pub invariant-loop-i : goal.invariant-loop-i
invariant-loop-i l = (m : ℕ) → m < 64 * l.i → bit l.self.arrival.now.marks.now.heard.items (l.self.from + m) ≡ true
