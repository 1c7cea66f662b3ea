-- The bits so far are read, and there is room for the others. The next is bit k of code block r.
use Rattle.nr_blockdesk.proofs.Common.{◌≡◌, ℕ, ◌+◌, ◌-◌, ◌*◌, ◌<◌, ◌≤◌, length, numbers, share}
use Rattle.nr_blockdesk.proofs.Common.{IsRead, peelers_of}
use Rattle.nr_blockdesk.proofs.candidate.candidate.Given as goal

abbrev pub decreases-loop-i : goal.decreases-loop-i
decreases-loop-i g l = l.a - l.i

abbrev pub invariant-loop-i : goal.invariant-loop-i
invariant-loop-i g l = record {
  long : length l.list.items ≡ l.i;
  below : l.i ≤ l.a;
  block : l.r * share (numbers l.plan) + l.k ≡ l.i;
  place : l.k < share (numbers l.plan);
  room : l.a ≤ l.i + l.list.room;
  read : (t : ℕ) → t < l.i → IsRead (numbers l.plan) (peelers_of l.code_blocks) l.list.items t;
}
