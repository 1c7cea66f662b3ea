use Rattle.nr_calls.proofs.Common.{◌≡◌, ℕ, ◌*◌, ◌<◌, drop, get_or, map, nth_row, open_still, verdict, IsHandedUp}
use Rattle.nr_calls.proofs.many.ManyFound.write.Given as goal

-- the rows so far are written, and the rows for blocks after them are as they were
abbrev pub invariant-loop-k : goal.invariant-loop-k
invariant-loop-k l = record {
  so_far : (k : ℕ) → k < l.k → IsHandedUp (get_or (map verdict l.self.last.items) k open_still)
      (nth_row l.self.each.block k l.fn.blocks) (nth_row l.self.each.block k l.blocks);
  later : drop (l.k * l.self.each.block) l.blocks ≡ drop (l.k * l.self.each.block) l.fn.blocks;
}
