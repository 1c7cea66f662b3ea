use Rattle.nr_calls.proofs.Common.{◌≡◌, ◌<◌, ℕ, [], Bool, List, map, slice_index, take, IsBlock, drawn_round}
use Rattle.nr_calls.proofs.Common.{AreBetween, AreWhole, column, words_in, drawn_reception}
use Rattle.nr_calls.specs.inside.Batches.{HasCome}
use Rattle.nr_calls.proofs.batch.Batch.hear_all.Given as goal

-- the transmissions so far: what each round has heard of them while its block was open, and their result
abbrev pub invariant-loop-k : goal.invariant-loop-k
invariant-loop-k l = record {
  whole : AreWhole l.link (words_in l.self);
  between : (j : ℕ) → j < l.count → slice_index l.self.delivered j ≡ 0
      → AreBetween l.link (map drawn_reception (take l.k (drawn_round l.txs l.thresholds l.seeds j))) j (words_in l.self);
  come : (j : ℕ) (block : List Bool) → j < l.count → IsBlock l.link block
      → HasCome l.link block (drawn_round l.txs l.thresholds l.seeds j) l.k (slice_index l.self.delivered j) [] []
      (column l.self.left.items j) (column l.self.erased.items j);
}
