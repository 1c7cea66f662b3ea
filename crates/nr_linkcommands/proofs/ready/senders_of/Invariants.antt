use Rattle.nr_linkcommands.proofs.Common.{drop, length, map, senders_from, ◌+◌, ◌≡◌}
use Rattle.nr_linkcommands.proofs.InputLemmas.{after_senders}
use Rattle.nr_linkcommands.proofs.ready.senders_of.Given as goal

-- the senders so far, followed by those of the blocks that are left, are those of all blocks
abbrev pub invariant-loop-index : goal.invariant-loop-index
invariant-loop-index l = record {
  count : length l.senders.items ≡ l.index;
  so_far : after_senders l.senders.items
      (senders_from l.table l.settings (l.index + 1) (drop l.index (map (λ block. block.items) l.blocks)))
      ≡ senders_from l.table l.settings 1 (map (λ block. block.items) l.blocks);
}
