-- The part beyond the first turn becomes shorter.
use Rattle.nr_blockdesk.proofs.Common.{◌-◌, length}
use Rattle.nr_blockdesk.proofs.selected.Selected.+fold_turns.Given as goal

abbrev pub decreases-fold_turns : goal.decreases-fold_turns
decreases-fold_turns l = length l.self.now.value.items - l.turn
