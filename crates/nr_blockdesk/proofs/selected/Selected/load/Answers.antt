use Rattle.nr_blockdesk.proofs.Common.{arith, length-drop, length-replicate, length-take-le}
use Rattle.nr_blockdesk.proofs.{SelectedBitFacts.whole-interleaved, SenderFacts.length-interleaved}
use Rattle.nr_blockdesk.proofs.selected.Selected.load.Goals.{then-not-self, else-not-self}
use Rattle.nr_blockdesk.proofs.selected.Selected.load.Goals as goal

pub returns-clause-marks : goal.returns-clause-marks
returns-clause-marks c =
    grind (arith, then-not-self, else-not-self, length-interleaved, length-take-le, length-drop, whole-interleaved)

pub returns-clause-both : goal.returns-clause-both
returns-clause-both c =
    grind (arith, then-not-self, else-not-self, length-interleaved, length-take-le, length-drop, length-replicate)
