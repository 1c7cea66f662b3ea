use Rattle.nr_crcattach.proofs.RemainderFacts.{length-attached, length-with_check, length-attached_long, length-attached_short}
use Rattle.nr_crcattach.proofs.attachment_lengthens.Goals as goal

pub returns-clause-check : goal.returns-clause-check
returns-clause-check c = length-with_check

pub returns-clause-block : goal.returns-clause-block
returns-clause-block c = length-attached

pub returns-clause-long : goal.returns-clause-long
returns-clause-long c = length-attached_long

pub returns-clause-short : goal.returns-clause-short
returns-clause-short c = length-attached_short
