use Rattle.nr_crcattach.proofs.ResidueFacts.{times_d-xor, residue-suc, residue-append}
use Rattle.nr_crcattach.proofs.residues_add.Goals as goal

pub returns-clause-sum : goal.returns-clause-sum
returns-clause-sum c = times_d-xor

pub returns-clause-power : goal.returns-clause-power
returns-clause-power c = residue-suc

pub returns-clause-joined : goal.returns-clause-joined
returns-clause-joined c = residue-append
