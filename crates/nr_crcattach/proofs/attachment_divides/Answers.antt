use Rattle.nr_crcattach.{specs.Attachment.block_poly, proofs.RemainderFacts.IsDivided-with_check}
use Rattle.nr_crcattach.proofs.attachment_divides.Goals as goal

pub returns-clause-check : goal.returns-clause-check
returns-clause-check c = IsDivided-with_check

pub returns-clause-block : goal.returns-clause-block
returns-clause-block c = λ block. IsDivided-with_check (block_poly block) block
