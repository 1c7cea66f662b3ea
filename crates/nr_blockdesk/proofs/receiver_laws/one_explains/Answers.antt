use Rattle.nr_blockdesk.proofs.ClosureDecisionFacts.{one_explains}
use Rattle.nr_blockdesk.proofs.receiver_laws.one_explains.Goals as goal

pub returns : goal.returns
returns c = one_explains c.attachment_lengthens.ensures.block c.join_undoes_cut.ensures c.code_blocks_are_long.ensures.bits
    c.words_are_plain.ensures c.explainers_agree.ensures
