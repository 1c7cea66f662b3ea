use Rattle.nr_blockdesk.proofs.ClosureDecisionFacts.{decided-only}
use Rattle.nr_blockdesk.proofs.receiver_laws.decided_is_only.Goals as goal

pub returns : goal.returns
returns c = decided-only c.attachment_lengthens.ensures.block c.join_undoes_cut.ensures c.code_blocks_are_long.ensures.bits
    c.words_are_plain.ensures c.checks_are_sound.ensures c.words_agree_on_closure.ensures
