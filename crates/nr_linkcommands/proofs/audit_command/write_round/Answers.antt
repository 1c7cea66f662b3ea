use Rattle.nr_linkcommands.proofs.Common.{Some, arith, err_from_is_err_and, head_of, length, receptions_of, round_of, sym}
use Rattle.nr_linkcommands.proofs.Common.{with_text-nil, writes_none, ◌∙◌, ◌≡◌, ◌≤◌}
use Rattle.nr_linkcommands.proofs.AuditFacts.{audit_block-heard, block_of, named-block-of, lines-none, lines-some, lines-there}
use Rattle.nr_linkcommands.proofs.{AuditFacts.round-named, RoundEndFacts.process-fits, SendLemmas.sender-there}
use Rattle.nr_linkcommands.proofs.audit_command.write_round.Goals.{In-Some}
use Rattle.nr_linkcommands.proofs.audit_command.write_round.Given as given
use Rattle.nr_linkcommands.proofs.audit_command.write_round.Goals as goal

-- the block of the round, which is one of the blocks
block : (g : given.Over) (c : In-Some g)
    → block_of c.args.ready.now.schedule.now.by_process c.args.process (round_of c.args.process c.args.before.now)
    ≡ Some c.in-Some.number
block g c = sym (named-block-of _ _ _ _ c.round_in-round.ensures.block) ∙ sym c.block_of.ensures ∙ c.in-Some.is

named : (g : given.Over) (c : In-Some g)
    → (1 ≤ c.in-Some.number) × (c.in-Some.number ≤ length c.args.ready.now.senders.items)
named g c =
    round-named _ (length c.args.ready.now.senders.items) c.in-Some.number c.args.process c.args.before.now
    c.requires.scheduled.named c.requires.placed (block g c)

pub block_of-requires : goal.block_of-requires
block_of-requires g c = process-fits _ _ _ c.args.ready.now.few c.requires.placed

pub overflow_sub-number : goal.overflow_sub-number
overflow_sub-number g c = omega (arith, (named g (goal.at.overflow_sub-number g c).In-Some).0)

pub index-sender-requires : goal.index-sender-requires
index-sender-requires g c =
    let is = named g (goal.at.index-sender-requires g c).In-Some in
    omega (arith, is.0, is.1)

pub returns-in-None-clause-text : goal.returns-in-None-clause-text
returns-in-None-clause-text g c = grind (arith, lines-none, with_text-nil)

pub returns-in_err-receiver-in-Some-clause-text : goal.returns-in_err-receiver-in-Some-clause-text
returns-in_err-receiver-in-Some-clause-text g c =
    let d = (goal.at.returns-in_err-receiver-in-Some-clause-text g c).In-Some in
    let is = named g d in
    let there = sender-there _ c.in-Some.number c.index-sender.result.now (omega (arith, is.0, is.1)) c.index-sender.ensures in
    let p = err_from_is_err_and c.from_residual-in_err-receiver-in-Some.result c.from_residual-in_err-receiver-in-Some.ensures.1 in
    writes_none _ _ p.0 _ p.1 p.2
    (lines-there c.plans_are_sound.ensures _ _ _ _ _ _ (block g d) there c.is_sound.ensures)

pub returns-in_err-head-in-Some-clause-text : goal.returns-in_err-head-in-Some-clause-text
returns-in_err-head-in-Some-clause-text g c =
    let d = (goal.at.returns-in_err-head-in-Some-clause-text g c).In-Some in
    let is = named g d in
    let there = sender-there _ c.in-Some.number c.index-sender.result.now (omega (arith, is.0, is.1)) c.index-sender.ensures in
    let p = err_from_is_err_and c.from_residual.result c.from_residual.ensures.1 in
    writes_none _ _ p.0 _ p.1 p.2
    (lines-there c.plans_are_sound.ensures _ _ _ _ _ _ (block g d) there c.is_sound.ensures)

-- the round is replayed, so the lines are those of its record
pub returns-in_ok-receiver-in-Some-clause-text : goal.returns-in_ok-receiver-in-Some-clause-text
returns-in_ok-receiver-in-Some-clause-text g c =
    let d = (goal.at.returns-in_ok-receiver-in-Some-clause-text g c).In-Some in
    let is = named g d in
    let there = sender-there _ c.in-Some.number c.index-sender.result.now (omega (arith, is.0, is.1)) c.index-sender.ensures in
    let sender = c.index-sender.result.now in
    let round = round_of c.args.process c.args.before.now in
    let heard = rw c.round_in-round.ensures.transmissions at c.in_ok-receiver-in-Some.ensures in
    let lines = audit_block-heard (head_of c.args.ready.now.schedule.now.by_process c.args.process) c.in-Some.number sender
    (receptions_of sender round) _ heard in
    rw (lines-some _ c.args.ready.now.senders.items c.args.process c.in-Some.number round sender (block g d) there ∙ sym lines)
    (rw (c.deref.ensures ∙ c.in_ok-head-in-Some.ensures) at c.write_codes.ensures.text)
