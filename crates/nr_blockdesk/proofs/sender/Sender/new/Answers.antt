use Rattle.nr_blockdesk.proofs.Common.{◌≡◌, Ok, ◌∙◌, length, sym, ap, subst, arith, err_from_is_err_and, IsBlock}
use Rattle.nr_blockdesk.proofs.{Common.link_said, LinkFacts.link-blocks, LinkFacts.link-never_memory, LinkFacts.no-memory}
use Rattle.nr_blockdesk.proofs.SenderFacts.{sender-kept}
use Rattle.nr_blockdesk.proofs.sender.Sender.new.Goals.{In_ok-link}
use Rattle.nr_blockdesk.proofs.sender.Sender.new.Goals as goal

pub returns-in_err-link-clause-judged : goal.returns-in_err-link-clause-judged
returns-in_err-link-clause-judged c = grind (arith, err_from_is_err_and, no-memory, link-never_memory)

whole : (c : In_ok-link) → IsBlock c.in_ok-link.link c.args.block.now.items
whole c = sym c.len.ensures.value
    ∙ link-blocks c.args.table.now c.args.settings c.len.result c.in_ok-link.link c.in_ok-link.ensures

pub words_of-requires : goal.words_of-requires
words_of-requires c = whole (goal.at.words_of-requires c).In_ok-link

pub invariant_of-result : goal.invariant_of-result
invariant_of-result c =
    (sender-kept c.blocks_are_carried.ensures c.in_ok-link.link c.args.block.now.items c.in_ok-words.words.items
    c.is_sound.ensures (whole (goal.at.invariant_of-result c).In_ok-link) c.in_ok-words.ensures.words).1

pub returns-clause-said : goal.returns-clause-said
returns-clause-said c =
    let link = c.in_ok-link.link in
    let block = c.args.block.now.items in
    let kept = sender-kept c.blocks_are_carried.ensures link block c.in_ok-words.words.items c.is_sound.ensures
    (whole (goal.at.returns-clause-said c).In_ok-link) c.in_ok-words.ensures.words in
    let said : link_said c.args.table.now c.args.settings (length block) ≡ Ok link =
    subst (λ a. link_said c.args.table.now c.args.settings a ≡ Ok link) c.len.ensures.value c.in_ok-link.ensures in
    rw said (ap (λ b. Ok (record { link = link; block = b })) (sym kept.0))
