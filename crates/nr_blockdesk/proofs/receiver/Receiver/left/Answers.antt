use Rattle.nr_blockdesk.proofs.Common.{◌≡◌, ◌<◌, ap, ◌∙◌, arith, Peeling, left_of, heard_of, left, ReceiverView}
use Rattle.nr_blockdesk.proofs.Common.{peelers_of, peeling_of, CodeBlock}
use Rattle.nr_blockdesk.proofs.CandidateFacts.{left-known, peeler-at}
use Rattle.nr_blockdesk.proofs.receiver.Receiver.left.Goals as goal

-- the peeler counts the positions below K' that are not fixed
pub returns : goal.returns
returns g c =
    let s = c.self.inside in
    let r = c.args.r in
    let link = s.link in
    let count : s.link.plan.c ≡ c.args.self.now.link.plan.c = ap (λ (v : ReceiverView). v.link.plan.c) c.self.view_is in
    let here : r < s.link.plan.c = omega (arith, count, c.requires) in
    let is : c.index.result.now.peeler ≡ peeling_of link (peelers_of s.code_blocks.items) r =
    ap (λ (b : CodeBlock g.row.K.Denot). b.peeler) c.index.ensures
    ∙ peeler-at link s.stores.items s.code_blocks.items c.self.invariant.desk r c.index.result.now here in
    c.left.ensures.value
    ∙ ap (λ (p : Peeling). left_of p.numbers.kdash p.known) is
    ∙ left-known c.plans_are_sound.ensures link (heard_of s.stores.items r)
    (peeling_of link (peelers_of s.code_blocks.items) r) c.self.invariant.is_link (c.self.invariant.desk.tied r here)
    ∙ ap (λ (v : ReceiverView). left v.link v.heard r) c.self.view_is
