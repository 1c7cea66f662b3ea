use Rattle.nr_blockdesk.proofs.Common.{◌≡◌, ◌<◌, subst, sym, ap, ◌∙◌, arith, bit, AgreesWith, Peeling, heard_of}
use Rattle.nr_blockdesk.proofs.Common.{Link, word, ReceiverView, peelers_of, peeling_of, IsTied, CodeBlock}
use Rattle.nr_blockdesk.proofs.CandidateFacts.{known-bits, peeler-at}
use Rattle.nr_blockdesk.proofs.receiver.Receiver.peeler.Goals.{After-index}
use Rattle.nr_blockdesk.proofs.receiver.Receiver.peeler.Given as given
use Rattle.nr_blockdesk.proofs.receiver.Receiver.peeler.Goals as goal

module _ (g : given.Over) (c : After-index g) where
  abbrev link : Link
  link = c.self.inside.link

  here : c.args.r < c.self.inside.link.plan.c
  here = omega (arith, ap (λ (v : ReceiverView). v.link.plan.c) c.self.view_is, c.requires)

  is : c.index.result.now.peeler ≡ peeling_of link (peelers_of c.self.inside.code_blocks.items) c.args.r
  is = ap (λ (b : CodeBlock g.row.K.Denot). b.peeler) c.index.ensures
      ∙ peeler-at link c.self.inside.stores.items c.self.inside.code_blocks.items c.self.invariant.desk c.args.r
      c.index.result.now here

  tied : IsTied link (heard_of c.self.inside.stores.items c.args.r) c.index.result.now.peeler
  tied = subst (IsTied link (heard_of c.self.inside.stores.items c.args.r)) (sym is) (c.self.invariant.desk.tied c.args.r here)

-- what ties the peeler to its store, in words of the receiver's view
pub returns : goal.returns
returns g c =
    let at = (goal.at.returns g c).After-index in
    rw (← c.self.view_is) (record {
      table = (tied g at).table;
      graph = (tied g at).graph;
      numbers = (tied g at).numbers;
      given = (tied g at).positions;
      value = is g at;
      bits = λ list block of whole explained.
          subst (λ (p : Peeling). AgreesWith p (bit (word (link g at) block c.args.r))) (sym (is g at))
          (known-bits c.words_are_plain.ensures c.explains_by_record.ensures (link g at) c.self.inside.stores.items
          (peelers_of c.self.inside.code_blocks.items) list block c.args.r
          c.self.invariant.is_link c.self.invariant.desk (here g at) of whole explained);
      peeled = (tied g at).peeled;
      recorded = c.left-left.ensures.recorded;
    })
