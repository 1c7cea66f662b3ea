use Rattle.nr_blockdesk.proofs.Common.{sym, subst, arith, length-replicate, IsStarted, IsTied}
use Rattle.nr_blockdesk.proofs.CandidateFacts.{taught-tied, untaught-tied}
use Rattle.nr_blockdesk.proofs.code_block.CodeBlock.new.Goals.{then-not-has_no_mark, else-not-has_no_mark}
use Rattle.nr_blockdesk.proofs.code_block.CodeBlock.new.Goals as goal

-- the new peeler has learned the store's first bits, if there are any
pub returns-clause-tied : goal.returns-clause-tied
returns-clause-tied g c =
    let link = c.args.link.now in
    let is = c.is_sound.ensures in
    let start : IsStarted link.table link.graph link.plan c.in-Ok.peeler =
    rw (← c.table.ensures, ← c.plan.ensures.graph, ← c.plan.ensures.numbers) c.in-Ok.ensures.started in
    elim c.if-not-has_no_mark.branch [
      | then-not-has_no_mark w ↦
          subst (IsTied link c.args.store.now) (sym w.peeler-is)
          (taught-tied c.plans_are_sound.ensures link c.args.store.now c.in-Ok.peeler
          w.marks-then-not-has_no_mark.result.now.heard.items
          w.marks-then-not-has_no_mark.result.now.value.items is start c.requires w.marks-then-not-has_no_mark.ensures.marks
          w.marks-then-not-has_no_mark.ensures.bits
          w.learn_all.new.self w.learn_all.ensures.code w.learn_all.ensures.given w.learn_all.ensures.words
          w.learn_all.ensures.peeled)
      | else-not-has_no_mark w ↦
          subst (IsTied link c.args.store.now) (sym w.peeler-is)
          (untaught-tied c.plans_are_sound.ensures link c.args.store.now c.in-Ok.peeler c.marks.result.now.heard.items is start
          c.requires c.marks.ensures.marks (c.has_no_mark.ensures (grind (arith, w.if-not-has_no_mark.false))))
    ]

pub returns-clause-word : goal.returns-clause-word
returns-clause-word g c = grind (arith, length-replicate)
