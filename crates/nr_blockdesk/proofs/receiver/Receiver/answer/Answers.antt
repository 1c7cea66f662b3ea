use Rattle.nr_blockdesk.proofs.Common.{arith, ◌≡◌, ◌==◌, ◌++◌, List, length, take, subst, sym, ap, ◌∙◌}
use Rattle.nr_blockdesk.proofs.Common.{list_all, length-take-le, left_of, ExplainedBy, all_fixed, verdict, IsCandidate, kept_words}
use Rattle.nr_blockdesk.proofs.Common.{CodeBlock}
use Rattle.nr_blockdesk.proofs.CandidateFacts.{all-known, compared, decided-by, paired-of, worded-of}
use Rattle.nr_blockdesk.proofs.receiver.Receiver.answer.Goals.{After-all_known}
use Rattle.nr_blockdesk.proofs.receiver.Receiver.answer.Given as given
use Rattle.nr_blockdesk.proofs.receiver.Receiver.answer.Goals as goal

-- the peelers know all exactly if all is fixed
fixed-is : (g : given.Over) (c : After-all_known g)
    → all_fixed c.self.inside.link
    c.self.inside.stores.items
    ≡ c.all_known.result
fixed-is g c =
    let s = c.self.inside in
    sym (c.all_known.ensures
    ∙ ap (λ (bs : List (CodeBlock g.row.K.Denot)). list_all
    (λ (b : CodeBlock g.row.K.Denot). left_of b.peeler.numbers.kdash b.peeler.known == 0) bs)
    c.deref.ensures.value
    ∙ all-known c.plans_are_sound.ensures s.link s.stores.items s.code_blocks.items
    c.self.invariant.is_link c.self.invariant.desk)

pub returns-then-not-all_known-clause-decided : goal.returns-then-not-all_known-clause-decided
returns-then-not-all_known-clause-decided g c =
    grind (arith, fixed-is g (goal.at.returns-then-not-all_known-clause-decided g c).After-all_known)

pub returns-then-any_clash-clause-decided : goal.returns-then-any_clash-clause-decided
returns-then-any_clash-clause-decided g c =
    let s = c.self.inside in
    let link = s.link in
    let desk = c.self.invariant.desk in
    let clash = rw c.deref-2.ensures.value at (c.any_clash.ensures c.if-any_clash.true) in
    rw (← c.self.view_is) (
      fixed-is g (goal.at.returns-then-any_clash-clause-decided g c).After-all_known ∙ c.if-not-all_known.false,
      λ y whole by. clash (λ r inside. (by r (rw (← desk.stores) inside)).0),
    )

pub read_candidate-requires-clause-all : goal.read_candidate-requires-clause-all
read_candidate-requires-clause-all g c =
    grind (arith, fixed-is g (goal.at.read_candidate-requires-clause-all g c).After-all_known)

pub explains-requires-clause-paired : goal.explains-requires-clause-paired
explains-requires-clause-paired g c =
    let s = c.self.inside in
    rw (c.deref-3.ensures.value, c.deref-4.ensures.value)
    (paired-of s.link s.stores.items s.code_blocks.items c.self.invariant.desk)

pub explains-requires-clause-sized : goal.explains-requires-clause-sized
explains-requires-clause-sized g c = grind (arith, worded-of)

-- the candidate is there, so comparing its codewords with the stores decides
pub returns-clause-decided : goal.returns-clause-decided
returns-clause-decided g c =
    let s = c.self.inside in
    let link = s.link in
    let candidate : IsCandidate link s.stores.items s.block.items (kept_words s.code_blocks.items) =
    c.self.invariant.candidate c.if-not-self.false in
    let copied : c.extend_range.new.self.items ≡ take s.link.a s.block.items =
    c.extend_range.ensures.items ∙ ap (λ l. l ++ take c.a.result s.block.items) c.requires.empty
    ∙ ap (λ n. take n s.block.items) c.a.ensures in
    let is = compared link s.stores.items s.code_blocks.items s.block.items c.explains.result c.self.invariant.desk.stores candidate
    (rw (c.deref-3.ensures.value, c.deref-4.ensures.value) at c.explains.ensures) in
    rw (← c.self.view_is)
    (decided-by link s.stores.items c.extend_range.new.self.items c.explains.result (verdict c.settled.result)
    (fixed-is g (goal.at.returns-clause-decided g c).After-all_known ∙ c.if-not-all_known.false)
    (ap length copied ∙ length-take-le s.link.a s.block.items candidate.held)
    (λ yes. subst (ExplainedBy link s.stores.items) (sym copied) (is.0 yes)) is.1 c.settled.ensures.delivered
    c.settled.ensures.refuted)
