use Rattle.nr_blockdesk.proofs.Common.{◌≡◌, ◌<◌, ℕ, Bool, true, ◌++◌, List, length, drop, take, subst, sym, ap}
use Rattle.nr_blockdesk.proofs.Common.{◌∙◌, arith, take_at, vec_len, HeardBits, codeword, code_bits, Numbers, word_size}
use Rattle.nr_blockdesk.proofs.Common.{IsBlock, Link, ExplainedBy, all_fixed, ReceiverView, peelers_of, verdict, AreWords}
use Rattle.nr_blockdesk.proofs.Common.{IsCandidate, IsDesk, IsRead, kept_words, word_at, CodeBlock}
use Rattle.nr_blockdesk.proofs.CandidateFacts.{begins, candidate-only, candidate-read, compared, decided-by, paired-of}
use Rattle.nr_blockdesk.proofs.CandidateFacts.{wide-peelers, worded-of}
use Rattle.nr_blockdesk.proofs.receiver.Receiver.read_candidate.Goals.{After-encode_words}
use Rattle.nr_blockdesk.proofs.receiver.Receiver.read_candidate.Given as given
use Rattle.nr_blockdesk.proofs.receiver.Receiver.read_candidate.Goals as goal

pub candidate-block-requires-clause-sized : goal.candidate-block-requires-clause-sized
candidate-block-requires-clause-sized g c =
    let inv = c.self.invariant in
    let desk = c.self.inside in
    grind (
      arith,
      wide-peelers c.plans_are_sound.ensures desk.link desk.stores.items desk.code_blocks.items inv.is_link inv.desk,
    )

pub attach_into-requires : goal.attach_into-requires
attach_into-requires g c = grind arith

pub encode_words-requires-clause-whole : goal.encode_words-requires-clause-whole
encode_words-requires-clause-whole g c = grind arith

-- after the transport block was read and encoded
module _ (g : given.Over) (c : After-encode_words g) where
  abbrev link : Link
  link = c.self.inside.link

  abbrev S : List HeardBits
  S = c.self.inside.stores.items

  abbrev B : List (CodeBlock g.row.K.Denot)
  B = c.encode_words.new.code_blocks

  all : all_fixed link S ≡ true
  all = ap (λ (v : ReceiverView). all_fixed v.link v.heard) c.self.view_is ∙ c.requires.all

  long : IsBlock link c.candidate-block.result.items
  long = c.candidate-block.ensures.long ∙ c.a.ensures

  only : (y : List Bool) → IsBlock link y → ExplainedBy link S y → y ≡ c.candidate-block.result.items
  only =
      candidate-only c.plans_are_sound.ensures c.words_are_plain.ensures c.attachment_lengthens.ensures.block
      c.code_blocks_are_long.ensures.bits link S (peelers_of c.self.inside.code_blocks.items) c.candidate-block.result.items
      c.self.invariant.is_link c.self.invariant.desk all
      long (λ i low. subst
      (λ (n : Numbers). IsRead n (peelers_of c.self.inside.code_blocks.items) c.candidate-block.result.items i)
      c.plan-plan.ensures.numbers (rw c.deref.ensures.value at (c.candidate-block.ensures.read i (rw c.a.ensures low))))

  kept : take (vec_len c.self.inside.code_blocks) (B ++ drop (length B) c.self.inside.code_blocks.items) ≡ B
  kept = grind (arith, take_at)

  desk : IsDesk link S (peelers_of B)
  desk =
      subst (IsDesk link S) (sym (c.encode_words.ensures.peelers ∙ ap peelers_of c.deref_mut.ensures.value)) c.self.invariant.desk

  words : AreWords link.plan.c (word_size link.graph link.plan) (kept_words B)
  words =
      subst (λ n. AreWords n (word_size link.graph link.plan) (kept_words B))
      (ap (λ (n : Numbers). n.c) c.plan-plan.ensures.numbers)
      (subst (λ n. AreWords c.plan-plan.result.now.c n (kept_words B)) c.plan-plan.ensures.positions c.encode_words.ensures.words)

  coded : (r : ℕ) → r < link.plan.c → word_at (kept_words B) r
      ≡ codeword link.table link.graph link.plan (code_bits link.plan c.attach_into.new.list.items r)
  coded =
      subst (λ (n : Numbers). (r : ℕ) → r < n.c → word_at (kept_words B) r
      ≡ codeword link.table link.graph n (code_bits n c.attach_into.new.list.items r)) c.plan-plan.ensures.numbers
      (rw (c.table.ensures, c.plan-plan.ensures.graph) at c.encode_words.ensures.encoded)

  candidate : IsCandidate link S c.attach_into.new.list.items (kept_words B)
  candidate =
      candidate-read link S c.attach_into.new.list.items c.candidate-block.result.items (kept_words B) c.attach_into.ensures.items
      long only coded

pub explains-requires-clause-paired : goal.explains-requires-clause-paired
explains-requires-clause-paired g c =
    let at = (goal.at.explains-requires-clause-paired g c).After-encode_words in
    rw (c.deref-2.ensures.value, c.deref-3.ensures.value, kept g at) (paired-of (link g at) (S g at) (B g at) (desk g at))

pub explains-requires-clause-sized : goal.explains-requires-clause-sized
explains-requires-clause-sized g c = grind (arith, kept, worded-of, desk)

-- the candidate that was just read is kept with its codewords
pub invariant_of-self : goal.invariant_of-self
invariant_of-self g c =
    let inv = c.self.invariant in
    let at = (goal.at.invariant_of-self g c).After-encode_words in
    record {
      is_link = inv.is_link;
      desk = rw (kept g at) (desk g at);
      room = omega (arith, inv.room, c.attach_into.ensures.room);
      sized = rw (kept g at) (words g at);
      candidate = λ _. rw (kept g at) (candidate g at);
      empty = inv.empty;
    }

-- comparing the new codewords with the stores decides
pub returns-clause-decided : goal.returns-clause-decided
returns-clause-decided g c =
    let at = (goal.at.returns-clause-decided g c).After-encode_words in
    let block = c.candidate-block.result.items in
    let list = c.attach_into.new.list.items in
    let is = compared (link g at) (S g at) (B g at) list c.explains.result c.self.invariant.desk.stores (candidate g at)
    (rw (c.deref-2.ensures.value, c.deref-3.ensures.value, kept g at) at c.explains.ensures) in
    rw (← c.self.view_is)
    (decided-by (link g at) (S g at) block c.explains.result (verdict c.settled.result) (all g at) (long g at)
    (λ yes. subst (ExplainedBy (link g at) (S g at))
    (begins (link g at) list block c.attach_into.ensures.items (long g at)) (is.0 yes))
    is.1 c.settled.ensures.delivered c.settled.ensures.refuted)
