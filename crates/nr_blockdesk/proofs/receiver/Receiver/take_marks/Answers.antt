use Rattle.nr_blockdesk.proofs.Common.{◌≡◌, ◌<◌, ◌≤◌, ◌++◌, ℕ, Err, List, length, drop, refl, take}
use Rattle.nr_blockdesk.proofs.Common.{subst, sym, ap, ◌∙◌, arith, err_from_is_err_and, IsOk, length-map, take_at, vec_len}
use Rattle.nr_blockdesk.proofs.Common.{HeardBits, reception_said_of, heards, reception_by, Heard, heard_more}
use Rattle.nr_blockdesk.proofs.Common.{Link, ReceiverView, peelers_of, peeling_of, kept_words, AreEmpty, CodeBlock}
use Rattle.nr_blockdesk.proofs.ReceptionFacts.{AreHeard, desk-taken, fit-of_desk, no_block, none-of, parts-are, peeler-of}
use Rattle.nr_blockdesk.proofs.ReceptionFacts.{reception-never_memory, said_by, words-stay}
use Rattle.nr_blockdesk.proofs.CandidateFacts.{candidate-after, paired-of, sized-of}
use Rattle.nr_blockdesk.proofs.{LinkFacts.link-positions, MarkFacts.room-less, KeptFacts.all-kept}
use Rattle.nr_blockdesk.proofs.TakingFacts.{takes-answered, takes-memory, takes-refused}
use Rattle.nr_blockdesk.proofs.receiver.Receiver.take_marks.Goals.{After-hear, In_err-lengths, In_ok-lengths}
use Rattle.nr_blockdesk.proofs.receiver.Receiver.take_marks.Given as given
use Rattle.nr_blockdesk.proofs.receiver.Receiver.take_marks.Goals as goal

refused : (g : given.Over) (c : In_err-lengths g)
    → reception_said_of c.self.inside.link.plan.c
    (reception_by c.args.tx.now c.args.marks.now.heard.items c.args.marks.now.value.items)
    ≡ Err c.in_err-lengths.field-0.0
refused g c = said_by c.self.inside.link.plan.c c.args.tx.now c.args.marks.now.heard.items c.args.marks.now.value.items
    c.len.result _
    c.len.ensures.value c.in_err-lengths.ensures.said

accepted : (g : given.Over) (c : In_ok-lengths g)
    → IsOk (reception_said_of c.self.inside.link.plan.c
    (reception_by c.args.tx.now c.args.marks.now.heard.items c.args.marks.now.value.items))
accepted g c = grind (arith, said_by)

pub returns-in_err-lengths : goal.returns-in_err-lengths
returns-in_err-lengths g c =
    let p = err_from_is_err_and c.from_residual.result c.from_residual.ensures.1 in
    rw (← c.self.view_is)
    (takes-refused _ _ c.from_residual.result c.in_err-lengths.field-0.0 (p.1 ∙ ap Err p.2)
    (refused g (goal.at.returns-in_err-lengths g c).In_err-lengths)
    (reception-never_memory c.self.inside.link.plan.c
    (reception_by c.args.tx.now c.args.marks.now.heard.items c.args.marks.now.value.items)))

pub returns-in_err-list : goal.returns-in_err-list
returns-in_err-list g c =
    let ok = accepted g (goal.at.returns-in_err-list g c).In_ok-lengths in
    grind (arith, err_from_is_err_and, takes-memory, ok)

pub returns-in_err-make_room : goal.returns-in_err-make_room
returns-in_err-make_room g c =
    let ok = accepted g (goal.at.returns-in_err-make_room g c).In_ok-lengths in
    grind (arith, err_from_is_err_and, takes-memory, ok)

pub hear-requires-clause-room : goal.hear-requires-clause-room
hear-requires-clause-room g c = grind (arith, room-less)

pub hear-requires-clause-empty : goal.hear-requires-clause-empty
hear-requires-clause-empty g c =
    let s = c.self.inside in
    let inv = c.self.invariant in
    rw (c.buffer.ensures) (subst (λ n. AreEmpty n s.part_masks)
    (sym (link-positions s.link inv.is_link)) inv.empty)

pub hear-requires-clause-long : goal.hear-requires-clause-long
hear-requires-clause-long g c = λ r inside.
    let s = c.self.inside in
    let inv = c.self.invariant in
    rw (c.deref_mut.ensures.value, c.buffer.ensures)
    (sized-of s.link s.stores.items s.code_blocks.items inv.is_link inv.desk r (no_block s.link)
    (rw c.deref_mut.ensures.value at inside)).stored

pub hear-requires-clause-sized : goal.hear-requires-clause-sized
hear-requires-clause-sized g c = λ r d inside.
    let s = c.self.inside in
    let inv = c.self.invariant in
    rw (c.deref_mut-2.ensures.value, c.buffer.ensures)
    (sized-of s.link s.stores.items s.code_blocks.items inv.is_link inv.desk r d
    (rw (c.deref_mut-2.ensures.value, paired-of s.link s.stores.items s.code_blocks.items inv.desk) at inside)).peeled

-- after all code blocks have received their parts
module _ (g : given.Over) (c : After-hear g) where
  abbrev link : Link
  link = c.self.inside.link

  abbrev places : List Heard
  places = heards c.args.marks.now.heard.items c.args.marks.now.value.items

  abbrev S : List HeardBits
  S = c.self.inside.stores.items

  abbrev B : List (CodeBlock g.row.K.Denot)
  B = c.self.inside.code_blocks.items

  abbrev S' : List HeardBits
  S' = c.hear.new.stores

  abbrev B' : List (CodeBlock g.row.K.Denot)
  B' = c.hear.new.code_blocks

  held : length B ≡ link.plan.c
  held = sym (length-map B (λ (b : CodeBlock g.row.K.Denot). b.word)) ∙ c.self.invariant.sized.many

  are : AreHeard link c.args.tx.now c.in_ok-lengths.lengths.items places S B S' B'
  are = grind (arith, parts-are, held)

  many : length S' ≡ length S
  many = c.hear.ensures.stores ∙ ap length c.deref_mut.ensures.value

  paired : length B' ≡ length B
  paired = c.hear.ensures.code_blocks ∙ ap length c.deref_mut-2.ensures.value

  kept : take (vec_len c.self.inside.stores) (S' ++ drop (length S') S) ≡ S'
  kept = take_at S' (drop (length S') S) (vec_len c.self.inside.stores) (omega (arith, many))

  kept-too : take (vec_len c.self.inside.code_blocks) (B' ++ drop (length B') B) ≡ B'
  kept-too = take_at B' (drop (length B') B) (vec_len c.self.inside.code_blocks) (omega (arith, paired))

  words : kept_words B' ≡ kept_words B
  words = words-stay link c.args.tx.now c.in_ok-lengths.lengths.items places S S' B B' held paired are

  visits-of : (r : ℕ) → r < link.plan.c
      → (peeling_of link (peelers_of B) r).touches ≤ (peeling_of link (peelers_of B') r).touches
  visits-of r block = rw (
    peeler-of B r (no_block link) (none-of link) (omega (arith, held, block)),
    peeler-of B' r (no_block link) (none-of link) (omega (arith, held, paired, block)),
  ) (are r (no_block link) block).visited

  more : S' ≡ heard_more link S (reception_by c.args.tx.now c.args.marks.now.heard.items c.args.marks.now.value.items)
  more =
      all-kept c.parts_are_at.ensures c.places_have_one_owner.ensures c.accepted_are_matched.ensures c.sent_bits_are_at.ensures
      c.record_continues.ensures link c.args.tx.now
      c.in_ok-lengths.lengths.items c.args.marks.now.heard.items c.args.marks.now.value.items c.len.result S S'
      c.self.invariant.is_link
      (fit-of_desk link S B c.self.invariant.desk) c.len.ensures.value c.in_ok-lengths.ensures.said
      c.in_ok-lengths.ensures.whole many (λ r block. (are r (no_block link) block).stored)

-- stores, peelers and candidate still belong together
pub invariant_of-self-2 : goal.invariant_of-self-2
invariant_of-self-2 g c =
    let s = c.self.inside in
    let inv = c.self.invariant in
    let h = (goal.at.invariant_of-self-2 g c).After-hear in
    record {
      is_link = inv.is_link;
      desk = rw (kept g h, kept-too g h)
          (desk-taken (link g h) c.args.tx.now c.in_ok-lengths.lengths.items (places g h) (S g h) (S' g h) (B g h) (B' g h) inv.desk
          (many g h ∙ inv.desk.stores) (paired g h) (are g h));
      room = inv.room;
      sized = rw (kept-too g h, words g h) inv.sized;
      candidate = λ read. rw (kept g h, kept-too g h, words g h)
          (candidate-after (link g h) (S g h) (S' g h) s.block.items (kept_words (B g h))
          (λ r w block. (are g h r (no_block (link g h)) block).stored.fewer w) (inv.candidate read));
      empty = subst (λ n. AreEmpty n c.hear.new.part_masks)
          (rw c.buffer.ensures (link-positions (link g h) inv.is_link))
          c.hear.ensures.empty;
    }

-- and the receiver has answered
pub returns : goal.returns
returns g c =
    let h = (goal.at.returns g c).After-hear in
    let view = c.answer.ensures.same in
    rw (← c.self.view_is)
    (takes-answered c.records_continue.ensures c.delivered_is_only.ensures c.explained_never_contradicts.ensures
    c.explains_by_record.ensures
    c.explained_is_delivered.ensures (link g h) (S' g h)
    (reception_by c.args.tx.now c.args.marks.now.heard.items c.args.marks.now.value.items) c.answer.result
    (record { link = link g h; heard = S g h; peelings = peelers_of (B g h) }) c.answer.new.self refl
    (ap (λ (v : ReceiverView). v.link) view) (ap (λ (v : ReceiverView). v.heard) view ∙ kept g h) c.self.invariant.is_link
    (accepted g (goal.at.returns g c).In_ok-lengths) (more g h)
    (rw (ap (λ (v : ReceiverView). v.peelings) view, kept-too g h) (visits-of g h))
    (rw (kept g h) at c.answer.ensures.decided))
