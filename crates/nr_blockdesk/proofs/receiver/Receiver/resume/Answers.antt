use Rattle.nr_blockdesk.proofs.Common.{◌≡◌, ◌++◌, ◌<◌, ℕ, [], List, Err, length, drop, take, ap, ◌∙◌, arith}
use Rattle.nr_blockdesk.proofs.Common.{heard_of, Link, heards, reception_by, AreStoresFor, ReceiverView, StoresPart, piece, Heard}
use Rattle.nr_blockdesk.proofs.Common.{IsOk, take_at, err_from_is_err_and, vec_len, HeardBits, reception_said_of, heard_more}
use Rattle.nr_blockdesk.proofs.LinkFacts.{link-positions, no-memory}
use Rattle.nr_blockdesk.proofs.{MarkFacts.room-less, KeptFacts.all-kept, TakingFacts.takes-answered}
use Rattle.nr_blockdesk.proofs.ReceptionFacts.{reception-never_memory, said_by}
use Rattle.nr_blockdesk.proofs.receiver.Receiver.resume.Goals.{After-hear, In_err-lengths, In_ok-lengths}
use Rattle.nr_blockdesk.proofs.receiver.Receiver.resume.Given as given
use Rattle.nr_blockdesk.proofs.receiver.Receiver.resume.Goals as goal

accepted : (g : given.Over) (c : In_ok-lengths g)
    → IsOk (reception_said_of c.args.link.plan.c
    (reception_by c.args.tx.now c.args.marks.now.heard.items c.args.marks.now.value.items))
accepted g c = grind (arith, said_by)

refused : (g : given.Over) (c : In_err-lengths g)
    → reception_said_of c.args.link.plan.c (reception_by c.args.tx.now c.args.marks.now.heard.items c.args.marks.now.value.items)
    ≡ Err c.in_err-lengths.field-0.0
refused g c = said_by c.args.link.plan.c c.args.tx.now c.args.marks.now.heard.items c.args.marks.now.value.items c.len.result _
    c.len.ensures.value c.in_err-lengths.ensures.said

pub returns-in_err-lengths-clause-refused : goal.returns-in_err-lengths-clause-refused
returns-in_err-lengths-clause-refused g c =
    grind (arith, err_from_is_err_and, refused g (goal.at.returns-in_err-lengths-clause-refused g c).In_err-lengths)

pub returns-in_err-lengths-clause-judged : goal.returns-in_err-lengths-clause-judged
returns-in_err-lengths-clause-judged g c =
    let p = err_from_is_err_and c.from_residual.result c.from_residual.ensures.1 in
    no-memory _ c.from_residual.result c.in_err-lengths.field-0.0 (p.1 ∙ ap Err p.2)
    (refused g (goal.at.returns-in_err-lengths-clause-judged g c).In_err-lengths)
    (reception-never_memory c.args.link.plan.c
    (reception_by c.args.tx.now c.args.marks.now.heard.items c.args.marks.now.value.items))

pub hear-requires-clause-room : goal.hear-requires-clause-room
hear-requires-clause-room g c = grind (arith, room-less)

pub hear-requires-clause-long : goal.hear-requires-clause-long
hear-requires-clause-long g c = grind (arith, link-positions c.args.link c.is_sound.ensures)

pub hear-requires-clause-empty : goal.hear-requires-clause-empty
hear-requires-clause-empty g c = grind (arith, link-positions c.args.link c.is_sound.ensures)

-- there is no code block yet
pub hear-requires-clause-sized : goal.hear-requires-clause-sized
hear-requires-clause-sized g c = grind arith

-- after all stores have received their parts
module _ (g : given.Over) (c : After-hear g) where
  abbrev link : Link
  link = c.args.link

  abbrev places : List Heard
  places = heards c.args.marks.now.heard.items c.args.marks.now.value.items

  abbrev S : List HeardBits
  S = c.args.stores.items

  abbrev S' : List HeardBits
  S' = c.hear.new.stores

  many : length S' ≡ length S
  many = c.hear.ensures.stores ∙ ap length c.deref_mut.ensures.value

  kept : take (vec_len c.args.stores) (S' ++ drop (length S') S) ≡ S'
  kept = take_at S' (drop (length S') S) (vec_len c.args.stores) (omega (arith, many))

  parts : (r : ℕ) → r < link.plan.c
      → StoresPart link.buffer c.args.tx.now (piece c.in_ok-lengths.lengths.items places r) (heard_of S r) (heard_of S' r)
  parts r block = grind (arith, many)

  fit : AreStoresFor link S'
  fit = grind (arith, many, parts)

  more : S' ≡ heard_more link S (reception_by c.args.tx.now c.args.marks.now.heard.items c.args.marks.now.value.items)
  more =
      all-kept c.parts_are_at.ensures c.places_have_one_owner.ensures c.accepted_are_matched.ensures c.sent_bits_are_at.ensures
      c.record_continues.ensures link c.args.tx.now
      c.in_ok-lengths.lengths.items c.args.marks.now.heard.items c.args.marks.now.value.items c.len.result S S' c.is_sound.ensures
      c.requires.fit c.len.ensures.value c.in_ok-lengths.ensures.said c.in_ok-lengths.ensures.whole many parts

pub of_stores-requires : goal.of_stores-requires
of_stores-requires g c =
    let h = (goal.at.of_stores-requires g c).After-hear in
    rw (kept g h) (fit g h)

-- the receiver over these stores has answered
pub returns-clause-takes : goal.returns-clause-takes
returns-clause-takes g c =
    let h = (goal.at.returns-clause-takes g c).After-hear in
    let view = c.answer-outcome.ensures.same in
    let linked = ap (λ (v : ReceiverView). v.link) view ∙ c.in_ok-receiver.ensures.link in
    takes-answered c.records_continue.ensures c.delivered_is_only.ensures c.explained_never_contradicts.ensures
    c.explains_by_record.ensures
    c.explained_is_delivered.ensures (link g h) (S' g h)
    (reception_by c.args.tx.now c.args.marks.now.heard.items c.args.marks.now.value.items) c.answer-outcome.result
    (record { link = c.answer-outcome.new.self.link; heard = S g h; peelings = [] }) c.answer-outcome.new.self linked linked
    (ap (λ (v : ReceiverView). v.heard) view ∙ c.in_ok-receiver.ensures.heard ∙ kept g h) c.is_sound.ensures
    (accepted g (goal.at.returns-clause-takes g c).In_ok-lengths) (more g h) (λ r block. omega arith)
    (rw (c.in_ok-receiver.ensures.link, c.in_ok-receiver.ensures.heard, kept g h) at c.answer-outcome.ensures.decided)
