-- The steps by which a link is agreed on, and what they say about it. A sender and a receiver that agreed are its ends.
use Rattle.nr_blockdesk.proofs.Common.{nat_tests, ◌≡◌, Ok, ◌∙◌, ◌∷◌, link_said, DeskFault, IsAccepted, SenderView}
use Rattle.nr_blockdesk.proofs.Common.{arith, true, Result, length, subst, Graph, Entries, IsLink, IsBlock, eq-eqb, tx_said, Heard}
use Rattle.nr_blockdesk.proofs.Common.{Bool, ◌==◌, ◌<◌, ◌*◌, attached, bind-ok, Circular, Numbers, Settings, reception}
use Rattle.nr_blockdesk.proofs.Common.{cols_of, heard_at, word_size}
use Rattle.nr_blockdesk.proofs.Common.{Option, BlocksLengthen, attached_length, CodeBlocksAreLong, ErasuresAreSafe, AcceptedSendAll}
use Rattle.nr_blockdesk.proofs.Common.{with_fault-ok, WordsArePlain, err_unless, length-map, length-zip, what_arrives, arrived_bit}
use Rattle.nr_blockdesk.proofs.Common.{ℕ, Err, sym, ap, [], IsOk, List, map, All, refl, zero, suc, Link, word, sent, Tx, bit}
use Rattle.nr_blockdesk.specs.Link.{LinksAreSound, is_size}
use Rattle.nr_blockdesk.specs.ReceiverLaws.{AreEnds, EndsAreSafe, IsMarked}
use Rattle.nr_graphpick.specs.Graph.{pick_said}
use Rattle.nr_refusal.{specs.Refusal.◌>>=◌, specs.Refusal.with_fault, proofs.ResultFacts.ok-same}
use Rattle.nr_ldpcenc.specs.Codeword.{CodewordsArePlain}
use Rattle.nr_ratematch.{specs.Selection.IsCircular, specs.Selection.buffer_said, proofs.BufferFacts.buffer-circular}
use Rattle.nr_segment.proofs.PlanLemmas.{sound-plan}
use Rattle.nr_segment.specs.Plan.{plan_of}
use Rattle.nr_shifttable.specs.Accepted.{has_graph}
use Rattle.std.{specs.List.zip, proofs.lemmas.List.Elements.All-map}
use Rattle.nr_transmission.specs.declared.fault.DeskFault.TheVariants as fault

pub demanded-ok : (e : DeskFault) (b : Bool) (u : Unit {0}) → err_unless e b ≡ Ok u → b ≡ true
demanded-ok e b u h = grind arith

-- a buffer is the plan's, except for Ncb
abbrev pub buffer_with : Graph → Numbers → ℕ → Circular
buffer_with graph p ncb = record { graph = graph; z = p.z; kdash = p.kdash; k = p.k; ncb = ncb }

buffer-made : (graph : Graph) (p : Numbers) (lbrm : Option ℕ) (b : Circular) → buffer_said graph p lbrm ≡ Ok b
    → b ≡ buffer_with graph p b.ncb
buffer-made graph p lbrm b said = grind (arith, nat_tests)

-- a link's buffer has the numbers of its plan, and is circular
pub link-buffer : (link : Link) → IsLink link → link.buffer ≡ buffer_with link.graph link.plan link.buffer.ncb
link-buffer link is = buffer-made link.graph link.plan is.lbrm link.buffer is.buffered

-- so it has as many positions as a codeword
pub link-positions : (link : Link) → IsLink link → cols_of link.buffer.graph * link.buffer.z ≡ word_size link.graph link.plan
link-positions link is = ap (λ (b : Circular). cols_of b.graph * b.z) (link-buffer link is)

pub link-circular : (link : Link) → IsLink link → IsCircular link.buffer
link-circular link is =
    buffer-circular sound-plan link.graph (attached_length link.a) link.plan is.lbrm link.buffer is.planned is.buffered

pub link-sound : LinksAreSound
unfolding link_said
link-sound table settings a link is said =
    let whole = bind-ok (err_unless fault.Size (is_size a)) _ link said in
    let picks = bind-ok (with_fault fault.Pick (pick_said a settings.rate2048)) _ link whole.2 in
    let plans = bind-ok (with_fault fault.Seg (plan_of picks.0 (attached_length a))) _ link picks.2 in
    let there = bind-ok (err_unless fault.Graph (has_graph picks.0 table)) _ link plans.2 in
    let keeps = bind-ok (with_fault fault.Rm (buffer_said picks.0 plans.0 settings.lbrm)) _ link there.2 in
    let planned = with_fault-ok fault.Seg (plan_of picks.0 (attached_length a)) plans.0 plans.1 in
    let buffered = with_fault-ok fault.Rm (buffer_said picks.0 plans.0 settings.lbrm) keeps.0 keeps.1 in
    subst IsLink (ok-same keeps.2)
    (record {
      size = demanded-ok fault.Size (is_size a) whole.0 whole.1;
      table = is;
      there = demanded-ok fault.Graph (has_graph picks.0 table) there.0 there.1;
      planned = planned;
      lbrm = settings.lbrm;
      buffered = buffered;
    })

-- the link is that for transport blocks of this size
pub link-blocks : (table : Entries) (settings : Settings) (a : ℕ) (link : Link) → link_said table settings a ≡ Ok link
    → a ≡ link.a
unfolding link_said
link-blocks table settings a link said = grind (arith, bind-ok, ok-same)

pub words-plain : BlocksLengthen → CodeBlocksAreLong → CodewordsArePlain → WordsArePlain
unfolding word
words-plain blocks codes plain link block r is whole inside =
    let b : length (attached block) ≡ attached_length link.a = blocks block ∙ ap attached_length whole in
    plain link.table link.graph (attached_length link.a) link.plan _ is.table is.there is.planned
    (codes link.graph (attached_length link.a) link.plan (attached block) r is.planned b inside)

-- no result for a link is `Memory`
err-same : {X : Type 0} {x y : DeskFault} → ◌≡◌ {A = Result X DeskFault} (Err x) (Err y) → x ≡ y
err-same e = cc e

pub never-bind : {X Y : Type 0} (r : Result X DeskFault) (next : X → Result Y DeskFault) → (r ≡ Err fault.Memory → ⊥)
    → ((x : X) → next x ≡ Err fault.Memory → ⊥) → (r >>= next) ≡ Err fault.Memory → ⊥
never-bind r next first rest e = grind (arith, err-same)

pub never-demanded : (d : DeskFault) (b : Bool) → (d ≡ fault.Memory → ⊥) → err_unless d b ≡ Err fault.Memory → ⊥
never-demanded d b other e = grind (arith, err-same)

pub never-with_fault : {X E : Type 0} (f : E → DeskFault) (r : Result X E) → ((d : E) → f d ≡ fault.Memory → ⊥)
    → with_fault f r ≡ Err fault.Memory → ⊥
never-with_fault f r other e = grind (arith, err-same)

never-ok : {X : Type 0} (x : X) → ◌≡◌ {A = Result X DeskFault} (Ok x) (Err fault.Memory) → ⊥
never-ok x e = cc e

pub link-never_memory : (table : Entries) (settings : Settings) (a : ℕ)
    → link_said table settings a ≡ Err fault.Memory → ⊥
unfolding link_said
link-never_memory table settings a = grind (arith, never-bind, never-demanded, never-with_fault, never-ok)

-- so a call that is refused with the link's fault is not refused for memory
pub no-memory : {X Y G : Type 0} (said : Result X DeskFault) (r : Result Y DeskFault) (e : DeskFault) → r ≡ Err e
    → said ≡ Err e
    → (said ≡ Err fault.Memory → ⊥) → r ≡ Err fault.Memory → G
no-memory said r e is refused never memory = absurd (never (refused ∙ ap Err (err-same (sym is ∙ memory))))

-- what arrives of so many bits, with the marks of the erased places
abbrev pub arrived : List Bool → List Bool → List Heard
arrived marks bits = map (λ at. arrived_bit at.0 at.1) (zip marks bits)

length-arrived : (marks bits : List Bool) (g : ℕ) → length marks ≡ g → length bits ≡ g
    → length (arrived marks bits) ≡ g
length-arrived marks bits g marked whole = grind (arith, length-map, length-zip)

pub arrived-place : (marks bits : List Bool) (m : ℕ) → m < length (arrived marks bits)
    → heard_at (arrived marks bits) m ≡ arrived_bit (bit marks m) (bit bits m)
arrived-place [] bits m inside = absurd (omega arith)
arrived-place (k ∷ ks) [] m inside = absurd (omega arith)
arrived-place (k ∷ ks) (b ∷ bs) zero inside = refl
arrived-place (k ∷ ks) (b ∷ bs) (suc m) inside = arrived-place ks bs m (omega arith)

-- what arrives of a marked transmission is accepted
arrived-accepted : AcceptedSendAll → (link : Link) (block : List Bool) (x : Tx × List Bool) → IsMarked link x
    → IsAccepted link (reception x.0 (arrived x.1 (sent link x.0 block)))
arrived-accepted all link block x marked = go (tx_said link x.0) refl marked.0
  where
    places : List Heard
    places = arrived x.1 (sent link x.0 block)

    whole : (length places == x.0.g) ≡ true
    whole = eq-eqb (length places) x.0.g (length-arrived x.1 (sent link x.0 block) x.0.g marked.1 (all link x.0 block marked.0))

    go : (said : Result (List ℕ) DeskFault) → tx_said link x.0 ≡ said → IsOk said → IsAccepted link (reception x.0 places)
    go (Ok lengths) said some = (
      lengths,
      ap (λ s. s >>= λ es. (err_unless fault.Length (length places == x.0.g) >>= λ w. Ok es)) said
          ∙ ap (λ b. err_unless fault.Length b >>= λ w. Ok lengths) whole,
    )
    go (Err e) said none = cc none

abbrev made : Link → List Bool → SenderView
made link block = record { link = link; block = block }

-- what a sender that was said for a block says of its link and of the block
pub made-of : (sender : SenderView) (block : List Bool) (r : Result Link DeskFault)
    → (r >>= λ link. Ok (made link block)) ≡ Ok sender → (r ≡ Ok sender.link) × (sender.block ≡ block)
made-of sender block (Ok link) is = grind arith
made-of sender block (Err e) is = absurd (cc)

pub ends-safe : LinksAreSound → AcceptedSendAll → ErasuresAreSafe → EndsAreSafe
ends-safe sound all safe table settings block sender link txs is-table said agreed marked =
    let first = bind-ok (link_said table settings (length block)) _ sender said in
    let same : link ≡ first.0 = ok-same (sym agreed ∙ first.1) in
    let is-sender : made link block ≡ sender = ap (λ (l : Link). made l block) same ∙ ok-same first.2 in
    let is : IsLink link = sound table settings (length block) link is-table agreed in
    let whole : IsBlock link block = link-blocks table settings (length block) link agreed in
    let accepted : All (IsAccepted link) (what_arrives link block txs) =
    All-map (IsAccepted link)
    (λ (x : Tx × List Bool). reception x.0 (arrived x.1 (sent link x.0 block))) txs
    (λ k d inside. arrived-accepted all link block _ (marked k d inside)) in
    subst (λ (s : SenderView). AreEnds s link txs) is-sender
    (record { same = refl; accepted = accepted; safe = safe link block txs is whole accepted })
