-- What the transmissions so far have left, and what follows from it.
use Rattle.std.proofs.Common.{◌≡◌, ℕ, ◌⊎◌, inl, inr, Bool, Result, Ok, Err, List, [], ◌∷◌, ◌++◌}
use Rattle.std.proofs.Common.{length, map, cond, ◌+◌, ◌<◌, get_or, take, refl, ap, sym, subst, ◌∙◌}
use Rattle.std.specs.Prelude.{is_ok}
use Rattle.std.proofs.lemmas.List.{append-nil, map-append, take_more}
use Rattle.std.proofs.lemmas.List.Elements.{filter-append}
use Rattle.nr_bitvec.specs.BitList.{BitList}
use Rattle.nr_refusal.specs.Refusal.{◌>>=◌}
use Rattle.nr_refusal.proofs.ResultFacts.{bind-ok}
use Rattle.nr_shifttable.specs.Accepted.{Entries}
use Rattle.nr_blockdesk.specs.Explains.{Explains, Reception, reception_said}
use Rattle.nr_blockdesk.specs.Heard.{IsRecordOf}
use Rattle.nr_blockdesk.specs.Link.{IsBlock, IsLink, Link, WordsArePlain, link_said}
use Rattle.nr_blockdesk.specs.Outcome.{delivered, outcome_of}
use Rattle.nr_blockdesk.specs.OutcomeLaws.{OutcomesAreExact}
use Rattle.nr_blockdesk.specs.ReceiverLaws.{DeliveredIsOnly, ExplainedNeverContradicts, NothingIsOpen}
use Rattle.nr_blockdesk.specs.Receiving.{ReceiverView, Takes, verdict}
use Rattle.nr_blockdesk.specs.Sent.{sent}
use Rattle.nr_blockdesk.specs.declared.outcome.Outcome.{Outcome}
use Rattle.nr_blockdesk.specs.declared.outcome.Outcome.TheVariants as outcome
use Rattle.nr_blockdesk.proofs.LinkFacts.{link-blocks}
use Rattle.nr_transmission.specs.declared.fault.DeskFault.{DeskFault}
use Rattle.nr_transmission.specs.declared.fault.DeskFault.TheVariants as fault
use Rattle.nr_transmission.specs.declared.settings.Settings.{Settings}
use Rattle.nr_theorem.specs.Theorem.{Theorem, accepted, answer_said, bits_in}

-- A block's transmissions were answered, and a receiver has received what arrived of those that are accepted. This is their
-- outcome.
pub record HasCarried (link : Link) (block : List Bool) (list : List Reception) (receiver : ReceiverView)
    (answers : List (Result BitList DeskFault)) (answer : Outcome) : Type 0 where
  pub same : receiver.link ≡ link
  pub heard : IsRecordOf link (accepted link list) receiver.heard
  pub outcome : verdict answer ≡ outcome_of link (accepted link list)
  pub answered : map bits_in answers ≡ map (answer_said link block) list

-- before the first transmission
pub begun : (block : List Bool) (link : Link) (receiver : ReceiverView) → receiver.link ≡ link
    → IsRecordOf receiver.link [] receiver.heard → IsLink link → NothingIsOpen
    → HasCarried link block [] receiver [] outcome.Open
begun block link receiver same empty is nothing = record {
  same = same;
  heard = subst (λ (l : Link). IsRecordOf l [] receiver.heard) same empty;
  outcome = sym (nothing link is);
  answered = refl;
}

-- what is accepted of a list that is one transmission longer
module _ (link : Link) (list : List Reception) (x : Reception) where
  accepted-by : (r : Result (List ℕ) DeskFault) → reception_said link x ≡ r
      → accepted link (list ++ x ∷ []) ≡ accepted link list ++ cond (is_ok r) (x ∷ []) []
  accepted-by r said =
      filter-append (λ y. is_ok (reception_said link y)) list (x ∷ [])
      ∙ ap (λ (q : Result (List ℕ) DeskFault). accepted link list ++ cond (is_ok q) (x ∷ []) []) said

  answered-by : (block : List Bool) (answers : List (Result BitList DeskFault)) (one : Result BitList DeskFault)
      → answer_said link block x ≡ bits_in one → map bits_in answers ≡ map (answer_said link block) list
      → map bits_in (answers ++ one ∷ []) ≡ map (answer_said link block) (list ++ x ∷ [])
  answered-by block answers one said so_far =
      map-append bits_in answers (one ∷ [])
      ∙ ap (λ ys. ys ++ bits_in one ∷ []) so_far
      ∙ ap (λ y. map (answer_said link block) list ++ y ∷ []) (sym said)
      ∙ sym (map-append (answer_said link block) list (x ∷ []))

unanswered : {X Y E : Type 0} (r : Result X E) (y : Y) (e : E) → (r >>= λ x. Ok y) ≡ Err e → r ≡ Err e
unanswered (Ok x) y e is = absurd (cc)
unanswered {X} {Y} {E} (Err d) y e is = let same : d ≡ e = cc in ap Err same

module _ (link : Link) (block : List Bool) (list : List Reception) (old new : ReceiverView)
    (answers : List (Result BitList DeskFault)) (before : Outcome) (x : Reception)
    (had : HasCarried link block list old answers before) where
  -- one more transmission is accepted
  pub one-more : (bits : BitList) (now : Outcome) → answer_said link block x ≡ Ok bits.items → Takes old new x (Ok now)
      → HasCarried link block (list ++ x ∷ []) new (answers ++ Ok bits ∷ []) now
  one-more bits now said takes =
      let some = bind-ok (reception_said link x) (λ lengths. Ok (sent link x.tx block)) bits.items said in
      let longer : accepted link (list ++ x ∷ []) ≡ accepted link list ++ x ∷ [] =
      accepted-by link list x (Ok some.0) some.1 in
      let hears = subst (λ (l : Link). (xs : List Reception) → IsRecordOf l xs old.heard
      → IsRecordOf l (xs ++ x ∷ []) new.heard) had.same takes.heard in
      let answers_now = subst (λ (l : Link). (xs : List Reception) → IsRecordOf l xs old.heard
      → verdict now ≡ outcome_of l (xs ++ x ∷ [])) had.same takes.outcome in
      record {
        same = takes.link ∙ had.same;
        heard = subst (λ (xs : List Reception). IsRecordOf link xs new.heard) (sym longer) (hears (accepted link list) had.heard);
        outcome = answers_now (accepted link list) had.heard ∙ ap (outcome_of link) (sym longer);
        answered = answered-by link list x block answers (Ok bits) said had.answered;
      }

  -- one more transmission is refused
  pub none-more : (e : DeskFault) → answer_said link block x ≡ Err e → new ≡ old
      → HasCarried link block (list ++ x ∷ []) new (answers ++ Err e ∷ []) before
  none-more e said kept =
      let none = unanswered (reception_said link x) (sent link x.tx block) e said in
      let longer : accepted link (list ++ x ∷ []) ≡ accepted link list =
      accepted-by link list x (Err e) none ∙ append-nil (accepted link list) in
      record {
        same = ap (λ (v : ReceiverView). v.link) kept ∙ had.same;
        heard = subst (λ (xs : List Reception). IsRecordOf link xs new.heard) (sym longer)
            (subst (λ (v : ReceiverView). IsRecordOf link (accepted link list) v.heard) (sym kept) had.heard);
        outcome = had.outcome ∙ ap (outcome_of link) (sym longer);
        answered = answered-by link list x block answers (Err e) said had.answered;
      }

-- one more of a list's transmissions is accepted, or refused
module _ (link own : Link) (block whole : List Bool) (list : List Reception) (i : ℕ) (old new : ReceiverView)
    (answers after : List (Result BitList DeskFault)) (before : Outcome) (x : Reception) (inside : i < length list)
    (at : x ≡ get_or list i x) (linked : own ≡ link) (same : whole ≡ block)
    (had : HasCarried link block (take i list) old answers before) where
  longer : take i list ++ x ∷ [] ≡ take (i + 1) list
  longer = ap (λ y. take i list ++ y ∷ []) at ∙ sym (take_more list i x inside)

  said-here : (r : Result (List Bool) DeskFault) → answer_said own whole x ≡ r → answer_said link block x ≡ r
  said-here r said =
      subst (λ (l : Link). answer_said l block x ≡ r) linked (subst (λ bits. answer_said own bits x ≡ r) same said)

  pub next-taken : (bits : BitList) (now : Outcome) → answer_said own whole x ≡ Ok bits.items → Takes old new x (Ok now)
      → after ≡ answers ++ Ok bits ∷ [] → HasCarried link block (take (i + 1) list) new after now
  next-taken bits now said takes pushed =
      subst (λ xs. HasCarried link block xs new after now) longer
      (subst (λ ys. HasCarried link block (take i list ++ x ∷ []) new ys now) (sym pushed)
      (one-more link block (take i list) old new answers before x had bits now (said-here (Ok bits.items) said) takes))

  pub next-refused : (e : DeskFault) → (e ≡ fault.Memory → ⊥)
      → (e ≡ fault.Memory) ⊎ (answer_said own whole x ≡ Err e) → new ≡ old → after ≡ answers ++ Err e ∷ []
      → HasCarried link block (take (i + 1) list) new after before
  next-refused e other (inl memory) kept pushed = absurd (other memory)
  next-refused e other (inr said) kept pushed =
      subst (λ xs. HasCarried link block xs new after before) longer
      (subst (λ ys. HasCarried link block (take i list ++ x ∷ []) new ys before) (sym pushed)
      (none-more link block (take i list) old new answers before x had e (said-here (Err e) said) kept))

-- what is carried after all transmissions is as the theorem says
pub theorem : (table : Entries) (settings : Settings) (block : List Bool) (list : List Reception) (link : Link)
    (receiver : ReceiverView) (answers : List (Result BitList DeskFault)) (answer : Outcome)
    → WordsArePlain → OutcomesAreExact → DeliveredIsOnly → ExplainedNeverContradicts
    → IsLink link → link_said table settings (length block) ≡ Ok link → HasCarried link block list receiver answers answer
    → Theorem table settings block list (record { answers = map bits_in answers; verdict = verdict answer })
theorem table settings block list link receiver answers answer plain exact only never is said had =
    let heard = accepted link list in
    let whole : IsBlock link block = link-blocks table settings (length block) link said in
    let same : outcome_of link heard ≡ verdict answer = sym had.outcome in
    let exactly = exact link heard is had.heard.accepted in
    let one : (x y : List Bool) → verdict answer ≡ delivered x → IsBlock link y × Explains link heard y → y ≡ x =
    λ x y told explains. (only link heard x is had.heard.accepted (same ∙ told)).only y explains.0 explains.1 in
    record {
      link = link;
      agreed = said;
      table = is.table;
      sent = had.answered;
      rows = λ r inside. plain link block r is whole inside;
      delivers = λ x. (λ told. (exactly.delivers x).0 (same ∙ told), λ both. sym same ∙ (exactly.delivers x).1 both);
      opens = (λ told. exactly.opens.0 (same ∙ told), λ left. sym same ∙ exactly.opens.1 left);
      contradicts = (λ told. exactly.contradicts.0 (same ∙ told), λ both. sym same ∙ exactly.contradicts.1 both);
      only = one;
      safe = λ explains. (
        λ told. never link heard block whole explains (same ∙ told),
        λ x told. sym (one x block told (whole, explains)),
      );
    }
