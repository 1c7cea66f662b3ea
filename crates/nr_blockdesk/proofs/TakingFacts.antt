-- What is promised about a reception: one that is refused changes nothing, and one that is taken up is in the record.
use Rattle.nr_blockdesk.proofs.Common.{◌≡◌, ◌∷◌, ◌++◌, [], List, Result, Ok, Err, sym, ◌∙◌, ℕ, ◌<◌}
use Rattle.nr_blockdesk.proofs.Common.{arith, ◌≤◌, IsOk, refl, subst, false≢true, HeardBits, IsAccepted, Reception}
use Rattle.nr_blockdesk.proofs.Common.{reception_said, IsRecordOf, heard_more, IsLink, Link, IsDecided, outcome_of, DeliveredIsOnly}
use Rattle.nr_blockdesk.proofs.Common.{ExplainedIsDelivered, ExplainedNeverContradicts, ExplainsByRecord, RecordsContinue}
use Rattle.nr_blockdesk.proofs.Common.{ReceiverView, verdict, peeling_of, Outcome, DeskFault}
use Rattle.nr_blockdesk.{specs.Receiving.Takes, proofs.CandidateFacts.outcome-of_record, proofs.LinkFacts.no-memory}
use Rattle.nr_transmission.specs.declared.fault.DeskFault.TheVariants as fault

-- for its first fault
pub takes-refused : (old : ReceiverView) (x : Reception) (result : Result Outcome DeskFault) (e : DeskFault) → result ≡ Err e
    → reception_said old.link x ≡ Err e → (reception_said old.link x ≡ Err fault.Memory → ⊥) → Takes old old x result
takes-refused old x result e is said never = grind (arith, no-memory)

-- because memory ran out
pub takes-memory : (old : ReceiverView) (x : Reception) (result : Result Outcome DeskFault) → result ≡ Err fault.Memory
    → IsOk (reception_said old.link x) → Takes old old x result
takes-memory old x result is said = grind arith

accepted-of : (link : Link) (x : Reception) → IsOk (reception_said link x) → IsAccepted link x
accepted-of link x ok = go (reception_said link x) refl ok
  where
    go : (r : Result (List ℕ) DeskFault) → reception_said link x ≡ r → IsOk r → IsAccepted link x
    go (Ok lengths) said is = (lengths, said)
    go (Err e) said is = absurd (false≢true is)

-- one that is taken up makes the record that of one more reception
pub takes-answered : RecordsContinue → DeliveredIsOnly → ExplainedNeverContradicts → ExplainsByRecord → ExplainedIsDelivered
    → (link : Link) (S : List HeardBits) (x : Reception) (o : Outcome) (old new : ReceiverView)
    → old.link ≡ link → new.link ≡ link → new.heard ≡ S → IsLink link → IsOk (reception_said link x)
    → S ≡ heard_more link old.heard x
    → ((r : ℕ) → r < link.plan.c
    → (peeling_of link old.peelings r).touches ≤ (peeling_of link new.peelings r).touches)
    → IsDecided link S (verdict o) → Takes old new x (Ok o)
takes-answered continues only never by_record delivers link S x o old new old-is new-is heard-is is ok kept visits
    decided = record {
      link = new-is ∙ sym old-is;
      refused = rw old-is ok;
      judged = λ memory. rw old-is ok;
      err = tt;
      kept = heard-is ∙ rw old-is kept;
      heard = rw (old-is, heard-is) recorded;
      visits = rw old-is visits;
      decided = rw (old-is, heard-is) decided;
      outcome = rw old-is settled;
      only_one = rw old-is (λ list y z of e whole explained.
          (only link (list ++ x ∷ []) y is (recorded list of).accepted (sym (settled list of) ∙ e)).only z whole explained);
      no_contradiction = rw old-is (λ list y of whole explained e.
          never link (list ++ x ∷ []) y whole explained (sym (settled list of) ∙ e));
    }
  where
    recorded : (list : List Reception) → IsRecordOf link list old.heard → IsRecordOf link (list ++ x ∷ []) S
    recorded list of = subst (IsRecordOf link (list ++ x ∷ [])) (sym kept)
        (continues link list old.heard x is (accepted-of link x ok) of)

    settled : (list : List Reception) → IsRecordOf link list old.heard → verdict o ≡ outcome_of link (list ++ x ∷ [])
    settled list of = outcome-of_record by_record delivers only link (list ++ x ∷ []) S o is (recorded list of) decided
