-- What calls on sixteen processes make of each of them.
use Rattle.nr_blockdesk.proofs.Common.{nat_tests, arith, ◌≡◌, ℕ, ◌<◌, Bool, false, cond, Ok, Err, Option, Some, None}
use Rattle.nr_blockdesk.proofs.Common.{Result, List, [], ◌∷◌, ◌++◌, length, get_or, replicate, IsOk, refl, sym, ap, subst}
use Rattle.nr_blockdesk.proofs.Common.{◌∙◌, cases_eq, eq-eqb, get_or-replicate, get_or-set_same, get_or-set_other, Entries}
use Rattle.nr_blockdesk.proofs.Common.{Reception, IsRecordOf, link_said, ProcessesView, ReceiverView, verdict, DeskFault, Outcome}
use Rattle.nr_blockdesk.{proofs.Common.Settings, specs.Receiving.RefusesAs}
use Rattle.nr_blockdesk.specs.Calls.{Call, HadMemory, Holds, IsAfter, ProcessesAreApart, Round, after_call, answer_after, begin}
use Rattle.nr_blockdesk.specs.Calls.{taken_as, is_on, round_after, round_from, take}
use Rattle.nr_blockdesk.specs.Processing.{BeginsAt, TakesAt, process, with_process}
use Rattle.std.proofs.{Common.filter, Common.OnErr, Common.OnOk, Common.IfOk, lemmas.Bool.cond-false, lemmas.Bool.ne_eqb}
use Rattle.nr_transmission.specs.declared.fault.DeskFault.TheVariants as fault

-- The rounds of one process.
module _ (table : Entries) (settings : Settings) (p : ℕ) where
  round-more : (round : Option Round) (calls : List Call) (call : Call)
      → round_from table settings p round (calls ++ call ∷ [])
      ≡ after_call table settings p (round_from table settings p round calls) call
  unfolding round_from
  round-more round [] call = refl
  round-more round (c ∷ calls) call = round-more (after_call table settings p round c) calls call

  call-apart : (round : Option Round) (call : Call) → is_on p call ≡ false → after_call table settings p round call ≡ round
  call-apart round call off = grind (arith, nat_tests, cond-false)

  own-step : (round : Option Round) (call : Call) (calls : List Call)
      → ((r : Option Round) → round_from table settings p r calls ≡ round_from table settings p r (filter (is_on p) calls))
      → (b : Bool) → is_on p call ≡ b
      → round_from table settings p (after_call table settings p round call) calls
      ≡ round_from table settings p round (cond b (call ∷ filter (is_on p) calls) (filter (is_on p) calls))
  unfolding round_from
  own-step round call calls rest b on = grind (arith, call-apart)

  round-own : (round : Option Round) (calls : List Call)
      → round_from table settings p round calls ≡ round_from table settings p round (filter (is_on p) calls)
  unfolding round_from
  round-own round [] = refl
  round-own round (call ∷ calls) = own-step round call calls (λ r. round-own r calls) (is_on p call) refl

pub calls-apart : ProcessesAreApart
calls-apart table settings p xs ys same = grind (arith, round-own)

pub new-after : (s : ProcessesView) → s.places ≡ replicate 16 None → IsAfter s []
unfolding round_from
new-after s none =
    λ p low. subst (λ o. Holds o None) (sym (ap (λ l. get_or l p None) none ∙ get_or-replicate 16 p None None low)) tt

process-own : (s : ProcessesView) (p : ℕ) (r : ReceiverView) → length s.places ≡ 16 → p < 16
    → process (with_process s p r) p ≡ Some r
process-own s p r long low = get_or-set_same s.places p (Some r) None (subst (λ n. p < n) (sym long) low)

process-other : (s : ProcessesView) (p q : ℕ) (r : ReceiverView) → (q ≡ p → ⊥)
    → process (with_process s p r) q ≡ process s q
process-other s p q r apart = get_or-set_other s.places p q (Some r) None apart

-- After a call that gives process p a receiver.
module _ (s : ProcessesView) (p : ℕ) (r : ReceiverView) (calls : List Call) (call : Call) where
  step-own : length s.places ≡ 16 → p < 16
      → Holds (Some r) (after_call s.table s.settings p (round_after s.table s.settings p calls) call)
      → (q : ℕ) → q ≡ p → Holds (process (with_process s p r) q) (round_after s.table s.settings q (calls ++ call ∷ []))
  step-own long low here q is = rw (is, process-own s p r long low, round-more s.table s.settings p None calls call) here

  step-other : ((q : ℕ) → (q ≡ p → ⊥) → is_on q call ≡ false) → IsAfter s calls
      → (q : ℕ) → q < 16 → (q ≡ p → ⊥)
      → Holds (process (with_process s p r) q) (round_after s.table s.settings q (calls ++ call ∷ []))
  step-other others before q low apart = grind (arith, process-other, round-more, call-apart)

  step : length s.places ≡ 16 → p < 16 → ((q : ℕ) → (q ≡ p → ⊥) → is_on q call ≡ false)
      → Holds (Some r) (after_call s.table s.settings p (round_after s.table s.settings p calls) call)
      → IsAfter s calls → IsAfter (with_process s p r) (calls ++ call ∷ [])
  step long low others here before = grind (arith, step-own, step-other, cases_eq)

-- After a call that changes no round.
stays : (s : ProcessesView) (calls : List Call) (call : Call)
    → ((q : ℕ) → q < 16 → after_call s.table s.settings q (round_after s.table s.settings q calls) call
    ≡ round_after s.table s.settings q calls)
    → IsAfter s calls → IsAfter s (calls ++ call ∷ [])
stays s calls call same before = λ q low. rw (round-more s.table s.settings q None calls call, same q low) (before q low)

-- `begin` of process p.
module _ (s : ProcessesView) (p a : ℕ) (calls : List Call) where
  begin-accepted : (t : ProcessesView) → length s.places ≡ 16 → p < 16 → BeginsAt s t p a → IsAfter s calls
      → IsAfter t (calls ++ begin p a ∷ [])
  begin-accepted t long low begins before = grind (arith, nat_tests, eq-eqb, step, ne_eqb)

  begin-refused : (e : DeskFault) → link_said s.table s.settings a ≡ Err e → IsAfter s calls
      → IsAfter s (calls ++ begin p a ∷ [])
  begin-refused e said before = grind (arith, nat_tests, stays)

pub begin-after : (s t : ProcessesView) (p a : ℕ) (result : Result (Unit {0}) DeskFault) → length s.places ≡ 16 → p < 16
    → RefusesAs fault.Memory result (link_said s.table s.settings a) → OnOk result (BeginsAt s t p a) → OnErr result (t ≡ s)
    → HadMemory result → (calls : List Call) → IsAfter s calls → IsAfter t (calls ++ begin p a ∷ [])
begin-after s t p a result long low refused begins kept had = grind (arith, begin-accepted, begin-refused)

-- The round that a receiver holds.
record HasRound (r : ReceiverView) (o : Option Round) : Type 0 where
  round : Round
  is : o ≡ Some round
  link : r.link ≡ round.link
  heard : IsRecordOf round.link round.list r.heard

has_round : (r : ReceiverView) (o : Option Round) → Holds (Some r) o → HasRound r o
has_round r None holds = absurd holds
has_round r (Some round) holds = record { round = round; is = refl; link = holds.0; heard = holds.1 }

heard-ok : {X : Type 0} (said : Result X DeskFault) (x : Reception) (round : Round) → IsOk said
    → taken_as said x round ≡ record { link = round.link; list = round.list ++ x ∷ [] }
heard-ok said x round ok = grind arith

-- `take` of process p.
module _ (s t : ProcessesView) (p : ℕ) (x : Reception) (calls : List Call) (low : p < 16) (before : IsAfter s calls) where
  round-taken : (result : Result Outcome DeskFault) → (takes : TakesAt s t p x result)
      → HasRound takes.before (round_after s.table s.settings p calls)
  round-taken result takes = grind (arith, has_round)

  after-taken : (answer : Outcome) → (takes : TakesAt s t p x (Ok answer))
      → (has : HasRound takes.before (round_after s.table s.settings p calls))
      → after_call s.table s.settings p (round_after s.table s.settings p calls) (take p x)
      ≡ Some (record { link = has.round.link; list = has.round.list ++ x ∷ [] })
  after-taken answer takes has = grind (arith, nat_tests, eq-eqb, heard-ok)

  take-accepted : (answer : Outcome) → length s.places ≡ 16 → (takes : TakesAt s t p x (Ok answer))
      → IsAfter t (calls ++ take p x ∷ [])
  take-accepted answer long takes = grind (arith, nat_tests, round-taken, after-taken, step, ne_eqb)

  take-refused : (e : DeskFault) → (e ≡ fault.Memory → ⊥) → (takes : TakesAt s t p x (Err e))
      → IsAfter s (calls ++ take p x ∷ [])
  take-refused e had takes = grind (arith, nat_tests, round-taken, stays, cases_eq, eq-eqb, call-apart, ne_eqb)

  take-answers : (answer : Outcome) → TakesAt s t p x (Ok answer)
      → answer_after s p (calls ++ take p x ∷ []) ≡ Some (verdict answer)
  take-answers answer takes = grind (arith, round-taken, round-more, after-taken)

pub take-after : (s t : ProcessesView) (p : ℕ) (x : Reception) (result : Result Outcome DeskFault) → length s.places ≡ 16
    → p < 16
    → TakesAt s t p x result → OnErr result (t ≡ s) → HadMemory result
    → (calls : List Call) → IsAfter s calls → IsAfter t (calls ++ take p x ∷ [])
take-after s t p x (Ok answer) long low takes kept had = λ calls before. take-accepted s t p x calls low before answer long takes
take-after s t p x (Err e) long low takes kept had = λ calls before. rw kept (take-refused s t p x calls low before e had takes)

pub take-answer : (s t : ProcessesView) (p : ℕ) (x : Reception) (result : Result Outcome DeskFault) → p < 16
    → TakesAt s t p x result
    → IfOk result (λ answer. (calls : List Call) → IsAfter s calls
    → answer_after s p (calls ++ take p x ∷ []) ≡ Some (verdict answer))
take-answer s t p x (Ok answer) low takes = λ calls before. take-answers s t p x calls low before answer takes
take-answer s t p x (Err e) low takes = tt
