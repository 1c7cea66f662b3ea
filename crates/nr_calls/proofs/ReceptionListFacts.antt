-- What was received so far of a list of transmissions, and the result for all of them.
use Rattle.nr_calls.proofs.Common.{nat_tests, ◌≡◌, ◌≢◌, err_unless, outcome_of, IsLastBlock, findings_of, heard_said}
use Rattle.nr_calls.proofs.Common.{◌⊎◌, ◌∙◌, ◌≤◌, ◌∷◌, ◌++◌, ◌>>=◌, HeardBits, Reception, DeskFault}
use Rattle.nr_calls.proofs.Common.{◌+◌, ◌<◌, false, Result, length, arith, lt-leb, Gives, IsLink, Verdict, Findings, lefts}
use Rattle.nr_calls.proofs.Common.{length-append, length-map-range_with_len, with_fault, reception_said, outcomes_of, one_more_said}
use Rattle.nr_calls.proofs.Common.{inl, inr, refl, sym, ℕ, Bool, true, Ok, Err, List, [], drop, Link, NrTx, Fault, Found}
use Rattle.nr_calls.{specs.Receiving.arrival, proofs.OutcomeListFacts.answered}
use Rattle.std.proofs.lemmas.Bool.{le-leb}
use Rattle.nr_blockdesk.specs.{Heard.IsRecordOf, ReceiverLaws.DeliveredIsOnly}
use Rattle.nr_transmission.specs.declared.fault.DeskFault.TheVariants as desk
use Rattle.nr_calls.specs.declared.fault.Fault.TheVariants as fault

-- Some of n transmissions were received. These are their record, the outcomes after each, and the last outcome. The
-- result for all is the result for these, followed by the transmissions ts that are left.
pub record HasHeard (link : Link) (records : List HeardBits) (outcomes : List ℕ) (last : Verdict) (n : ℕ)
    (said : Result Findings Fault)
    (ts : List NrTx) (octets : List ℕ) : Type 0 where
  pub list : List Reception
  pub recorded : IsRecordOf link list records
  pub outcomes_are : outcomes ≡ outcomes_of link list
  pub last_is : last ≡ outcome_of link list
  pub many : length list + length ts ≡ n
  pub said_is : said ≡ heard_said link list ts octets

-- a transmission that has its places and no fault leads to the result for the next ones
step-ok : (fits : Bool) (said : Result (List ℕ) DeskFault) (v w : Verdict) (next : Result Findings Fault) → fits ≡ true
    → (with_fault fault.Desk said >>= λ _. Ok w) ≡ Ok v
    → (err_unless (fault.Desk desk.Length) fits >>= λ _. with_fault fault.Desk said >>= λ _. next) ≡ next
step-ok true (Ok l) v w next fits is = refl
step-ok true (Err e) v w next fits is = cc
step-ok false said v w next fits is = cc

-- one that has its places and a fault is refused by it
step-err : (fits : Bool) (said : Result (List ℕ) DeskFault) (e : Fault) (next : Result Findings Fault) → fits ≡ true
    → with_fault {X = List ℕ} fault.Desk said ≡ Err e
    → (err_unless (fault.Desk desk.Length) fits >>= λ _. with_fault fault.Desk said >>= λ _. next) ≡ Err e
step-err true (Ok l) e next fits is = cc
step-err true (Err f) e next fits is = cc
step-err false said e next fits is = cc

-- one that lacks places is refused for it
step-short : (fits : Bool) (rest : Result Findings Fault) → fits ≡ false
    → (err_unless (fault.Desk desk.Length) fits >>= λ _. rest) ≡ Err (fault.Desk desk.Length)
step-short false rest is = refl
step-short true rest is = cc

module _ (link : Link) (records : List HeardBits) (outcomes : List ℕ) (last : Verdict) (n : ℕ)
    (said : Result Findings Fault) where
  -- what is left begins with the next transmission
  split : (all : List NrTx) (t : NrTx) (ts : List NrTx) (octets : List ℕ)
      → HasHeard link records outcomes last n said all octets
      → all ≡ t ∷ ts → HasHeard link records outcomes last n said (t ∷ ts) octets
  split all t ts octets h is = rw is at h

  -- one more was received
  more-heard : (later : List HeardBits) (more : List ℕ) (next : Verdict) (t : NrTx) (ts : List NrTx) (octets : List ℕ)
      → HasHeard link records outcomes last n said (t ∷ ts) octets → t.g ≤ length octets
      → ((list : List Reception) → IsRecordOf link list records → IsRecordOf link (list ++ arrival t octets ∷ []) later)
      → ((list : List Reception) → IsRecordOf link list records → one_more_said link list (arrival t octets) ≡ Ok next)
      → ((list : List Reception) → IsRecordOf link list records → outcomes ≡ outcomes_of link list
      → more ≡ outcomes_of link (list ++ arrival t octets ∷ []))
      → HasHeard link later more next n said ts (drop t.g octets)
  unfolding heard_said
  more-heard later more next t ts octets h fits recorded told-next outcomes-more = grind
      (arith, nat_tests, answered, length-append, step-ok, le-leb)

  -- the result of a call for all, with one more transmission received
  pub heard-more : (new : Link) (later : List HeardBits) (more : List ℕ) (next : Verdict) (all : List NrTx) (t : NrTx)
      (ts : List NrTx) (octets behind : List ℕ) (x : Reception)
      → HasHeard link records outcomes last n said all octets → t.g ≤ length octets
      → ((list : List Reception) → IsRecordOf link list records → IsRecordOf link (list ++ x ∷ []) later)
      → ((list : List Reception) → IsRecordOf link list records → one_more_said link list x ≡ Ok next)
      → ((list : List Reception) → IsRecordOf link list records → outcomes ≡ outcomes_of link list
      → more ≡ outcomes_of link (list ++ x ∷ []))
      → new ≡ link → all ≡ t ∷ ts → x ≡ arrival t octets → behind ≡ drop t.g octets
      → HasHeard new later more next n said ts behind
  heard-more new later more next all t ts octets behind x h fits recorded told-next outcomes-more one is arrives rest =
      rw (one, rest) (more-heard later more next t ts octets (split all t ts octets h is) fits (rw arrives at recorded)
      (rw arrives at told-next) (rw arrives at outcomes-more))

  -- the next one is refused
  pub heard-err : (all : List NrTx) (t : NrTx) (ts : List NrTx) (octets : List ℕ) (x : Reception) (e : Fault)
      (r : Result Found Fault)
      → HasHeard link records outcomes last n said all octets → t.g ≤ length octets
      → ((e ≡ fault.Memory) ⊎ (with_fault {X = List ℕ} fault.Desk (reception_said link x) ≡ Err e)) → r ≡ Err e
      → all ≡ t ∷ ts → x ≡ arrival t octets → Gives fault.Memory findings_of r said
  unfolding heard_said
  heard-err all t ts octets x e r h fits (inl memory) answer is arrives = grind arith
  heard-err all t ts octets x e r h fits (inr refused) answer is arrives = grind (arith, nat_tests, split, step-err, le-leb)

  -- the next one lacks places
  pub heard-short : (all : List NrTx) (t : NrTx) (ts : List NrTx) (octets : List ℕ)
      → HasHeard link records outcomes last n said all octets → length octets < t.g → all ≡ t ∷ ts
      → said ≡ Err (fault.Desk desk.Length)
  unfolding heard_said
  heard-short all t ts octets h short is = grind (arith, nat_tests, split, step-short, lt-leb)

  -- places are left over
  pub heard-over : (ts : List NrTx) (octets : List ℕ) → HasHeard link records outcomes last n said ts octets → length ts ≡ 0
      → length octets ≢ 0 → said ≡ Err (fault.Desk desk.Length)
  unfolding heard_said
  heard-over [] (o ∷ octets) h none some = h.said_is
  heard-over [] [] h none some = absurd (some refl)
  heard-over (t ∷ ts) octets h none some = absurd (omega (arith, none))

  -- all were received
  pub heard-all : (left : List ℕ) (ts : List NrTx) (octets : List ℕ) → HasHeard link records outcomes last n said ts octets
      → length ts ≡ 0 → length octets ≡ 0
      → left ≡ lefts link records → said ≡ Ok (record { outcomes = outcomes; left = left; last = last })
  unfolding heard_said
  heard-all left [] [] h none whole is = grind arith
  heard-all left [] (o ∷ octets) h none whole is = absurd (omega (arith, whole))
  heard-all left (t ∷ ts) octets h none whole is = absurd (omega (arith, none))

  -- an outcome for each transmission
  pub heard-many : (ts : List NrTx) (octets : List ℕ) → HasHeard link records outcomes last n said ts octets → length ts ≡ 0
      → length outcomes ≡ n
  heard-many ts octets h none = grind (arith, length-map-range_with_len)

  -- a block that is delivered has the link's bits
  pub heard-block : (ts : List NrTx) (octets : List ℕ) → DeliveredIsOnly → IsLink link
      → HasHeard link records outcomes last n said ts octets → IsLastBlock link.a last
  heard-block ts octets only sound h block is = (only link h.list block sound h.recorded.accepted (sym h.last_is ∙ is)).is_block
