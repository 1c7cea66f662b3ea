-- The calls for a schedule's transmissions leave each process in the schedule's round.
use Rattle.nr_linkcommands.proofs.Common.{AcceptedSendAll, All, All-get_or, All-head, All-tail, Bool, Entries, HasBlock, Link, List}
use Rattle.nr_linkcommands.proofs.Common.{None, Ok, Option, Reception, SenderView, Settings, Some, Transmission, [], ap, append-nil}
use Rattle.nr_linkcommands.proofs.Common.{append_assoc, arith, cond, false, flat_map-append, get_or, length, map, nat_tests}
use Rattle.nr_linkcommands.proofs.Common.{received_of, receptions_of, refl, round_of, sender_of, since_fresh, subst, sym, take}
use Rattle.nr_linkcommands.proofs.Common.{take_more, true, ℕ, ◌++◌, ◌+◌, ◌-◌, ◌<◌, ◌==◌, ◌∙◌, ◌∷◌}
use Rattle.nr_linkcommands.proofs.Common.{◌≡◌, ◌≤◌, zero, suc, get_or_default, All-weaker, slice_get-get_or, IfOk-at_ok}
use Rattle.nr_linkcommands.proofs.Common.{IsAccepted, link_said, sending_said, fresh_block, EachGoesOn, round-more}
use Rattle.nr_linkcommands.specs.RoundCalls.{RoundsAreCalls, calls_of, round_given}
use Rattle.nr_linkcommands.proofs.{ReceptionFacts.one-accepted, RoundTextFacts.received-more}
use Rattle.nr_linkcommands.proofs.ErasureSafetyFacts.{sender-linked, senders-own}
use Rattle.std.{proofs.Common.slice_get, specs.Prelude.option_map, proofs.lemmas.List.take_all}
use Rattle.nr_blockdesk.specs.Calls.{Call, Round, begun_as, after_call, round_after, round_from, round_after_take, taken_as}
use Rattle.nr_files.specs.Schedule.{GoesOn}
use Rattle.nr_blockdesk.specs.Calls as calls

-- what calls make of a process, part by part
from-append : (table : Entries) (settings : Settings) (p : ℕ) (o : Option Round) (xs ys : List Call)
    → round_from table settings p o (xs ++ ys) ≡ round_from table settings p (round_from table settings p o xs) ys
unfolding round_from
from-append table settings p o [] ys = refl
from-append table settings p o (x ∷ xs) ys = from-append table settings p (after_call table settings p o x) xs ys

-- receptions that are taken up, each accepted
taken-one : (link : Link) (list : List Reception) (x : Reception) → IsAccepted link x
    → round_after_take x (record { link = link; list = list }) ≡ record { link = link; list = list ++ x ∷ [] }
taken-one link list x accepted = ap (λ said. taken_as said x (record { link = link; list = list })) accepted.1

taken-all : (table : Entries) (settings : Settings) (p q : ℕ) (link : Link) (list xs : List Reception) → (q == p) ≡ true
    → All (IsAccepted link) xs
    → round_from table settings p (Some (record { link = link; list = list })) (map (calls.take q) xs)
    ≡ Some (record { link = link; list = list ++ xs })
unfolding round_from
taken-all table settings p q link list [] own accepted = ap (λ l. Some (record { link = link; list = l })) (sym (append-nil list))
taken-all table settings p q link list (x ∷ xs) own accepted =
    let here : Option Round = Some (record { link = link; list = list }) in
    ap (λ b. round_from table settings p (cond b (option_map (round_after_take x) here) here) (map (calls.take q) xs)) own
    ∙ ap (λ (round : Round). round_from table settings p (Some round) (map (calls.take q) xs))
    (taken-one link list x (All-head (IsAccepted link) x xs accepted))
    ∙ taken-all table settings p q link (list ++ x ∷ []) xs own (All-tail (IsAccepted link) x xs accepted)
    ∙ ap (λ l. Some (record { link = link; list = l })) (append_assoc list (x ∷ []) xs)

-- calls on another process
taken-none : (table : Entries) (settings : Settings) (p q : ℕ) (o : Option Round) (xs : List Reception) → (q == p) ≡ false
    → round_from table settings p o (map (calls.take q) xs) ≡ o
unfolding round_from
taken-none table settings p q o [] other = refl
taken-none table settings p q o (x ∷ xs) other = grind (arith, taken-none table settings p q o xs other)

-- the calls of one transmission
abbrev calls_in : SenderView → Transmission → Bool → List Call
calls_in sender x fresh =
    cond fresh (calls.begin x.process (length sender.block) ∷ []) [] ++ map (calls.take x.process) (received_of sender x)

other-calls : (table : Entries) (settings : Settings) (p : ℕ) (o : Option Round) (sender : SenderView) (x : Transmission)
    (fresh : Bool) → (x.process == p) ≡ false → round_from table settings p o (calls_in sender x fresh) ≡ o
unfolding round_from
other-calls table settings p o sender x true other = grind (arith, taken-none)
other-calls table settings p o sender x false other = taken-none table settings p x.process o (received_of sender x) other

-- a fresh one begins the round of its process
fresh-calls : (table : Entries) (settings : Settings) (p : ℕ) (o : Option Round) (sender : SenderView) (x : Transmission)
    → (x.process == p) ≡ true → link_said table settings (length sender.block) ≡ Ok sender.link
    → All (IsAccepted sender.link) (received_of sender x)
    → round_from table settings p o (calls_in sender x true)
    ≡ Some (record { link = sender.link; list = receptions_of sender (x ∷ []) })
unfolding round_from
fresh-calls table settings p o sender x own linked accepted =
    let rest = map (calls.take x.process) (received_of sender x) in
    ap (λ b. round_from table settings p (cond b (begun_as (link_said table settings (length sender.block)) o) o) rest) own
    ∙ ap (λ said. round_from table settings p (begun_as said o) rest) linked
    ∙ taken-all table settings p x.process sender.link [] (received_of sender x) own accepted
    ∙ ap (λ l. Some (record { link = sender.link; list = l })) (sym (append-nil (received_of sender x)))

-- the sender of a round that goes on with a transmission's block
begun-block : (y x : Transmission) (b : Bool) → cond b (Some y.block) None ≡ Some x.block → y.block ≡ x.block
begun-block y x b is = grind arith

going-on : (table : Entries) (settings : Settings) (p : ℕ) (senders : List SenderView) (sender : SenderView) (x : Transmission)
    (round : List Transmission) → (x.process == p) ≡ true → sender_of senders x.block ≡ Some sender
    → fresh_block round ≡ Some x.block → All (IsAccepted sender.link) (received_of sender x)
    → round_from table settings p (round_given senders round) (calls_in sender x false)
    ≡ round_given senders (round ++ x ∷ [])
going-on table settings p senders sender x [] own there begun accepted = absurd (cc)
going-on table settings p senders sender x (y ∷ more) own there begun accepted =
    let block : y.block ≡ x.block = begun-block y x y.fresh begun in
    let same : sender_of senders y.block ≡ Some sender = ap (sender_of senders) block ∙ there in
    let given : List Transmission → Option SenderView
    → Option Round = λ round. option_map (λ s. record { link = s.link; list = receptions_of s round }) in
    ap (λ o. round_from table settings p (given (y ∷ more) o) (calls_in sender x false)) same
    ∙ taken-all table settings p x.process sender.link (receptions_of sender (y ∷ more)) (received_of sender x) own accepted
    ∙ ap (λ l. Some (record { link = sender.link; list = l })) (sym (received-more sender (y ∷ more) x))
    ∙ ap (given (y ∷ more ++ x ∷ [])) (sym same)

-- the sender at a place
found-at : (P : SenderView → Type 0) (senders : List SenderView) (i : ℕ) → i < length senders → All P senders
    → (sender : SenderView) × (slice_get senders i ≡ Some sender) × P sender
found-at P [] i within all = absurd (omega (arith, within))
found-at P (s ∷ ss) i within all =
    (get_or (s ∷ ss) i s, slice_get-get_or (s ∷ ss) i s within, All-get_or P (s ∷ ss) i s within all)

-- one more transmission
module _ (all : AcceptedSendAll) (table : Entries) (settings : Settings) (senders : List SenderView) (p : ℕ) where
  abbrev Agree : List Transmission → Type 0
  Agree xs = round_after table settings p (calls_of senders xs) ≡ round_given senders (round_of p xs)

  turn : (round : List Transmission) (sender : SenderView) (x : Transmission) (mine fresh : Bool) → (x.process == p) ≡ mine
      → x.fresh ≡ fresh → sender_of senders x.block ≡ Some sender
      → link_said table settings (length sender.block) ≡ Ok sender.link
      → (mine ≡ true → fresh ≡ false → fresh_block round ≡ Some x.block)
      → round_from table settings p (round_given senders round) (calls_in sender x fresh)
      ≡ round_given senders (cond mine (cond fresh (x ∷ []) (round ++ x ∷ [])) round)
  turn round sender x false fresh mine is there linked goes_on =
      other-calls table settings p (round_given senders round) sender x fresh mine
  turn round sender x true true mine is there linked goes_on = grind (arith, fresh-calls, one-accepted)
  turn round sender x true false mine is there linked goes_on = grind (arith, going-on, one-accepted)

  agree-more : (before : List Transmission) (sender : SenderView) (x : Transmission) → sender_of senders x.block ≡ Some sender
      → link_said table settings (length sender.block) ≡ Ok sender.link → GoesOn before x → Agree before
      → Agree (before ++ x ∷ [])
  agree-more before sender x there linked goes_on agree =
      grind (arith, nat_tests, flat_map-append, append-nil, from-append, turn, round-more)

  agree-taken : (xs : List Transmission) (d : Transmission)
      → All (λ (sender : SenderView). link_said table settings (length sender.block) ≡ Ok sender.link) senders
      → All (HasBlock (length senders)) xs → EachGoesOn xs → (i : ℕ) → i ≤ length xs → Agree (take i xs)
  unfolding since_fresh round_from
  agree-taken xs d linked named goes_on zero within = refl
  agree-taken xs d linked named goes_on (suc i) within =
      let inside : i < length xs = omega (arith, within) in
      let x : Transmission = get_or xs i d in
      let has : HasBlock (length senders) x = All-get_or (HasBlock (length senders)) xs i d inside named in
      let found = found-at (λ (sender : SenderView). link_said table settings (length sender.block) ≡ Ok sender.link) senders
      (x.block - 1) (omega (arith, has.0, has.1)) linked in
      let one : suc i ≡ i + 1 = omega arith in
      subst Agree (sym (ap (λ n. take n xs) one ∙ take_more xs i d inside))
      (agree-more (take i xs) found.0 x found.1 found.2 (goes_on i x inside (get_or_default xs i d x inside))
      (agree-taken xs d linked named goes_on i (omega (arith, within))))

  agree : (xs : List Transmission)
      → All (λ (sender : SenderView). link_said table settings (length sender.block) ≡ Ok sender.link) senders
      → All (HasBlock (length senders)) xs → EachGoesOn xs → Agree xs
  unfolding since_fresh round_from
  agree [] linked named goes_on = refl
  agree (x ∷ xs) linked named goes_on =
      subst Agree (take_all (length (x ∷ xs)) (x ∷ xs) (omega arith))
      (agree-taken (x ∷ xs) x linked named goes_on (length (x ∷ xs)) (omega arith))

pub rounds_calls : AcceptedSendAll → RoundsAreCalls
rounds_calls all table settings blocks senders schedule p said timetable by_process =
    let own : SenderView → Type 0 = λ (sender : SenderView). sending_said table settings sender.block ≡ Ok sender in
    let made : All own senders =
    IfOk-at_ok (All own) said (senders-own table settings 1 blocks) in
    let linked : All (λ (sender : SenderView). link_said table settings (length sender.block) ≡ Ok sender.link) senders =
    All-weaker own (λ (sender : SenderView). link_said table settings (length sender.block) ≡ Ok sender.link)
    (sender-linked table settings) senders made in
    agree all table settings senders p schedule.transmissions linked timetable.named (timetable.rounds by_process)
