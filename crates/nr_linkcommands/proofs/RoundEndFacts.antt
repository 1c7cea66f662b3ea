-- What each slot has received of the round that its process is in, one transmission after the other.
use Rattle.nr_linkcommands.proofs.Common.{All, All-head, Bool, HasBlock, HoldsRound, IsOfRound, IsPlaced, Link, List, None, Option}
use Rattle.nr_linkcommands.proofs.Common.{ProcessRound, Reception, SenderView, Some, Totals, Transmission, [], ap, append_assoc}
use Rattle.nr_linkcommands.proofs.Common.{arith, by_sender, cond, drop, false, flat_map, get_or, head_of, last_rounds, length, map}
use Rattle.nr_linkcommands.proofs.Common.{nat_tests, of_process, pieces_joined, process_count, range_with_len, received_of}
use Rattle.nr_linkcommands.proofs.Common.{receptions_of, refl, round_continued, round_lines, round_of, run_words, sender_of}
use Rattle.nr_linkcommands.proofs.Common.{since_fresh, subst, sym, take, totals_of, true, turns, ℕ, ◌++◌, ◌+◌, ◌-◌}
use Rattle.nr_linkcommands.proofs.Common.{◌<◌, ◌∙◌, ◌∷◌, ◌≡◌, ◌≤◌, ◌^◌, replicate, get_or_default}
use Rattle.nr_linkcommands.proofs.Common.{IsProcess, IsWithin, KeepsRounds, empty_slot, HasReceived, HoldsState, HoldsSlot, Words}
use Rattle.nr_linkcommands.proofs.Common.{processes, round_end, Slot, round-more, length-set, outcome_line, RxState}
use Rattle.nr_linkcommands.specs.inside.Ends.{HoldRounds, HoldsBy, HoldsSummary, IsOver}
use Rattle.nr_linkcommands.proofs.RoundTextFacts.{received-more, turns-turn}
use Rattle.nr_linkcommands.proofs.RunLineFacts.{has_received, received-few}
use Rattle.std.proofs.{Common.IfSome, Common.set, lemmas.List.FromFn.map-range_with_len_more, lemmas.Bool.cases_eq}
use Rattle.std.proofs.lemmas.{List.get_or-replicate, List.length-replicate, List.get_or-set_other, Grind.get_or-set_at}
use Rattle.nr_files.specs.Rounds.{goes_on}

-- their lines
joined-map : (f : ℕ → List ℕ) (ps : List ℕ) → pieces_joined (map (λ p. (p, f p)) ps) ≡ flat_map f ps
joined-map f [] = refl
joined-map f (p ∷ ps) = ap (λ lines. f p ++ lines) (joined-map f ps)

pub last-lines : (b : Bool) (words : Words) (senders : List SenderView) (schedule : List Transmission)
    → pieces_joined (last_rounds b words senders schedule)
    ≡ flat_map (λ p. round_lines b words senders p (round_of p schedule)) (processes b (length senders))
last-lines b words senders schedule =
    joined-map (λ p. round_lines b words senders p (round_of p schedule)) (processes b (length senders))

-- there are at most this many processes
pub count-few : (b : Bool) (n : ℕ) → n ≤ 256 → process_count b n ≤ 256
count-few true n few = omega arith
count-few false n few = few

pub process-fits : (b : Bool) (n p : ℕ) → n ≤ 256 → IsProcess b n p → p < 2 ^ 32 - 1
process-fits b n p few is = omega (arith, count-few b n few, is)

-- the rounds of the processes up to p, after those that ended before
pub last-more : (ended : List ProcessRound) (schedule : List Transmission) (p : ℕ)
    → (ended ++ map (λ q. (q, round_of q schedule)) (range_with_len 0 p)) ++ (p, round_of p schedule) ∷ []
    ≡ ended ++ map (λ q. (q, round_of q schedule)) (range_with_len 0 (p + 1))
last-more ended schedule p =
    let round : ℕ → ProcessRound = λ q. (q, round_of q schedule) in
    rw (append_assoc, map-range_with_len_more round 0 p p (omega arith)) refl

-- what the slot of a process has received
pub holds-round : (b : Bool) (senders : List SenderView) (schedule later : List Transmission) (slots : List Slot) (p : ℕ)
    (slot : Slot)
    → IsProcess b (length senders) p → length slots ≡ process_count b (length senders) → slot ≡ get_or slots p slot
    → HoldRounds b senders schedule later slots → HoldsRound (goes_on p later) b p senders (round_of p schedule) slot
holds-round b senders schedule later slots p slot below sized is held =
    let within : p < length slots = omega (arith, below, sized) in
    subst (λ (s : Slot). HoldsRound (goes_on p later) b p senders (round_of p schedule) s)
    (sym (is ∙ get_or_default slots p slot empty_slot within)) (held p within)

-- nothing is received of an empty round
empty-holds : (goes b : Bool) (p : ℕ) (senders : List SenderView) → HoldsRound goes b p senders [] empty_slot
empty-holds goes true p senders = refl
empty-holds goes false p senders = either goes (sender_of senders (p + 1))
  where
    either : (goes : Bool) (o : Option SenderView) → IfSome o (HoldsBy goes [] empty_slot)
    either goes None = tt
    either true (Some sender) = (refl, refl)
    either false (Some sender) = (refl, refl)

-- before the first transmission
pub nothing-kept : (b : Bool) (senders : List SenderView) (xs : List Transmission) (slots : List Slot) (totals : Totals)
    → slots ≡ replicate (process_count b (length senders)) empty_slot → totals ≡ totals_of [] → IsWithin 0 totals
    → KeepsRounds b senders [] xs [] slots totals
unfolding since_fresh
nothing-kept b senders xs slots totals all none within =
    let long : length slots ≡ process_count b (length senders) =
    ap length all ∙ length-replicate (process_count b (length senders)) empty_slot in
    record {
      sized = long;
      held = λ p inside.
          let is : get_or slots p empty_slot ≡ empty_slot = ap (λ (s : List Slot). get_or s p empty_slot) all
          ∙ get_or-replicate _ p empty_slot empty_slot (omega (arith, inside, long)) in
          rw is (empty-holds (goes_on p xs) b p senders);
      counted = none;
      within = within;
    }

-- ---- one transmission after the other

-- a round is no longer than the transmissions
since_fresh-few : (xs : List Transmission) → length (since_fresh xs) ≤ length xs
unfolding since_fresh
since_fresh-few [] = omega arith
since_fresh-few (x ∷ xs) = grind (arith, since_fresh-few xs)

of_process-few : (p : ℕ) (xs : List Transmission) → length (of_process p xs) ≤ length xs
of_process-few p [] = omega arith
of_process-few p (x ∷ xs) = grind (arith, nat_tests, of_process-few p xs)

-- the block that a slot names is one of the blocks
pub block-named : (n p : ℕ) (senders : List SenderView) (round : List Transmission) (slot : Slot)
    → HoldsRound false true p senders round slot → All (HasBlock n) round
    → IfSome slot.block (λ number. (1 ≤ number) × (number ≤ n))
block-named n p senders [] slot held all =
    subst (λ (s : Slot). IfSome s.block (λ number. (1 ≤ number) × (number ≤ n))) (sym held) tt
block-named n p senders (x ∷ more) slot held all =
    subst (λ o. IfSome o (λ number. (1 ≤ number) × (number ≤ n))) (sym held.0) (All-head (HasBlock n) x more all)

-- the block of a process's round is one of the blocks
pub named-block : (b : Bool) (n p : ℕ) (senders : List SenderView) (round : List Transmission) (slot : Slot) → IsProcess b n p
    → HoldsRound false b p senders round slot → All (HasBlock n) round
    → IfSome (cond b slot.block (Some (p + 1))) (λ number. (1 ≤ number) × (number ≤ n))
named-block true n p senders round slot is held all = block-named n p senders round slot held all
named-block false n p senders round slot is held all = (omega arith, omega (arith, is))

-- how the round of a slot that names a block ends: by what was received, and its line
pub record EndsAs (b : Bool) (senders : List SenderView) (p number : ℕ) (sender : SenderView) (round : List Transmission)
    (slot : Slot) : Type 0 where
  pub held : HoldsSummary sender.link (receptions_of sender round) slot.summary
  pub line : round_lines b (run_words b) senders p round ≡ head_of b p
      ++ outcome_line number sender.link (receptions_of sender round)
  pub counted : round_end b senders p round ≡ record { link = sender.link; list = receptions_of sender round } ∷ []

pub ends-as : (b : Bool) (senders : List SenderView) (p number : ℕ) (sender : SenderView) (round : List Transmission)
    (slot : Slot)
    → cond b slot.block (Some (p + 1)) ≡ Some number → sender_of senders number ≡ Some sender
    → HoldsRound false b p senders round slot → EndsAs b senders p number sender round slot
ends-as true senders p number sender [] slot named there held = absurd (cc)
ends-as true senders p number sender (x ∷ more) slot named there held = grind arith
ends-as false senders p number sender round slot named there held = grind arith

-- a slot that names no block is in no round
pub round-none : (b : Bool) (p : ℕ) (senders : List SenderView) (round : List Transmission) (slot : Slot)
    → cond b slot.block (Some (p + 1)) ≡ None → HoldsRound false b p senders round slot
    → (b ≡ true) × (round ≡ [])
round-none true p senders [] slot none held = (refl, refl)
round-none true p senders (x ∷ more) slot none held = absurd (cc)
round-none false p senders round slot none held = absurd (cc)

-- a transmission is of the block of the round that it goes on with
pub of-continued : (before : List Transmission) (x : Transmission)
    → (x.fresh ≡ false → IsOfRound (round_of x.process before) x) → IsOfRound (round_continued before x) x
of-continued before x goes = grind arith

-- what is received of the round that a transmission goes on with, by the sender of its block
holds-by : (b : Bool) (senders : List SenderView) (round : List Transmission) (x : Transmission) (sender : SenderView) (slot : Slot)
    → sender_of senders x.block ≡ Some sender → IsPlaced b x → IsOfRound round x
    → HoldsRound true b x.process senders round slot
    → HoldsSlot true sender.link (receptions_of sender round) slot
holds-by true senders [] x sender slot there placed of held = subst (HoldsSlot true sender.link []) (sym held) (refl, refl)
holds-by true senders (y ∷ more) x sender slot there placed of held = grind arith
holds-by false senders round x sender slot there placed of held = grind arith

-- a fresh transmission forgets what was received
begun-holds : (b : Bool) (senders : List SenderView) (before later : List Transmission) (x : Transmission) (old new : Slot)
    → new ≡ cond x.fresh empty_slot old → IsPlaced b x
    → HoldsRound (goes_on x.process (x ∷ later)) b x.process senders (round_of x.process before) old
    → HoldsRound true b x.process senders (round_continued before x) new
begun-holds true senders before later x old new is placed held = grind (arith, nat_tests)
begun-holds false senders before later x old new is placed held = grind (arith, nat_tests)

pub made-held : (b : Bool) (senders : List SenderView) (before later : List Transmission) (ended : List ProcessRound)
    (x : Transmission)
    (sender : SenderView) (slots : List Slot) (totals : Totals) (old new : Slot)
    → KeepsRounds b senders before (x ∷ later) ended slots totals → IsOfRound (round_continued before x) x
    → IsPlaced b x → IsProcess b (length senders) x.process → old ≡ get_or slots x.process old
    → new ≡ cond x.fresh empty_slot old → sender_of senders x.block ≡ Some sender
    → HoldsSlot true sender.link (receptions_of sender (round_continued before x)) new
made-held b senders before later ended x sender slots totals old new keeps of placed inside at is there =
    holds-by b senders (round_continued before x) x sender new there placed of
    (begun-holds b senders before later x old new is placed
    (holds-round b senders before (x ∷ later) slots x.process old inside keeps.sized at keeps.held))

-- the process of a transmission is one of the schedule
pub placed-process : (b : Bool) (n : ℕ) (x : Transmission) → IsPlaced b x → HasBlock n x → IsProcess b n x.process
placed-process true n x placed named = placed
placed-process false n x placed named = omega (arith, placed.process, named.1)

-- its state has received at most the transmissions before it
pub continued-room : (sender : SenderView) (before : List Transmission) (n : ℕ) (x : Transmission) (state : Option RxState)
    → length before ≤ n → HoldsState sender.link (receptions_of sender (round_continued before x)) state
    → HasReceived n state
continued-room sender before n x state few held = grind (arith, has_received, received-few, since_fresh-few, of_process-few)

-- and its receiver has the sender's link
pub held-over : (link : Link) (list : List Reception) (state : Option RxState) → HoldsState link list state → IsOver link state
held-over link list None held = tt
held-over link list (Some state) held = held.same_link

-- and with the transmission
holds-more : (b goes : Bool) (senders : List SenderView) (round : List Transmission) (x : Transmission) (sender : SenderView)
    (slot : Slot)
    → sender_of senders x.block ≡ Some sender → IsPlaced b x → IsOfRound round x → slot.block ≡ Some x.block
    → HoldsSlot goes sender.link (receptions_of sender round ++ received_of sender x) slot
    → HoldsRound goes b x.process senders (round ++ x ∷ []) slot
holds-more true goes senders [] x sender slot there placed of named holds = grind (arith, received-more)
holds-more true goes senders (y ∷ more) x sender slot there placed of named holds = grind (arith, received-more)
holds-more false goes senders round x sender slot there placed of named holds = grind (arith, received-more)

-- after one more transmission
pub rounds-more : (b : Bool) (senders : List SenderView) (before later : List Transmission) (x : Transmission) (sender : SenderView)
    (slots : List Slot) (after : Slot) → IsOfRound (round_continued before x) x → sender_of senders x.block ≡ Some sender
    → IsPlaced b x → IsProcess b (length senders) x.process → length slots ≡ process_count b (length senders)
    → after.block ≡ Some x.block → HoldRounds b senders before (x ∷ later) slots
    → HoldsSlot (goes_on x.process later) sender.link
    (receptions_of sender (round_continued before x) ++ received_of sender x) after
    → HoldRounds b senders (before ++ x ∷ []) later (set slots x.process after)
rounds-more b senders before later x sender slots after of there placed below sized named held holds =
    grind (arith, nat_tests, cases_eq, holds-more, round-more, get_or-set_at, length-set, get_or-set_other)

-- the lines of the transmission at index i: those of the round that it ends, its own, and those after them
pub turn-parts : (b : Bool) (words : Words) (senders : List SenderView) (xs : List Transmission) (i : ℕ) (x : Transmission)
    → i < length xs → x ≡ get_or xs i x
    → pieces_joined (turns b words senders (take i xs) (drop i xs))
    ≡ cond x.fresh (round_lines b words senders x.process (round_of x.process (take i xs))) []
    ++ (by_sender (sender_of senders x.block) (λ sender. words.transmission sender (round_continued (take i xs) x) x)
    ++ pieces_joined (turns b words senders (take (i + 1) xs) (drop (i + 1) xs)))
turn-parts b words senders xs i x within is =
    turns-turn b words senders xs i x within is
    ∙ append_assoc (cond x.fresh (round_lines b words senders x.process (round_of x.process (take i xs))) [])
    (by_sender (sender_of senders x.block) (λ sender. words.transmission sender (round_continued (take i xs) x) x))
    (pieces_joined (turns b words senders (take (i + 1) xs) (drop (i + 1) xs)))
