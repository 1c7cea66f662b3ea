-- How transport blocks end, and what is received of transmissions: their lines, and the totals.
use Rattle.nr_linkcommands.proofs.Common.{All, All-get_or, Bool, DeskFault, Err, Link, List, None, Ok, Option, Reception, Result}
use Rattle.nr_linkcommands.proofs.Common.{SenderView, Some, Timetable, Totals, Transmission, [], ap, append-nil, arith, false}
use Rattle.nr_linkcommands.proofs.Common.{flat_map, get_or, last_line, left, left_line, length, length-append, not, outcome_of}
use Rattle.nr_linkcommands.proofs.Common.{range_with_len, received_of, receptions_of, refl, round_ends, rounds_of, sent_line}
use Rattle.nr_linkcommands.proofs.Common.{sent_said, subst, sym, totals_of, true, ℕ, ◌++◌, ◌<◌, ◌∙◌, ◌∷◌}
use Rattle.nr_linkcommands.proofs.Common.{◌≡◌, ◌≤◌, zero, suc, ◌==◌, count_by, get_or-map-range_with_len, HeardBits}
use Rattle.nr_linkcommands.proofs.Common.{reception, heard_record, range_all, IsWithin, totals_with, HasReceived, HoldsState}
use Rattle.nr_linkcommands.proofs.Common.{delivered_line, open_line, outcome_line, left_lines, counted_word, text_of_run}
use Rattle.nr_linkcommands.proofs.Common.{received_if, heard_through, answer_line, RxState}
use Rattle.nr_linkcommands.specs.{inside.Ends.counted_by, RunLines.contradiction_line, RunLines.unfixed_blocks}
use Rattle.nr_linkcommands.specs.RunText.{End, lines_if, lines_of}
use Rattle.std.{proofs.Common.OnOk, proofs.lemmas.Bool.true≢false, proofs.lemmas.List.Sums.sum_by_push, specs.Result.result_ok}
use Rattle.nr_harqbuf.specs.Record.{record_of}
use Rattle.nr_segment.specs.Plan.{word_size}
use Rattle.nr_blockdesk.{specs.Heard.hearings, proofs.OutcomeFacts.count_full}
use Rattle.nr_blockdesk.specs.Outcome.{Verdict, all_fixed, contradiction, delivered, is_fixed_at, open_still}

-- how many positions of a code block are left, by its record alone
abbrev left_by : Link → HeardBits → ℕ
left_by link s = count_by (λ p. not (is_fixed_at link s p)) (range_with_len 0 link.plan.kdash)

-- if nothing is received every code block has the same number left
left-nothing : (link : Link) (r : ℕ) → r < link.plan.c
    → left link (heard_record link []) r ≡ left_by link (record_of (word_size link.graph link.plan) [])
unfolding heard_record hearings
left-nothing link r within =
    ap (left_by link) (get_or-map-range_with_len (λ r. record_of (word_size link.graph link.plan) []) 0 link.plan.c r r
    (record { first = []; clash = false }) within (omega arith))

-- if not all is fixed, each code block has a position left
pub unfixed-if : (link : Link) (b : Bool) → (left_by link (record_of (word_size link.graph link.plan) []) == 0) ≡ b
    → all_fixed link (heard_record link []) ≡ false → unfixed_blocks link (heard_record link []) ≡ link.plan.c
unfolding unfixed_blocks
unfixed-if link true is unfixed =
    absurd (true≢false (sym (range_all (λ r. left link (heard_record link []) r == 0) 0 link.plan.c
    (λ r low high. ap (λ n. n == 0) (left-nothing link r (omega (arith, high))) ∙ is)) ∙ unfixed))
unfixed-if link false is unfixed =
    count_full (λ r. not (left link (heard_record link []) r == 0)) 0 link.plan.c
    (λ r low high. ap (λ n. not (n == 0)) (left-nothing link r (omega (arith, high))) ∙ ap not is)

-- a line is not empty
pub left_line-some : (t n r count : ℕ) → 0 < length (left_line t n r count)
unfolding left_line
left_line-some t n r count = simp length-append (omega arith)

pub outcome_line-some : (n : ℕ) (link : Link) (list : List Reception) → 0 < length (outcome_line n link list)
unfolding delivered_line open_line contradiction_line
outcome_line-some n link list = grind (arith, length-append)

pub round_line-some : (head : List ℕ) (n : ℕ) (link : Link) (list : List Reception)
    → 0 < length (head ++ outcome_line n link list)
round_line-some head n link list = omega (arith, length-append head (outcome_line n link list), outcome_line-some n link list)

pub last_line-some : (name : List ℕ) (t : Totals) → 0 < length (last_line name t)
unfolding last_line
last_line-some name t = simp length-append (omega arith)

-- the totals with one more, by its outcome
pub totals-more : (ends : List End) (e : End) → totals_of (ends ++ e ∷ []) ≡ totals_with (totals_of ends) e.link e.list
totals-more ends e = step (outcome_of e.link e.list) refl
  where
    step : (v : Verdict) → outcome_of e.link e.list ≡ v
        → totals_of (ends ++ e ∷ []) ≡ counted_by (totals_of ends) e.link e.list v
    step (delivered bits) is = grind (arith, length-append, sum_by_push)
    step open_still is = grind (arith, length-append, sum_by_push)
    step contradiction is = grind (arith, length-append, sum_by_push)

-- a bound of the totals, and a greater one
pub within-more : (n m : ℕ) (t : Totals) → n ≤ m → IsWithin n t → IsWithin m t
within-more n m t more is = grind arith

-- the text of a run is not empty
pub text_of_run-some : (senders : List SenderView) (schedule : Timetable) → 0 < length (text_of_run senders schedule)
text_of_run-some senders schedule = simp length-append (omega (
  arith,
  last_line-some (counted_word schedule.by_process)
      (totals_of (round_ends schedule.by_process senders (rounds_of schedule.by_process (length senders) schedule.transmissions))),
))

-- ---- what is received of transmissions, and the lines of each

-- at most one reception of each transmission
received_if-few : (x : Transmission) (said : Result (List Bool) DeskFault) → length (received_if x said) ≤ 1
received_if-few x (Ok bits) = omega arith
received_if-few x (Err e) = omega arith

pub received-few : (sender : SenderView) (xs : List Transmission) → length (receptions_of sender xs) ≤ length xs
received-few sender [] = omega arith
received-few sender (x ∷ xs) = grind (arith, received_if-few, received-few sender xs, length-append)

-- a state's count, by what it has received
pub has_received : (link : Link) (list : List Reception) (n : ℕ) (state : Option RxState) → HoldsState link list state
    → length list ≤ n → HasReceived n state
has_received link list n None holds few = tt
has_received link list n (Some state) holds few = omega (arith, holds.count, few)

-- the lines of a transmission, by what its sender says
pub lines_of-said : (sender : SenderView) (list : List Reception) (x : Transmission) (said : Result (List Bool) DeskFault)
    → sent_said sender.link x.tx sender.block ≡ said
    → lines_of sender list x ≡ lines_if x sender.link (list ++ received_if x said) said
unfolding lines_of
lines_of-said sender list x said is = ap (λ r. lines_if x sender.link (list ++ received_if x r) r) is

-- the lines of a transmission that is sent, and of one that is refused
pub lines_of-sent : (sender : SenderView) (list : List Reception) (x : Transmission) (bits : List Bool)
    → sent_said sender.link x.tx sender.block ≡ Ok bits
    → lines_of sender list x ≡ sent_line x.number x.block bits
    ++ left_lines x.number x.block sender.link (heard_record sender.link (list ++ reception x.tx (heard_through x bits) ∷ []))
lines_of-sent sender list x bits is = lines_of-said sender list x (Ok bits) is

-- the line of `send` comes first
lines_if-first : (x : Transmission) (link : Link) (list : List Reception) (said : Result (List Bool) DeskFault)
    → (rest : List ℕ) × (lines_if x link list said ≡ answer_line x.number x.block said ++ rest)
lines_if-first x link list (Ok bits) = (left_lines x.number x.block link (heard_record link list), refl)
lines_if-first x link list (Err e) = ([], sym (append-nil (answer_line x.number x.block (Err e))))

pub lines_of-first : (sender : SenderView) (list : List Reception) (x : Transmission)
    → (rest : List ℕ)
    × (lines_of sender list x ≡ answer_line x.number x.block (sent_said sender.link x.tx sender.block) ++ rest)
unfolding lines_of
lines_of-first sender list x = lines_if-first x sender.link (list ++ received_of sender x) (sent_said sender.link x.tx sender.block)

-- a transmission that is refused has only the line of `send`
lines_if-unsent : (x : Transmission) (link : Link) (list : List Reception) (said : Result (List Bool) DeskFault)
    → None ≡ result_ok said → lines_if x link list said ≡ answer_line x.number x.block said
lines_if-unsent x link list (Ok bits) unsent = absurd (cc)
lines_if-unsent x link list (Err e) unsent = refl

pub lines_of-unsent : (sender : SenderView) (list : List Reception) (x : Transmission)
    → None ≡ result_ok (sent_said sender.link x.tx sender.block)
    → lines_of sender list x ≡ answer_line x.number x.block (sent_said sender.link x.tx sender.block)
unfolding lines_of
lines_of-unsent sender list x unsent =
    lines_if-unsent x sender.link (list ++ received_of sender x) (sent_said sender.link x.tx sender.block) unsent

-- what is received of it
pub received_of-sent : (sender : SenderView) (x : Transmission) (bits : List Bool)
    → sent_said sender.link x.tx sender.block ≡ Ok bits
    → received_of sender x ≡ reception x.tx (heard_through x bits) ∷ []
received_of-sent sender x bits is = ap (received_if x) is

received_if-unsent : (x : Transmission) (said : Result (List Bool) DeskFault) → None ≡ result_ok said
    → received_if x said ≡ []
received_if-unsent x (Ok bits) unsent = absurd (cc)
received_if-unsent x (Err e) unsent = refl

pub received_of-unsent : (sender : SenderView) (x : Transmission) → None ≡ result_ok (sent_said sender.link x.tx sender.block)
    → received_of sender x ≡ []
received_of-unsent sender x unsent = received_if-unsent x (sent_said sender.link x.tx sender.block) unsent

-- what a sender says, by the bits that it gives
pub said-sent : (said : Result (List Bool) DeskFault) (bits : List Bool) → Some bits ≡ result_ok said → said ≡ Ok bits
said-sent (Ok others) bits is = cc
said-sent (Err e) bits is = absurd (cc)

-- the lines are not empty
pub some-lines : (f : ℕ → List ℕ) (c : ℕ) → ((r : ℕ) → 0 < length (f r)) → 0 < c
    → 0 < length (flat_map f (range_with_len 0 c))
some-lines f zero each some = absurd (omega (arith, some))
some-lines f (suc c) each some = omega (arith, each 0, length-append (f 0) (flat_map f (range_with_len 1 c)))

pub left_lines-some : (t n : ℕ) (link : Link) (records : List HeardBits) → 0 < link.plan.c
    → 0 < length (left_lines t n link records)
left_lines-some t n link records some = grind (arith, some-lines, left_line-some)

-- an element of a list has what all elements have
pub all-at : {X : Type 0} (P : X → Type 0) (xs : List X) (i : ℕ) (x : X) → All P xs → i < length xs
    → x ≡ get_or xs i x → P x
all-at P xs i x all within is = subst P (sym is) (All-get_or P xs i x within all)

-- what is true if a result is Ok
pub on_ok-any : {X E : Type 0} {P : Type 0} (r : Result X E) → P → OnOk r P
on_ok-any (Ok x) p = p
on_ok-any (Err e) p = tt
