-- The text over the rounds of processes, one transmission after the other.
use Rattle.nr_linkcommands.proofs.Common.{All, All-tail, Bool, List, Piece, ProcessRound, SenderView, Transmission, [], ap}
use Rattle.nr_linkcommands.proofs.Common.{append-nil, append_assoc, arith, cond, drop, ended_with, false, flat_map-append, get_or}
use Rattle.nr_linkcommands.proofs.Common.{last_rounds, length, length-append, map, nat_tests, of_process, pieces_joined}
use Rattle.nr_linkcommands.proofs.Common.{range_with_len, received_of, receptions_of, refl, round_ends, round_lines, round_of}
use Rattle.nr_linkcommands.proofs.Common.{rounds_ended, since_fresh, sym, take, take_more, true, turns, ℕ, ◌++◌, ◌+◌}
use Rattle.nr_linkcommands.proofs.Common.{◌<◌, ◌==◌, ◌∙◌, ◌∷◌, ◌≡◌, ◌≤◌, drop_more, All-filter}
use Rattle.nr_linkcommands.proofs.Common.{filter-append, filter, round_end, Words}
use Rattle.nr_linkcommands.specs.RoundTexts.{turn_lines, LinesAreOwn, is_about}
use Rattle.std.specs.List.{list_any}
use Rattle.nr_files.proofs.RoundFacts.{of_process-more}

-- the transmissions before the next one
pub taken-more : {X : Type 0} (xs : List X) (i : ℕ) (x : X) → i < length xs → x ≡ get_or xs i x
    → take (i + 1) xs ≡ take i xs ++ x ∷ []
taken-more xs i x within is = take_more xs i x within ∙ ap (λ y. take i xs ++ y ∷ []) (sym is)

-- the next one and those after it
pub left-turn : {X : Type 0} (xs : List X) (i : ℕ) (x : X) → i < length xs → x ≡ get_or xs i x
    → drop i xs ≡ x ∷ drop (i + 1) xs
left-turn xs i x within is = drop_more xs i x within ∙ ap (λ y. y ∷ drop (i + 1) xs) (sym is)

-- the lines of the transmission at index i, and those after them
pub turns-turn : (b : Bool) (words : Words) (senders : List SenderView) (xs : List Transmission) (i : ℕ) (x : Transmission)
    → i < length xs → x ≡ get_or xs i x
    → pieces_joined (turns b words senders (take i xs) (drop i xs))
    ≡ turn_lines b words senders (take i xs) x ++ pieces_joined (turns b words senders (take (i + 1) xs) (drop (i + 1) xs))
unfolding turns
turns-turn b words senders xs i x within is = grind (arith, left-turn, taken-more)

-- what is true of each transmission is true of each one of a round
pub round-all : (P : Transmission → Type 0) (p : ℕ) (xs : List Transmission) → All P xs → All P (round_of p xs)
unfolding since_fresh
round-all P p xs all = since (of_process p xs) (All-filter (λ x. x.process == p) P xs all)
  where
    either : (x : Transmission) (ys : List Transmission) (b : Bool) → All P (x ∷ ys) → All P (since_fresh ys)
        → All P (cond b (since_fresh ys) (x ∷ ys))
    either x ys true here later = later
    either x ys false here later = here

    since : (ys : List Transmission) → All P ys → All P (since_fresh ys)
    since [] here = here
    since (y ∷ ys) here = either y ys (list_any (λ z. z.fresh) ys) here (since ys (All-tail P y ys here))

-- what is received of a round with one more transmission
pub received-more : (sender : SenderView) (round : List Transmission) (x : Transmission)
    → receptions_of sender (round ++ x ∷ []) ≡ receptions_of sender round ++ received_of sender x
received-more sender round x = grind (arith, flat_map-append, append-nil)

-- the rounds that end
ended-behind : (before xs : List Transmission) (x : Transmission)
    → rounds_ended before (xs ++ x ∷ []) ≡ rounds_ended before xs ++ ended_with (before ++ xs) x
unfolding rounds_ended
ended-behind before [] x = append-nil (ended_with before x) ∙ ap (λ b. ended_with b x) (sym (append-nil before))
ended-behind before (y ∷ ys) x = grind (arith, ended-behind (before ++ y ∷ []) ys x, append_assoc)

pub ended-more : (before : List Transmission) (x : Transmission)
    → rounds_ended [] (before ++ x ∷ []) ≡ rounds_ended [] before ++ ended_with before x
ended-more before x = ended-behind [] before x

pub ended-few : (before xs : List Transmission) → length (rounds_ended before xs) ≤ length xs
unfolding rounds_ended
ended-few before [] = omega arith
ended-few before (x ∷ xs) = grind (arith, ended-few (before ++ x ∷ []) xs, length-append)

-- how they end
pub ends-more : (b : Bool) (senders : List SenderView) (ended : List ProcessRound) (p : ℕ) (round : List Transmission)
    → round_ends b senders (ended ++ (p, round) ∷ []) ≡ round_ends b senders ended ++ round_end b senders p round
ends-more b senders ended p round = grind (arith, flat_map-append, append-nil)

-- ---- the lines of a process are those that its own transmissions have

own-own : (p : ℕ) (xs : List Transmission) → of_process p (of_process p xs) ≡ of_process p xs
own-own p [] = refl
own-own p (x ∷ xs) = grind (arith, nat_tests, own-own p xs)

turns-own : (words : Words) (senders : List SenderView) (p : ℕ) (before xs : List Transmission)
    → filter (is_about p) (turns true words senders before xs) ≡ turns true words senders (of_process p before)
    (of_process p xs)
unfolding turns
turns-own words senders p before [] = refl
turns-own words senders p before (x ∷ xs) =
    grind (arith, nat_tests, turns-own words senders p (before ++ x ∷ []) xs, of_process-more, own-own)

last-own : (words : Words) (senders : List SenderView) (p : ℕ) (schedule : List Transmission) (qs : List ℕ)
    → filter (is_about p) (map (λ q. (q, round_lines true words senders q (round_of q schedule))) qs)
    ≡ filter (is_about p) (map (λ q. (q, round_lines true words senders q (round_of q (of_process p schedule)))) qs)
last-own words senders p schedule [] = refl
last-own words senders p schedule (q ∷ qs) = grind (arith, nat_tests, last-own words senders p schedule qs, own-own)

pub lines_are_own : LinesAreOwn
lines_are_own words senders schedule p =
    filter-append (is_about p) (turns true words senders [] schedule) (last_rounds true words senders schedule)
    ∙ ap (λ (ys : List Piece). ys ++ filter (is_about p) (last_rounds true words senders schedule)) first
    ∙ ap (λ (ys : List Piece). filter (is_about p) (turns true words senders [] (of_process p schedule)) ++ ys)
    (last-own words senders p schedule (range_with_len 0 16))
    ∙ sym (filter-append (is_about p) (turns true words senders [] (of_process p schedule))
    (last_rounds true words senders (of_process p schedule)))
  where
    first : filter (is_about p) (turns true words senders [] schedule)
        ≡ filter (is_about p) (turns true words senders [] (of_process p schedule))
    first = grind (arith, turns-own, own-own)
