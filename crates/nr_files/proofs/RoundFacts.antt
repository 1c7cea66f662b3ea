-- The rounds of processes, one transmission after the other.
use Rattle.nr_files.proofs.Common.{nat_tests, arith, ◌≡◌, ℕ, false, cond, None, Some, List, [], ◌∷◌, ◌++◌, ap}
use Rattle.nr_files.proofs.Common.{refl, ◌+◌, ◌<◌, ◌≤◌, Bool, true, Option, length, take, drop, get_or, sym}
use Rattle.nr_files.proofs.Common.{replicate, set, All, ◌∙◌, ◌==◌, ◌&&◌, append-nil, length-take-le, take_more}
use Rattle.nr_files.proofs.Common.{get_or-replicate, get_or-set_other, fresh_block, of_process, round_of, since_fresh, first_block}
use Rattle.nr_files.{proofs.Common.Transmission, proofs.Common.get_or-set_at, specs.Rounds.BlocksAreRounds, specs.Rounds.IsOfBlock}
use Rattle.std.proofs.lemmas.{List.drop-append-le, List.drop_at, List.Folds.list_any-append, List.Folds.list_any_none}
use Rattle.std.proofs.lemmas.List.Elements.{filter-append, All-filter, All-head, All-tail, All-weaker}
use Rattle.std.specs.{Option.option_or, List.filter}

-- one more is a round of its own if it is fresh, and otherwise the last of the round before it
since-more : (xs : List Transmission) (x : Transmission)
    → since_fresh (xs ++ x ∷ []) ≡ cond x.fresh (x ∷ []) (since_fresh xs ++ x ∷ [])
unfolding since_fresh
since-more [] x = grind arith
since-more (y ∷ ys) x = grind (arith, list_any-append, since-more ys x)

pub of_process-more : (p : ℕ) (before : List Transmission) (x : Transmission)
    → of_process p (before ++ x ∷ []) ≡ cond (x.process == p) (of_process p before ++ x ∷ []) (of_process p before)
of_process-more p before x = grind (arith, nat_tests, filter-append, append-nil)

-- the round of a process after one more transmission: a new one, one longer, or the same
pub round-more : (p : ℕ) (before : List Transmission) (x : Transmission)
    → round_of p (before ++ x ∷ []) ≡ cond (x.process == p) (cond x.fresh (x ∷ []) (round_of p before ++ x ∷ []))
    (round_of p before)
round-more p before x = grind (arith, nat_tests, of_process-more, since-more)

-- the block of a round, with one more that is not fresh
fresh_block-longer : (round : List Transmission) (x : Transmission) → x.fresh ≡ false
    → fresh_block (round ++ x ∷ []) ≡ fresh_block round
fresh_block-longer [] x off = ap (λ b. cond b (Some x.block) None) off
fresh_block-longer (y ∷ ys) x off = refl

-- the block of the round that process p is in after one more transmission
pub fresh_block-more : (p : ℕ) (before : List Transmission) (x : Transmission)
    → fresh_block (round_of p (before ++ x ∷ [])) ≡ cond ((x.process == p) && x.fresh) (Some x.block)
    (fresh_block (round_of p before))
fresh_block-more p before x = grind (arith, nat_tests, round-more, fresh_block-longer)

-- ---- where the round of a process begins, and its block

-- one more transmission
start-more : (p : ℕ) (before : List Transmission) (x : Transmission) (start next : ℕ) → start ≤ length before
    → next ≡ cond ((x.process == p) && x.fresh) (length before) start → of_process p (drop start before) ≡ round_of p before
    → of_process p (drop next (before ++ x ∷ [])) ≡ round_of p (before ++ x ∷ [])
start-more p before x start next low is so_far = grind (arith, nat_tests, round-more, drop-append-le, of_process-more, drop_at)

-- after the transmission at index i
pub start-turn : (p : ℕ) (xs : List Transmission) (i : ℕ) (x : Transmission) (start next : ℕ) → i < length xs
    → x ≡ get_or xs i x → start ≤ i → next ≡ cond ((x.process == p) && x.fresh) i start
    → of_process p (drop start (take i xs)) ≡ round_of p (take i xs)
    → of_process p (drop next (take (i + 1) xs)) ≡ round_of p (take (i + 1) xs)
start-turn p xs i x start next within is low there so_far =
    let long : length (take i xs) ≡ i = length-take-le i xs (omega arith) in
    rw (take_more xs i x within, sym is) (start-more p (take i xs) x start next (omega arith) (rw long there) so_far)

-- it is no further than the transmissions so far
pub start-within : (b : Bool) (i start next n : ℕ) → next ≡ cond b i start → i ≤ n → start ≤ n → next ≤ n
start-within true i start next n at here low = omega (arith, at, here)
start-within false i start next n at here low = omega (arith, at, low)

-- its block
first-longer : (round : List Transmission) (x : Transmission)
    → first_block (round ++ x ∷ []) ≡ option_or (first_block round) (Some x.block)
first-longer [] x = refl
first-longer (y ∷ ys) x = refl

pub block-turn : (p : ℕ) (xs : List Transmission) (i : ℕ) (x : Transmission) (block next : Option ℕ) → i < length xs
    → x ≡ get_or xs i x
    → next ≡ cond (x.process == p) (cond x.fresh (Some x.block) (option_or block (Some x.block))) block
    → block ≡ first_block (round_of p (take i xs)) → next ≡ first_block (round_of p (take (i + 1) xs))
block-turn p xs i x block next within is there so_far =
    rw (take_more xs i x within, sym is) (grind (arith, nat_tests, round-more, first-longer))

-- ---- the block of each process's round, kept in sixteen places

-- what is true of the places
abbrev pub AreBlocks : List (Option ℕ) → List Transmission → Type 0
AreBlocks blocks before = (p : ℕ) → p < 16 → get_or blocks p None ≡ fresh_block (round_of p before)

-- before the first transmission
pub blocks-none : AreBlocks (replicate 16 None) []
unfolding since_fresh
blocks-none p low = get_or-replicate 16 p None None low

-- after a fresh transmission
pub blocks-begun : (blocks : List (Option ℕ)) (before : List Transmission) (x : Transmission) → length blocks ≡ 16
    → AreBlocks blocks before → x.fresh ≡ true → x.process < 16
    → AreBlocks (set blocks x.process (Some x.block)) (before ++ x ∷ [])
blocks-begun blocks before x long are fresh low p p_low =
    grind (arith, nat_tests, fresh_block-more, get_or-set_at, get_or-set_other)

-- after one that is not, or is of another process
pub blocks-stay : (blocks : List (Option ℕ)) (before : List Transmission) (x : Transmission) → AreBlocks blocks before
    → (x.process < 16 → x.fresh ≡ false) → AreBlocks blocks (before ++ x ∷ [])
blocks-stay blocks before x are stale p p_low = grind (arith, nat_tests, fresh_block-more)

-- ---- the rounds of blocks

-- if no transmission is fresh, and each block has a process of its own
stale-all : (xs : List Transmission) → All (λ (x : Transmission). x.fresh ≡ false) xs → since_fresh xs ≡ xs
unfolding since_fresh
stale-all [] all = refl
stale-all (x ∷ xs) all =
    ap (λ b. cond b (since_fresh xs) (x ∷ xs))
    (list_any_none (λ y. y.fresh) xs (All-tail (λ (y : Transmission). y.fresh ≡ false) x xs all))

own-block : (n : ℕ) (xs : List Transmission) → All IsOfBlock xs → of_process n xs ≡ filter (λ x. x.block == n + 1) xs
own-block n [] all = refl
own-block n (x ∷ xs) all =
    let same = (All-head IsOfBlock x xs all).process in
    grind (arith, nat_tests, own-block n xs (All-tail IsOfBlock x xs all))

pub round_of-stale : (xs : List Transmission) → All IsOfBlock xs → (n : ℕ) → round_of n xs ≡ of_process n xs
round_of-stale xs all n =
    stale-all (of_process n xs)
    (All-filter (λ x. x.process == n) (λ (x : Transmission). x.fresh ≡ false) xs
    (All-weaker IsOfBlock (λ (x : Transmission). x.fresh ≡ false) (λ x is. is.stale) xs all))

pub blocks_are_rounds : BlocksAreRounds
blocks_are_rounds schedule all n = round_of-stale schedule all n ∙ own-block n schedule all
