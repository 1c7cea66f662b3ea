-- The outcomes after each reception of a list, with one more; and how much of each code block is left.
use Rattle.nr_calls.proofs.Common.{◌≡◌, sym, ℕ, ◌+◌, ◌<◌, ◌++◌, ◌∷◌, [], List, length, map, take, ap}
use Rattle.nr_calls.proofs.Common.{◌∙◌, refl, zero, suc, arith, length-append, take-append-le, map-range_with_len_more}
use Rattle.nr_calls.proofs.Common.{range_with_len, Result, Ok, Err, ◌>>=◌, with_fault, HeardBits, Reception, Link, Verdict}
use Rattle.nr_calls.proofs.Common.{left, outcome_of, DeskFault, outcome_number, outcomes_of, one_more_said}
use Rattle.std.proofs.Math.Seq.{take-append-add}
use Rattle.nr_calls.specs.declared.fault.Fault.TheVariants as fault

-- two functions that agree on the n numbers from a on give the same list of them
pub map-same : {X : Type 0} (f g : ℕ → X) (a n : ℕ) → ((k : ℕ) → k < a + n → f k ≡ g k)
    → map f (range_with_len a n) ≡ map g (range_with_len a n)
map-same f g a zero same = refl
map-same f g a (suc n) same =
    let here : f a ≡ g a = same a (omega arith) in
    let rest : map f (range_with_len (a + 1) n) ≡ map g (range_with_len (a + 1) n) =
    map-same f g (a + 1) n (λ k below. same k (omega arith)) in
    cc

-- one more reception adds its outcome
pub outcomes_more : (link : Link) (list : List Reception) (x : Reception)
    → outcomes_of link (list ++ x ∷ []) ≡ outcomes_of link list ++ outcome_number (outcome_of link (list ++ x ∷ [])) ∷ []
outcomes_more link list x =
    let number : List Reception → ℕ = λ l. outcome_number (outcome_of link l) in
    let f : ℕ → ℕ = λ k. number (take (k + 1) (list ++ x ∷ [])) in
    let g : ℕ → ℕ = λ k. number (take (k + 1) list) in
    let n = length list in
    let before : map f (range_with_len 0 n) ≡ map g (range_with_len 0 n) =
    map-same f g 0 n (λ k below. ap number (take-append-le (k + 1) list (x ∷ []) (omega arith))) in
    let last : f n ≡ number (list ++ x ∷ []) = ap number (take-append-add list (x ∷ []) 1) in
    ap (λ m. map f (range_with_len 0 m)) (length-append list (x ∷ []))
    ∙ map-range_with_len_more f 0 n n (omega arith)
    ∙ ap (λ l. l ++ f n ∷ []) before
    ∙ ap (λ v. map g (range_with_len 0 n) ++ v ∷ []) last

-- a step that is not refused returns what follows it
pub answered : (said : Result (List ℕ) DeskFault) (w v : Verdict) → (with_fault fault.Desk said >>= λ _. Ok w) ≡ Ok v
    → w ≡ v
answered (Ok lengths) w v is = cc
answered (Err e) w v is = cc

-- the outcomes after one more transmission are those of the longer list
pub outcomes_after : (link : Link) (list : List Reception) (x : Reception) (v : Verdict) (old new : List ℕ)
    → one_more_said link list x ≡ Ok v → old ≡ outcomes_of link list → new ≡ old ++ outcome_number v ∷ []
    → new ≡ outcomes_of link (list ++ x ∷ [])
outcomes_after link list x v old new said before pushed = grind (arith, answered, outcomes_more)

-- one more code block adds how much of it is left
pub lefts_more : (link : Link) (records : List HeardBits) (r n : ℕ) (old new : List ℕ)
    → old ≡ map (left link records) (range_with_len 0 r)
    → new ≡ old ++ n ∷ [] → n ≡ left link records r → new ≡ map (left link records) (range_with_len 0 (r + 1))
lefts_more link records r n old new before pushed is = rw (pushed, before, is)
    (sym (map-range_with_len_more (left link records) 0 r r (omega arith)))
