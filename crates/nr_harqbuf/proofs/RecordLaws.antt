-- The laws of the record: one more hearing makes the record of the longer list, and the record says which words agree.
use Rattle.nr_harqbuf.proofs.Common.{nat_tests, ◌≡◌, ℕ, ◌<◌, ◌==◌, ◌||◌, ◌&&◌, ◌⊎◌, Bool, true, false}
use Rattle.nr_harqbuf.proofs.Common.{not, cond, List, [], ◌++◌, length, get_or, set, All, refl, sym, ap, ◌∙◌, ⊎_elim}
use Rattle.nr_harqbuf.proofs.Common.{arith, Option, Some, None, map, beq, Contains, range_with_len, list_any, cases_eq, cases_lt}
use Rattle.nr_harqbuf.proofs.Common.{eqb-true, eq-eqb, and_parts, and_from, false_from_ne_true, not-false, true≢false}
use Rattle.nr_harqbuf.proofs.Common.{same_from_decides, get_or-set_same, get_or-set_other, get_or_past, length-set, All-contains}
use Rattle.nr_harqbuf.proofs.Common.{Any-from_list_any, list_any-append, fill_by_all, get_or-map-range_with_len}
use Rattle.nr_harqbuf.proofs.Common.{length-map-range_with_len, or-false, Hearing, HasFirsts, first_at, first_heard, is_heard}
use Rattle.nr_harqbuf.proofs.Common.{differs, with_hearing, record_of, clashes}
use Rattle.nr_harqbuf.specs.Record.{heard_as, RecordContinues, FitsByRecord}
use Rattle.std.{proofs.Common.rules, proofs.Common.◌≢◌, proofs.Common.◌∷◌, specs.Prelude.suc, specs.List.list_all}
use Rattle.std.proofs.lemmas.{Bool.ne_eqb, Bool.false≢true, List.get_or_default, List.Elements.Contains-get_or}
use Rattle.std.proofs.lemmas.List.{Folds.list_any-from_Any, Sums.AllPass-from_list_all, Sums.list_all-from_AllPass}

-- what a record holds at a position
pub record_of-at : (n : ℕ) (hs : List Hearing) (p : ℕ) → p < n → first_at (record_of n hs) p ≡ first_heard hs p
record_of-at n hs p lt = get_or-map-range_with_len (first_heard hs) 0 n p p None lt (omega arith)

pub first_heard-cons : (h : Hearing) (hs : List Hearing) (p : ℕ)
    → first_heard (h ∷ hs) p ≡ cond (h.0 == p) (Some h.1) (first_heard hs p)
unfolding first_heard
first_heard-cons h hs p = grind (arith, nat_tests)

-- more hearings, and one more
pub first_heard-append : (hs more : List Hearing) (p : ℕ)
    → first_heard (hs ++ more) p ≡ cond (is_heard (first_heard hs p)) (first_heard hs p) (first_heard more p)
unfolding first_heard
first_heard-append [] more p = refl
first_heard-append (x ∷ hs) more p = grind (arith, nat_tests, first_heard-cons, first_heard-append hs more p)

pub first_heard-push : (hs : List Hearing) (h : Hearing) (p : ℕ)
    → first_heard (hs ++ h ∷ []) p ≡ cond (is_heard (first_heard hs p)) (first_heard hs p) (cond (h.0 == p) (Some h.1) None)
unfolding first_heard
first_heard-push hs h p = first_heard-append hs (h ∷ []) p
    ∙ ap (λ o. cond (is_heard (first_heard hs p)) (first_heard hs p) o) (first_heard-cons h [] p)

pub beq_true : (a b : Bool) → beq a b ≡ true → a ≡ b
beq_true a b h = grind arith

pub beq_same : (a : Bool) → beq a a ≡ true
beq_same a = grind arith

pub passes_at : {X : Type 0} (p : X → Bool) (xs : List X) (x : X) → Contains xs x → p x ≡ true → list_any p xs ≡ true
passes_at p xs x has is = list_any-from_Any p xs (has.0, x, has.1, has.2, is)

pair_is : (x : Hearing) (p : ℕ) (b : Bool) → x.0 ≡ p → x.1 ≡ b → x ≡ (p, b)
pair_is x p b e f = rw (← e, ← f) refl

-- a position was heard with a bit if the list has such a hearing
pub heard_there : (hs : List Hearing) (p : ℕ) (b : Bool) → heard_as hs p b ≡ true → Contains hs (p, b)
unfolding heard_as
heard_there hs p b h =
    let it = Any-from_list_any (λ (x : Hearing). (x.0 == p) && beq x.1 b) hs h in
    let parts = and_parts (it.1.0 == p) (beq it.1.1 b) it.4 in (
      it.0,
      it.2,
      get_or_default hs it.0 (p, b) it.1 it.2 ∙ it.3 ∙ pair_is it.1 p b (eqb-true it.1.0 p parts.0) (beq_true it.1.1 b parts.1),
    )

pub heard_here : (hs : List Hearing) (x : Hearing) → Contains hs x → heard_as hs x.0 x.1 ≡ true
unfolding heard_as
heard_here hs x has = search (rules, passes_at, and_from, eq-eqb, beq_same)

-- the first bit of a position was heard there, and a position that was heard has a first bit
pub first_is_heard : (hs : List Hearing) (p : ℕ) (a : Bool) → first_heard hs p ≡ Some a → heard_as hs p a ≡ true
unfolding first_heard heard_as
first_is_heard [] p a h = cc h
first_is_heard (x ∷ hs) p a h = grind (arith, nat_tests, first_heard-cons, first_is_heard hs p a, beq_same)

pub record HasFirst (hs : List Hearing) (p : ℕ) : Type 0 where
  pub bit : Bool
  pub is : first_heard hs p ≡ Some bit

heard-any : (hs : List Hearing) (p : ℕ) → is_heard (first_heard hs p) ≡ list_any (λ (h : Hearing). h.0 == p) hs
unfolding first_heard
heard-any [] p = refl
heard-any (x ∷ hs) p = grind (arith, nat_tests, first_heard-cons, heard-any hs p)

pub first_there : (hs : List Hearing) (x : Hearing) → Contains hs x → HasFirst hs x.0
first_there hs x has =
    go (first_heard hs x.0) refl (heard-any hs x.0 ∙ passes_at (λ (h : Hearing). h.0 == x.0) hs x has (eq-eqb x.0 x.0 refl))
  where
    go : (o : Option Bool) → first_heard hs x.0 ≡ o → is_heard (first_heard hs x.0) ≡ true → HasFirst hs x.0
    go o e is = grind arith

-- some hearing differs from the first one at its position
abbrev pub some_differs : List Hearing → List Hearing → Bool
some_differs firsts hs = list_any (λ (h : Hearing). differs (first_heard firsts h.0) h.1) hs

differs_not : (a b : Bool) → differs (Some a) b ≡ true → a ≡ not b
differs_not a b h = grind arith

-- of two bits one differs from the first
one_differs : (a b : Bool) → (differs (Some a) b ≡ true) ⊎ (differs (Some a) (not b) ≡ true)
one_differs a b = grind arith

pub clashes-differs : (hs : List Hearing) → clashes hs ≡ some_differs hs hs
unfolding clashes
clashes-differs hs = same_from_decides {P = some_differs hs hs ≡ true} _ _ (down, up) (λ e. e, λ e. e)
  where
    down : list_any (λ (h : Hearing). heard_as hs h.0 (not h.1)) hs ≡ true → some_differs hs hs ≡ true
    down h =
        let it = Any-from_list_any (λ (x : Hearing). heard_as hs x.0 (not x.1)) hs h in
        let x : Hearing = it.1 in
        let f = first_there hs x (it.0, it.2, it.3) in
        ⊎_elim
        (λ (e : differs (Some f.bit) x.1 ≡ true).
        passes_at (λ (h : Hearing). differs (first_heard hs h.0) h.1) hs x (it.0, it.2, it.3)
        (ap (λ o. differs o x.1) f.is ∙ e))
        (λ (e : differs (Some f.bit) (not x.1) ≡ true).
        passes_at (λ (h : Hearing). differs (first_heard hs h.0) h.1) hs (x.0, not x.1) (heard_there hs x.0 (not x.1) it.4)
        (ap (λ o. differs o (not x.1)) f.is ∙ e))
        (one_differs f.bit x.1)

    up : some_differs hs hs ≡ true → list_any (λ (h : Hearing). heard_as hs h.0 (not h.1)) hs ≡ true
    up h =
        let it = Any-from_list_any (λ (x : Hearing). differs (first_heard hs x.0) x.1) hs h in
        let x : Hearing = it.1 in
        let f = first_there hs x (it.0, it.2, it.3) in
        passes_at (λ (h : Hearing). heard_as hs h.0 (not h.1)) hs x (it.0, it.2, it.3)
        (ap (heard_as hs x.0) (sym (differs_not f.bit x.1 (sym (ap (λ o. differs o x.1) f.is) ∙ it.4)))
        ∙ first_is_heard hs x.0 f.bit f.is)

-- the first bit of a position that was heard stays when more is heard
pub first_stays : (hs more : List Hearing) (p : ℕ) (a : Bool) → first_heard hs p ≡ Some a
    → first_heard (hs ++ more) p ≡ Some a
first_stays hs more p a e = first_heard-append hs more p ∙ ap (λ o. cond (is_heard o) o (first_heard more p)) e

-- two tests that agree at each element
any_same : {X : Type 0} (p q : X → Bool) (xs : List X) → All (λ x. p x ≡ q x) xs → list_any p xs ≡ list_any q xs
any_same p q [] h = refl
any_same p q (x ∷ xs) h = rw (h 0 x (omega arith), any_same p q xs (λ i d lt. h (suc i) d (omega arith))) refl

-- more hearings change nothing for those before
pub differs-before : (hs more : List Hearing) → some_differs (hs ++ more) hs ≡ some_differs hs hs
differs-before hs more =
    any_same (λ (x : Hearing). differs (first_heard (hs ++ more) x.0) x.1)
    (λ (x : Hearing). differs (first_heard hs x.0) x.1) hs
    (λ i d lt.
    let x : Hearing = get_or hs i d in
    let f = first_there hs x (Contains-get_or hs i d lt) in
    ap (λ o. differs o x.1) (first_stays hs more x.0 f.bit f.is ∙ sym f.is))

clashes-push : (hs : List Hearing) (h : Hearing)
    → clashes (hs ++ h ∷ []) ≡ (clashes hs || differs (first_heard hs h.0) h.1)
clashes-push hs h =
    grind (arith, nat_tests, clashes-differs, list_any-append, differs-before, first_heard-push, eq-eqb, beq_same, or-false)

pub record-continues : RecordContinues
unfolding with_hearing
record-continues n hs h lt =
    rw (record_of-at n hs h.0 lt, go (first_heard hs h.0) refl, ← clashes-push hs h) refl
  where
    M : List (Option Bool)
    M = map (first_heard hs) (range_with_len 0 n)

    long : length M ≡ n
    long = length-map-range_with_len (first_heard hs) 0 n

    rng : (k : ℕ) → k < n → get_or M k None ≡ first_heard hs k
    rng k l = get_or-map-range_with_len (first_heard hs) 0 n k k None l (omega arith)

    other : (k : ℕ) → k ≢ h.0 → first_heard hs k ≡ first_heard (hs ++ h ∷ []) k
    other k ne = grind (arith, nat_tests, first_heard-push, ne_eqb)

    go : (o : Option Bool) → first_heard hs h.0 ≡ o
        → cond (is_heard (first_heard hs h.0)) M (set M h.0 (Some h.1))
        ≡ map (first_heard (hs ++ h ∷ [])) (range_with_len 0 n)
    go (Some a) e = rw e (fill_by_all (first_heard (hs ++ h ∷ [])) M n None long
        (λ k l. rng k l ∙ ⊎_elim (λ (q : k ≡ h.0). rw (q, e, first_stays hs (h ∷ []) h.0 a e) refl) (λ ne. other k ne)
        (cases_eq k h.0)))
    go None e =
        rw e (fill_by_all (first_heard (hs ++ h ∷ [])) (set M h.0 (Some h.1)) n None (length-set M h.0 (Some h.1) ∙ long)
        (λ k l. ⊎_elim
        (λ (q : k ≡ h.0). rw (
          q,
          get_or-set_same M h.0 (Some h.1) None (omega (arith, long, lt)),
          first_heard-push hs h h.0,
          e,
          eq-eqb h.0 h.0 refl,
        ) refl)
        (λ (ne : k ≢ h.0). get_or-set_other M h.0 k (Some h.1) None ne ∙ rng k l ∙ other k ne)
        (cases_eq k h.0)))

pub fits-by_record : FitsByRecord
fits-by_record w n hs below = (there, back)
  where
    has_bit : list_all (λ (h : Hearing). beq (w h.0) h.1) hs ≡ true → (x : Hearing) → Contains hs x → w x.0 ≡ x.1
    has_bit all x has =
        beq_true (w x.0) x.1 (All-contains (λ (h : Hearing). beq (w h.0) h.1 ≡ true) hs x
        (AllPass-from_list_all (λ (h : Hearing). beq (w h.0) h.1) hs all) has)

    there : list_all (λ (h : Hearing). beq (w h.0) h.1) hs ≡ true → (clashes hs ≡ false) × HasFirsts (record_of n hs) w
    there all = (false_from_ne_true (clashes hs) no_clash, firsts)
      where
        no_clash : clashes hs ≡ true → ⊥
        no_clash h =
            let it =
            Any-from_list_any (λ (x : Hearing). differs (first_heard hs x.0) x.1) hs (sym (clashes-differs hs) ∙ h) in
            let x : Hearing = it.1 in
            let f = first_there hs x (it.0, it.2, it.3) in
            let same : f.bit ≡ x.1 = sym (has_bit all (x.0, f.bit) (heard_there hs x.0 f.bit (first_is_heard hs x.0 f.bit f.is)))
            ∙ has_bit all x (it.0, it.2, it.3) in
            false≢true (rw (f.is, same, beq_same x.1) at it.4)

        firsts : HasFirsts (record_of n hs) w
        firsts p b e = ⊎_elim
            (λ lt. has_bit all (p, b) (heard_there hs p b (first_is_heard hs p b (sym (record_of-at n hs p lt) ∙ e))))
            (λ le. cc (
              get_or_past (map (first_heard hs) (range_with_len 0 n)) p None
                  (omega (arith, length-map-range_with_len (first_heard hs) 0 n)),
              e,
            ))
            (cases_lt p n)

    back : (clashes hs ≡ false) × HasFirsts (record_of n hs) w → list_all (λ (h : Hearing). beq (w h.0) h.1) hs ≡ true
    back h = list_all-from_AllPass (λ (x : Hearing). beq (w x.0) x.1) hs (λ i d lt.
        let x : Hearing = get_or hs i d in
        let has = Contains-get_or hs i d lt in
        let f = first_there hs x has in
        let same : differs (Some f.bit) x.1 ≡ false =
        false_from_ne_true (differs (Some f.bit) x.1)
        (λ other. true≢false (sym (passes_at (λ (h : Hearing). differs (first_heard hs h.0) h.1) hs x has
        (ap (λ o. differs o x.1) f.is ∙ other)) ∙ sym (clashes-differs hs) ∙ h.0)) in
        ap (λ b. beq b x.1) (h.1 x.0 f.bit (record_of-at n hs x.0 (below i d lt) ∙ f.is)) ∙ not-false (beq f.bit x.1) same)
