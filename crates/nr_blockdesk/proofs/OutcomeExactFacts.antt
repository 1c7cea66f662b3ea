-- Exactly when each outcome is the one of a list of receptions, and how it settles.
use Rattle.nr_blockdesk.proofs.Common.{nat_tests, true≢false, heard_record, contradiction, is_fixed_at, filler, block_checks}
use Rattle.nr_blockdesk.proofs.Common.{◌≡◌, ◌≢◌, ◌≤◌, ◌∙◌, IsAccepted, open_still, outcome_of, verdict_on}
use Rattle.nr_blockdesk.proofs.Common.{ℕ, zero, suc, Bool, true, cond, List, All, refl, sym, subst, arith, Some, None, find, Link}
use Rattle.nr_blockdesk.proofs.Common.{◌+◌, ◌<◌, length, Option, Explains, explains, heard_of, IsLink, list_any}
use Rattle.nr_blockdesk.proofs.Common.{◌==◌, false, and_parts, HeardBits, Reception, bit_lists, all_fixed, delivered}
use Rattle.nr_blockdesk.proofs.Common.{length-append, range_with_len, list_all-append, DeliveredIsOnly, AcceptedAreMatched}
use Rattle.nr_blockdesk.proofs.Common.{false_from_ne_true, get_or_append_left, sum_by-zero, ClosureIsMonotone, ExplainedIsDelivered}
use Rattle.nr_blockdesk.proofs.Common.{◌||◌, ◌++◌, count_by, list_all, eqb-true, not-true, SentBitsAreAt}
use Rattle.nr_blockdesk.proofs.Common.{matching, list_any-append}
use Rattle.nr_blockdesk.specs.OutcomeLaws.{AreAllFixed, IsExact, IsExplainer, IsOneLeft, NoneExplains, OutcomesAreExact}
use Rattle.nr_blockdesk.specs.OutcomeLaws.{OutcomesSettle, brings, is_fixed, was_received}
use Rattle.nr_blockdesk.proofs.{ClosureDecisionFacts.every_fixed, ReceivedFacts.fixed-is}
use Rattle.nr_blockdesk.proofs.OutcomeFacts.{blocks_long, find_passes, is_long, never_contradicts, was-found, was-open}
use Rattle.nr_blockdesk.proofs.RangeTestFacts.{range_all}
use Rattle.std.proofs.Common.{◌⊎◌}

-- a number of a range that fails a test, and one that passes it
failing : (t : ℕ → Bool) (a n : ℕ) → list_all t (range_with_len a n) ≡ false
    → (m : ℕ) × (a ≤ m) × (m < a + n) × (t m ≡ false)
failing t a zero none = absurd (true≢false none)
failing t a (suc n) none = grind (arith, failing t (a + 1) n)

counted : (t : ℕ → Bool) (a n : ℕ) → (count_by t (range_with_len a n) == 0) ≡ false
    → (m : ℕ) × (a ≤ m) × (m < a + n) × (t m ≡ true)
counted t a n none = grind (arith, nat_tests, failing, sum_by-zero)

-- if each position below K' is fixed none is left
none_left : (link : Link) (records : List HeardBits)
    → ((r p : ℕ) → r < link.plan.c → p < link.plan.kdash → is_fixed_at link (heard_of records r) p ≡ true)
    → all_fixed link records ≡ true
none_left link records each = grind (arith, nat_tests, range_all, counted, not-true)

-- what an outcome says about the steps to it
was-decided : (all : Bool) (o : Option (List Bool)) → cond all (verdict_on o) open_still ≡ contradiction → all ≡ true
was-decided all o e = grind arith

module _ (matched : AcceptedAreMatched) (at : SentBitsAreAt) (only : DeliveredIsOnly) (delivers : ExplainedIsDelivered)
    (link : Link) (list : List Reception) (is : IsLink link) (accepted : All (IsAccepted link) list) where
  abbrev found : Option (List Bool)
  found = find (explains link list) (bit_lists link.a)

  fixed-each : all_fixed link (heard_record link list) ≡ true → AreAllFixed link list
  fixed-each all r p block low =
      fixed-is matched at link list r is accepted block p ∙ every_fixed link (heard_record link list) all r block p low

  each-fixed : AreAllFixed link list → all_fixed link (heard_record link list) ≡ true
  each-fixed all = none_left link (heard_record link list)
      (λ r p block low. sym (fixed-is matched at link list r is accepted block p) ∙ all r p block low)

  delivers-when : (x : List Bool) → outcome_of link list ≡ delivered x → AreAllFixed link list × IsExplainer link list x
  unfolding outcome_of
  delivers-when x e =
      let one = only link list x is accepted e in
      (fixed-each (was-found (all_fixed link (heard_record link list)) found x e).0, (one.is_block, one.explains))

  opens-when : outcome_of link list ≡ open_still → IsOneLeft link list
  unfolding outcome_of
  opens-when e = grind (arith, nat_tests, failing, was-open, counted, not-true, fixed-is)

  opens-where : IsOneLeft link list → outcome_of link list ≡ open_still
  unfolding outcome_of
  opens-where one = grind (arith, false_from_ne_true, fixed-each)

  contradicts-when : outcome_of link list ≡ contradiction → AreAllFixed link list × NoneExplains link list
  unfolding outcome_of
  contradicts-when e = grind (arith, fixed-each, was-decided, never_contradicts)

  contradicts-where : AreAllFixed link list × NoneExplains link list → outcome_of link list ≡ contradiction
  unfolding outcome_of
  contradicts-where both = rw (each-fixed both.0) (go found refl)
    where
      go : (o : Option (List Bool)) → found ≡ o → verdict_on found ≡ contradiction
      go None e = rw e refl
      go (Some x) e =
          let passes = find_passes (explains link list) (is_long link.a) (bit_lists link.a) x (blocks_long link.a) e in
          absurd (both.1 x (eqb-true (length x) link.a passes.1, passes.0))

  pub exact-one : IsExact link list
  exact-one = grind (arith, delivers-when, each-fixed, opens-when, opens-where, contradicts-when, contradicts-where)

wider : (a b c : Bool) → (a || c) ≡ true → ((a || b) || c) ≡ true
wider a b c e = grind arith

abbrev is_brought_by : Link → ℕ → ℕ → Reception → Bool
is_brought_by link r q x = list_any (brings (matching link x.tx) x.heard r q) (range_with_len 0 (length x.heard))

-- a position that was received stays received
received-more : (link : Link) (list more : List Reception) (r q : ℕ) (b : Bool) → (was_received link list r q || b) ≡ true
    → (was_received link (list ++ more) r q || b) ≡ true
received-more link list more r q b was =
    rw (list_any-append (is_brought_by link r q) list more)
    (wider (list_any (is_brought_by link r q) list) (list_any (is_brought_by link r q) more) b was)

-- a position that is fixed stays fixed
fixed-more : ClosureIsMonotone → (link : Link) (list more : List Reception) (r p : ℕ)
    → is_fixed link list r p ≡ true → is_fixed link (list ++ more) r p ≡ true
fixed-more monotone link list more r =
    monotone (block_checks link.table link.graph link.plan)
    (λ q. was_received link list r q || filler link.plan.kdash link.plan.k q)
    (λ q. was_received link (list ++ more) r q || filler link.plan.kdash link.plan.k q)
    (λ q. received-more link list more r q (filler link.plan.kdash link.plan.k q))

explains-before : (link : Link) (list more : List Reception) (x : List Bool) → Explains link (list ++ more) x
    → Explains link list x
unfolding explains
explains-before link list more x e = grind (arith, and_parts, list_all-append)

pub outcomes_settle : ClosureIsMonotone → DeliveredIsOnly → OutcomesAreExact → OutcomesSettle
outcomes_settle monotone only exact link list more is accepted = record {
  never_open = never;
  contradicted = λ e.
      let was = before.contradicts.0 e in
      after.contradicts.1 (still was.0, λ x by. was.1 x (by.0, explains-before link list more x by.1));
  delivered_again = again;
}
  where
    first : All (IsAccepted link) list
    first k d inside =
        subst (IsAccepted link) (get_or_append_left list more d k inside)
        (accepted k d (omega (arith, inside, length-append list more)))

    before : IsExact link list
    before = exact link list is first

    after : IsExact link (list ++ more)
    after = exact link (list ++ more) is accepted

    still : AreAllFixed link list → AreAllFixed link (list ++ more)
    still all r p block low = fixed-more monotone link list more r p (all r p block low)

    never : outcome_of link list ≢ open_still → outcome_of link (list ++ more) ≢ open_still
    never closed e =
        let one = after.opens.0 e in
        closed (before.opens.1 (record {
          block = one.block;
          position = one.position;
          inside = one.inside;
          below = one.below;
          left = false_from_ne_true (is_fixed link list one.block one.position)
              (λ was. true≢false (sym (fixed-more monotone link list more one.block one.position was) ∙ one.left));
        }))

    again : (x : List Bool) → outcome_of link list ≡ delivered x
        → (outcome_of link (list ++ more) ≡ delivered x) ⊎ (outcome_of link (list ++ more) ≡ contradiction)
    again x e = go (explains link (list ++ more) x) refl
      where
        go : (b : Bool) → explains link (list ++ more) x ≡ b
            → (outcome_of link (list ++ more) ≡ delivered x) ⊎ (outcome_of link (list ++ more) ≡ contradiction)
        go b by = grind (arith, before, after, still, first, explains-before)
