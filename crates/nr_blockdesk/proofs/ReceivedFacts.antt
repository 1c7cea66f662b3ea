-- A position is in the record exactly if a bit of it was received at some place of some transmission. So what is fixed can be
-- told without the record.
use Rattle.nr_blockdesk.proofs.Common.{◌≡◌, ◌≤◌, ◌<◌, ◌+◌, ◌||◌, ◌==◌, ◌∙◌, ℕ}
use Rattle.nr_blockdesk.proofs.Common.{All-head, All-tail, arith, ap, refl, sym, cases_lt, nat_tests, map-append, list_any-append}
use Rattle.nr_blockdesk.proofs.Common.{list_any, filter_map, range_with_len, Hearing, is_heard, record_of-at, filler, block_checks}
use Rattle.nr_blockdesk.proofs.Common.{Heard, hearing_at, heard_of, heard_record, hearings, hearings_in, word_size, given}
use Rattle.nr_blockdesk.proofs.Common.{HeardBits, first_at, record_of, ⊎_elim, zero, suc, Bool, false, List, [], ◌∷◌, All}
use Rattle.nr_blockdesk.proofs.Common.{closure, is_fixed_at, is_heard_at, length, Link, IsLink, IsAccepted, Reception, RateMatching}
use Rattle.nr_blockdesk.proofs.Common.{AcceptedAreMatched, SentBitsAreAt, matching}
use Rattle.nr_blockdesk.specs.OutcomeLaws.{brings, is_fixed, was_received}
use Rattle.nr_blockdesk.proofs.{PlacesFacts.heard-by, PlacesFacts.positions}
use Rattle.nr_blockdesk.proofs.RecordFacts.{first-past, hearings-below, record-at}

-- some hearing is of position p
abbrev tells : ℕ → List Hearing → Bool
tells p hs = list_any (λ q. q == p) (positions hs)

told-places : (t : RateMatching) (places : List Heard) (r p a n : ℕ)
    → tells p (filter_map (hearing_at t places r) (range_with_len a n)) ≡ list_any (brings t places r p) (range_with_len a n)
told-places t places r p a zero = refl
told-places t places r p a (suc n) = grind (arith, nat_tests, told-places t places r p (a + 1) n)

told-in : (link : Link) (r p : ℕ) (x : Reception)
    → tells p (hearings_in link r x) ≡ list_any (brings (matching link x.tx) x.heard r p) (range_with_len 0 (length x.heard))
unfolding hearings_in
told-in link r p x = told-places (matching link x.tx) x.heard r p 0 (length x.heard)

told-by : (link : Link) (list : List Reception) (r p : ℕ) → tells p (hearings link list r) ≡ was_received link list r p
unfolding hearings
told-by link [] r p = refl
told-by link (x ∷ xs) r p = grind (arith, map-append, list_any-append, told-in, told-by link xs r p)

none-past : (hs : List Hearing) (n p : ℕ) → All (λ (h : Hearing). h.0 < n) hs → n ≤ p → tells p hs ≡ false
none-past [] n p below past = refl
none-past (h ∷ hs) n p below past =
    let low = All-head (λ (h : Hearing). h.0 < n) h hs below in
    grind (arith, nat_tests, none-past hs n p (All-tail (λ (h : Hearing). h.0 < n) h hs below))

module _ (matched : AcceptedAreMatched) (at : SentBitsAreAt) (link : Link) (list : List Reception) (r : ℕ) (is : IsLink link)
    (accepted : All (IsAccepted link) list) (block : r < link.plan.c) where
  abbrev n : ℕ
  n = word_size link.graph link.plan

  abbrev hs : List Hearing
  hs = hearings link list r

  same : heard_of (heard_record link list) r ≡ record_of n hs
  same = record-at link list r block

  recorded : (p : ℕ) → is_heard_at link list r p ≡ was_received link list r p
  recorded p =
      ⊎_elim
      (λ (low : p < n). ap (λ (s : HeardBits). is_heard (first_at s p)) same ∙ ap is_heard (record_of-at n hs p low)
      ∙ heard-by hs p ∙ told-by link list r p)
      (λ (high : n ≤ p). ap (λ (s : HeardBits). is_heard (first_at s p)) same ∙ ap is_heard (first-past n hs p high)
      ∙ sym (none-past hs n p (hearings-below matched at link list r is accepted) high) ∙ told-by link list r p)
      (cases_lt p n)

  -- the positions that are given
  given-is : given link (heard_of (heard_record link list) r)
      ≡ (λ p. was_received link list r p || filler link.plan.kdash link.plan.k p)
  given-is = λ i p. (ap (λ b. b || filler link.plan.kdash link.plan.k p) (recorded p)) i

  pub fixed-is : (p : ℕ) → is_fixed link list r p ≡ is_fixed_at link (heard_of (heard_record link list) r) p
  fixed-is p = ap (λ (S : ℕ → Bool). closure (block_checks link.table link.graph link.plan) S p) (sym given-is)
