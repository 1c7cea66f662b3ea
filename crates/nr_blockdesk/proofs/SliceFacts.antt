-- What rounds side by side are told, place by place, and what their receptions tell.
use Rattle.nr_blockdesk.proofs.Common.{◌≡◌, ℕ, ◌+◌, ◌*◌, ◌<◌, ◌==◌, ◌||◌, Bool, false, List, []}
use Rattle.nr_blockdesk.proofs.Common.{◌∷◌, ◌++◌, length, set, slice_index, sym, ap, ◌∙◌, arith, refl, bit_or}
use Rattle.nr_blockdesk.proofs.Common.{cases_eq, nat_tests, get_or-set_other, get_or-set_same, seat_of, slice, Circular, place_of}
use Rattle.nr_blockdesk.proofs.Common.{is_brought, not, cond, count_by, range_with_len, sum_by-cons, zero, suc, take, drop}
use Rattle.nr_blockdesk.proofs.Common.{◌≤◌, inl, inr, sum, list_any, get_or-drop, get_or-take, length-drop, length-take-le}
use Rattle.nr_blockdesk.proofs.Common.{map-append, list_any-append, sum_by_more_le, PlacesHaveOneOwner, Hearing, record_of-at}
use Rattle.nr_blockdesk.proofs.Common.{closure, ChecksAreSound, ClosureIsMonotone, cols_of, filler, block_checks, PlacesAreSent}
use Rattle.nr_blockdesk.proofs.Common.{cases_lt, heard_of, heard_record, given, is_fixed_at, word_size, Reception, heard_at}
use Rattle.nr_blockdesk.proofs.Common.{reception, hearings, hearings_in, IsLink, Link, is_heard_at, is_received, AcceptedAreMatched}
use Rattle.nr_blockdesk.proofs.Common.{IsMatched, PartsAreAt, tx_said, Ok, part_hearings, piece, Heard, Tx}
use Rattle.nr_blockdesk.specs.Slices.{ReceptionsTell, SlicesFollow, SlicesFollowBetween, LackingIsLeft, FillersAreBetween}
use Rattle.nr_blockdesk.proofs.{RecordFacts.none_heard, RecordFacts.first-past, RecordFacts.record-at, HearingFacts.part-more}
use Rattle.nr_blockdesk.proofs.PlacesFacts.{heard-by, positions}
use Rattle.nr_blockdesk.proofs.ReceptionFacts.{hearings-more, hearings-told}
use Rattle.nr_bitvec.proofs.BitFacts.{or-one}
use Rattle.nr_peel.{proofs.ClosureFacts.same_truth, specs.Laws.StepsStayInClosure, specs.Laws.ClosureContinues}
use Rattle.nr_peel.specs.Closure.{Within, union, AreSound}
use Rattle.nr_ratematch.specs.Selection.{IsCircular}
use Rattle.nr_blockdesk.proofs.LinkFacts.{link-buffer, link-circular, link-positions}

-- one more place is told
pub told_more : (b : Circular) (rv qm e : ℕ) (known old arrived : List ℕ) (n q w : ℕ) → q < length known
    → q ≡ place_of b rv (seat_of qm e n) → w ≡ slice_index arrived n
    → ((j p : ℕ) → j < 64 → slice known j p ≡ (slice old j p || is_brought b rv qm e (slice arrived j) n p))
    → (j p : ℕ) → j < 64 → slice (set known q (bit_or (slice_index known q) w)) j p
    ≡ (slice old j p || is_brought b rv qm e (slice arrived j) (n + 1) p)
told_more b rv qm e known old arrived n q w inside at is so j p short =
    grind (arith, nat_tests, cases_eq p q, or-one, get_or-set_same, get_or-set_other, so j p short)

-- ---- what a reception tells

-- a position is told of
abbrev tells : ℕ → List Hearing → Bool
tells p hs = list_any (λ q. q == p) (positions hs)

tells_both : (p : ℕ) (xs ys : List Hearing) → tells p (xs ++ ys) ≡ (tells p xs || tells p ys)
tells_both p xs ys = grind (arith, map-append, list_any-append)

-- what the first places of a part tell
part_tells : (b : Circular) (tx : Tx) (heard : List Heard) (p n : ℕ) → tells p (part_hearings b tx heard n)
    ≡ is_brought b tx.rv tx.qm (length heard) (λ m. is_received (heard_at heard m)) n p
part_tells b tx heard p zero = refl
part_tells b tx heard p (suc n) = grind (arith, part-more b tx heard n, tells_both, part_tells b tx heard p n)

-- places that are alike tell alike
told_alike : (b : Circular) (rv qm e : ℕ) (f g : ℕ → Bool) (n p : ℕ) → ((m : ℕ) → m < n → f m ≡ g m)
    → is_brought b rv qm e f n p ≡ is_brought b rv qm e g n p
told_alike b rv qm e f g zero p same = refl
told_alike b rv qm e f g (suc n) p same =
    grind (arith, told_alike b rv qm e f g n p (λ m lt. same m (omega (arith, lt))), same n (omega arith))

heard_told : (link : Link) (list : List Reception) (r p : ℕ) → r < link.plan.c → p < word_size link.graph link.plan
    → is_heard_at link list r p ≡ tells p (hearings link list r)
heard_told link list r p block inside =
    grind (
      arith,
      record-at link list r block,
      record_of-at (word_size link.graph link.plan) (hearings link list r) p
          inside,
      heard-by,
    )

pub receptions_tell : PartsAreAt → PlacesHaveOneOwner → AcceptedAreMatched → ReceptionsTell
receptions_tell parts owners matched link list tx lengths heard r p is said whole block inside =
    let are : IsMatched link tx lengths = matched link tx lengths is said in
    let x = reception tx heard in
    let start = sum (take r lengths) in
    let e = slice_index lengths r in
    let pc = piece lengths heard r in
    let many : length lengths ≡ link.plan.c = are.shared.counted in
    let most : start + e ≤ sum lengths = sum_by_more_le (λ (y : ℕ). y) lengths r 0 (omega (arith, many, block)) in
    let long : length pc ≡ e =
    length-take-le e (drop start heard) (omega (arith, length-drop start heard, most, are.shared.together, whole)) in
    let same : (m : ℕ) → m < e → is_received (heard_at pc m) ≡ is_received (heard_at heard (start + m)) = λ m lt.
    ap is_received (grind (arith, get_or-take, get_or-drop)) in
    let own = hearings-told parts owners matched link tx lengths heard r is said whole block in
    heard_told link (list ++ x ∷ []) r p block inside
    ∙ ap (tells p) (hearings-more link list x r)
    ∙ tells_both p (hearings link list r) (hearings_in link r x)
    ∙ ap (λ b. b || tells p (hearings_in link r x)) (sym (heard_told link list r p block inside))
    ∙ ap (λ b. is_heard_at link list r p || b) (ap (tells p) own ∙ part_tells link.buffer tx pc p (length pc)
    ∙ ap (λ n. is_brought link.buffer tx.rv tx.qm n (λ m. is_received (heard_at pc m)) n p) long
    ∙ told_alike link.buffer tx.rv tx.qm e (λ m. is_received (heard_at pc m))
    (λ m. is_received (heard_at heard (start + m))) e p same)

-- ---- a set follows the receptions

-- no position past the codeword is told
told_inside : PlacesAreSent → (b : Circular) (rv qm e : ℕ) (f : ℕ → Bool) (n p : ℕ) → IsCircular b → rv < 4
    → cols_of b.graph * b.z ≤ p → is_brought b rv qm e f n p ≡ false
told_inside sent b rv qm e f zero p is version past = refl
told_inside sent b rv qm e f (suc n) p is version past =
    let coded = (sent b rv (seat_of qm e n) is version).coded in
    grind (arith, nat_tests, told_inside sent b rv qm e f n p is version past)

heard_past : (link : Link) (list : List Reception) (r p : ℕ) → r < link.plan.c → word_size link.graph link.plan ≤ p
    → is_heard_at link list r p ≡ false
heard_past link list r p block past =
    grind (arith, record-at link list r block, first-past (word_size link.graph link.plan) (hearings link list r) p past)

module _ (parts : PartsAreAt) (owners : PlacesHaveOneOwner) (matched : AcceptedAreMatched) (sent : PlacesAreSent) where
  -- what is given after one more reception
  given_more : (link : Link) (list : List Reception) (tx : Tx) (lengths : List ℕ) (heard : List Heard) (r : ℕ) → IsLink link
      → tx_said link tx ≡ Ok lengths → length heard ≡ tx.g → r < link.plan.c → (q : ℕ)
      → (given link (heard_of (heard_record link list) r) q || is_brought link.buffer tx.rv tx.qm (slice_index lengths r)
      (λ m. is_received (heard_at heard (sum (take r lengths) + m))) (slice_index lengths r) q)
      ≡ given link (heard_of (heard_record link (list ++ reception tx heard ∷ [])) r) q
  given_more link list tx lengths heard r is said whole block q =
      let size = link-positions link is in
      let version = (matched link tx lengths is said).matched.version in
      elim (cases_lt q (word_size link.graph link.plan)) [
        | inl inside ↦ grind (
          arith,
          receptions_tell parts owners matched link list tx lengths heard r q is said whole block
              inside,
        )
        | inr past ↦ grind (
          arith,
          heard_past link list r q block past,
          heard_past link (list ++ reception tx heard ∷ []) r q block past,
          told_inside sent link.buffer tx.rv tx.qm (slice_index lengths r)
              (λ m. is_received (heard_at heard (sum (take r lengths) + m))) (slice_index lengths r) q (link-circular link is)
              version
              (omega (arith, size, past)),
        )
      ]

  module _ (checks : ChecksAreSound) (continues : ClosureContinues) where
    link_sound : (link : Link) → IsLink link → AreSound (block_checks link.table link.graph link.plan)
    link_sound link is =
        let buffer_z : link.buffer.z ≡ link.plan.z = ap (λ (b : Circular). b.z) (link-buffer link is) in
        checks link.table link.graph link.plan is.table (rw buffer_z at (link-circular link is).size_some)

    pub slices_follow : SlicesFollow
    slices_follow link list tx lengths heard r known told closed is said whole block known_is told_is closed_is p =
        let c = block_checks link.table link.graph link.plan in
        let S = given link (heard_of (heard_record link list) r) in
        let T = is_brought link.buffer tx.rv tx.qm (slice_index lengths r)
        (λ m. is_received (heard_at heard (sum (take r lengths) + m))) (slice_index lengths r) in
        let mid : (q : ℕ) → told q ≡ union (closure c S) T q = λ q. told_is q ∙ ap (λ b. b || T q) (known_is q) in
        closed_is p
        ∙ ap (λ (U : ℕ → Bool). closure c U p) (λ i q. mid q i)
        ∙ continues c S T p (link_sound link is)
        ∙ ap (λ (U : ℕ → Bool). closure c U p) (λ i q. given_more link list tx lengths heard r is said whole block q i)

    pub slices_between : ClosureIsMonotone → SlicesFollowBetween
    slices_between monotone link list tx lengths heard r known told closed is said whole block between told_is up inside =
        let c = block_checks link.table link.graph link.plan in
        let S = given link (heard_of (heard_record link list) r) in
        let S' = given link (heard_of (heard_record link (list ++ reception tx heard ∷ [])) r) in
        let T = is_brought link.buffer tx.rv tx.qm (slice_index lengths r)
        (λ m. is_received (heard_at heard (sum (take r lengths) + m))) (slice_index lengths r) in
        let more : (q : ℕ) → union S T q ≡ S' q = given_more link list tx lengths heard r is said whole block in
        let low : Within (union S T) told = λ q h. grind (arith, told_is q, between.given q) in
        let high : Within told (union (closure c S) T) = λ q h. grind (arith, told_is q, between.fixed q) in
        let new : (q : ℕ) → closure c (union S T) q ≡ closure c S' q = λ q.
        ap (λ (U : ℕ → Bool). closure c U q) (λ i p. more p i) in
        let same : (q : ℕ) → closure c told q ≡ closure c S' q = λ q.
        same_truth _ _
        (λ h. sym (continues c S T q (link_sound link is) ∙ new q) ∙ monotone c told (union (closure c S) T) high q h)
        (λ h. monotone c (union S T) told low q (new q ∙ h)) in (
          record {
            given = λ q h. up q (low q (more q ∙ h));
            fixed = λ q h. sym (same q) ∙ inside q h;
          },
          λ p e. e ∙ same p,
        )

-- ---- what is left, and the start

counted_same : (f g : ℕ → Bool) (a n : ℕ) → ((p : ℕ) → p < a + n → f p ≡ g p)
    → count_by f (range_with_len a n) ≡ count_by g (range_with_len a n)
counted_same f g a zero same = refl
counted_same f g a (suc n) same = grind (
  arith,
  sum_by-cons (λ p. cond (f p) 1 0) a (range_with_len (a + 1) n),
  sum_by-cons (λ p. cond (g p) 1 0) a (range_with_len (a + 1) n),
  same a (omega arith),
  counted_same f g (a + 1) n (λ p lt. same p (omega (arith, lt))),
)

pub lacking_is_left : LackingIsLeft
lacking_is_left link list r known is =
    counted_same (λ p. not (is_fixed_at link (heard_of (heard_record link list) r) p)) (λ p. not (known p)) 0 link.plan.kdash
    (λ p lt. ap not (sym (is p (omega (arith, lt)))))

pub fillers_between : ChecksAreSound → StepsStayInClosure → FillersAreBetween
unfolding hearings
fillers_between checks steps link r is block =
    let c = block_checks link.table link.graph link.plan in
    let buffer_z : link.buffer.z ≡ link.plan.z = ap (λ (b : Circular). b.z) (link-buffer link is) in
    let sound : AreSound c = checks link.table link.graph link.plan is.table (rw buffer_z at (link-circular link is).size_some) in
    let S = given link (heard_of (heard_record link []) r) in
    let same : (q : ℕ) → S q ≡ filler link.plan.kdash link.plan.k q = λ q.
    grind (arith, record-at link [] r block, none_heard (word_size link.graph link.plan) q) in
    record {
      given = λ q h. sym (same q) ∙ h;
      fixed = λ q h. steps c S [] sound q (same q ∙ h);
    }
