-- The lengths of the code blocks: what the shares are together, and what is true if there is no fault.
use Rattle.nr_ratematch.proofs.Common.{◌≡◌, ℕ, suc, zero, ◌+◌, ◌-◌, ◌*◌, ◌/◌, ◌%◌, ◌<◌, ◌≤◌}
use Rattle.nr_ratematch.proofs.Common.{inl, inr, Bool, true, false, nat_le, cond, List, map, refl, sym, ◌∙◌, ap, subst, arith}
use Rattle.nr_ratematch.proofs.Common.{Ok, range_with_len, cases_lt, nat_tests, map-id, length-map-range_with_len, scheduled_count}
use Rattle.nr_ratematch.proofs.Common.{share_of, length_of, lengths_said}
use Rattle.nr_ratematch.specs.Lengths.{is_order, lengths_of, IsShared}
use Rattle.std.{proofs.Common.◌⊎◌, proofs.Common.nat_eq, proofs.Common.sum, specs.Prelude.count_by, specs.Int.div_ceil}
use Rattle.std.proofs.{Math.Nat.div-add-mod, Math.Nat.mul-mod_right, lemmas.Bool.and_parts}
use Rattle.std.proofs.lemmas.List.{Elements.All-from_get_or, Elements.All-map, FromFn.sum_by-map-range_with_len_more}

-- one code block more
count_more : (is_on : ℕ → Bool) (r : ℕ) → scheduled_count is_on (r + 1) ≡ scheduled_count is_on r + cond (is_on r) 1 0
count_more is_on r =
    ap (count_by is_on) (sym (map-id (range_with_len 0 (r + 1))))
    ∙ sum_by-map-range_with_len_more (λ x. cond (is_on x) 1 0) (λ (x : ℕ). x) 0 r r (omega arith)
    ∙ ap (λ xs. count_by is_on xs + cond (is_on r) 1 0) (map-id (range_with_len 0 r))

pub count_yes : (is_on : ℕ → Bool) (r : ℕ) → is_on r ≡ true
    → scheduled_count is_on (r + 1) ≡ scheduled_count is_on r + 1
count_yes is_on r on = count_more is_on r ∙ ap (λ b. scheduled_count is_on r + cond b 1 0) on

pub count_no : (is_on : ℕ → Bool) (r : ℕ) → is_on r ≡ false → scheduled_count is_on (r + 1) ≡ scheduled_count is_on r
count_no is_on r off = count_more is_on r ∙ ap (λ b. scheduled_count is_on r + cond b 1 0) off ∙ omega arith

-- more code blocks have no fewer scheduled ones
count_grows : (is_on : ℕ → Bool) (r n : ℕ) → scheduled_count is_on r ≤ scheduled_count is_on (r + n)
count_grows is_on r zero = let same : r + 0 ≡ r = omega arith in rw same (omega arith)
count_grows is_on r (suc n) =
    let before = count_grows is_on r n in
    let more = count_more is_on (r + n) in
    let next : r + n + 1 ≡ r + suc n = omega arith in
    subst (λ k. scheduled_count is_on r ≤ scheduled_count is_on k) next (omega arith)

-- before a scheduled code block of c there are fewer scheduled ones than in all
pub count_below : (is_on : ℕ → Bool) (r c : ℕ) → r < c → is_on r ≡ true
    → scheduled_count is_on r < scheduled_count is_on c
count_below is_on r c inside on =
    let one = count_yes is_on r on in
    let rest = count_grows is_on (r + 1) (c - (r + 1)) in
    let all : r + 1 + (c - (r + 1)) ≡ c = omega arith in
    let most : scheduled_count is_on (r + 1) ≤ scheduled_count is_on c =
    subst (λ k. scheduled_count is_on (r + 1) ≤ scheduled_count is_on k) all rest in
    omega arith

-- how many symbols a layer has in the first j of `all` scheduled code blocks
abbrev share_sum : ℕ → ℕ → ℕ → ℕ
share_sum all s j = s / all * j + (j - (all - s % all))

share_more : (all unit s j : ℕ) → j < all
    → unit * share_sum all s j + share_of all unit s j ≡ unit * share_sum all s (j + 1)
share_more all unit s j inside = go (cases_lt j (all - s % all))
  where
    go : (j < all - s % all) ⊎ (all - s % all ≤ j)
        → unit * share_sum all s j + share_of all unit s j ≡ unit * share_sum all s (j + 1)
    go (inl short) =
        let is : nat_le j (all - s % all - 1) ≡ true = grind (arith, nat_tests) in
        let none : j - (all - s % all) ≡ 0 = omega arith in
        let none_more : j + 1 - (all - s % all) ≡ 0 = omega arith in
        rw (is, none, none_more) (omega arith)
    go (inr long) =
        let is : nat_le j (all - s % all - 1) ≡ false = grind (arith, nat_tests) in
        let up : div_ceil s all ≡ s / all + 1 = omega arith in
        let more : j + 1 - (all - s % all) ≡ j - (all - s % all) + 1 = omega arith in
        rw (is, up, more) (omega arith)

-- the first n lengths together
shares-sum : (is_on : ℕ → Bool) (c unit s n : ℕ) → n ≤ c
    → sum (map (length_of is_on c unit s) (range_with_len 0 n))
    ≡ unit * share_sum (scheduled_count is_on c) s (scheduled_count is_on n)
shares-sum is_on c unit s zero inside = grind arith
shares-sum is_on c unit s (suc n) inside =
    subst (λ k. sum (map (length_of is_on c unit s) (range_with_len 0 k))
    ≡ unit * share_sum (scheduled_count is_on c) s (scheduled_count is_on k))
    next (sum_by-map-range_with_len_more (λ (x : ℕ). x) (length_of is_on c unit s) 0 n n (omega arith)
    ∙ ap (λ k. k + length_of is_on c unit s n) (shares-sum is_on c unit s n (omega arith))
    ∙ go (is_on n) refl)
  where
    next : n + 1 ≡ suc n
    next = omega arith

    go : (b : Bool) → is_on n ≡ b
        → unit * share_sum (scheduled_count is_on c) s (scheduled_count is_on n) + length_of is_on c unit s n
        ≡ unit * share_sum (scheduled_count is_on c) s (scheduled_count is_on (n + 1))
    go true on = grind (arith, count_below, count_yes, share_more)
    go false off = rw (off, count_no is_on n off) (omega arith)

-- the lengths of all together
all-shares : (all unit s : ℕ) → 0 < all → unit * share_sum all s all ≡ unit * s
all-shares all unit s some = grind (arith, div-add-mod)

-- what the code computes for a scheduled code block, and for another
pub length_on : (is_on : ℕ → Bool) (c unit s r : ℕ) → is_on r ≡ true
    → share_of (scheduled_count is_on c) unit s (scheduled_count is_on r) ≡ length_of is_on c unit s r
length_on is_on c unit s r on = rw on refl

pub length_off : (is_on : ℕ → Bool) (c unit s r : ℕ) → is_on r ≡ false → 0 ≡ length_of is_on c unit s r
length_off is_on c unit s r off = rw off refl

-- each length is a multiple of the unit
share-units : (all unit s j : ℕ) → (n : ℕ) × (share_of all unit s j ≡ unit * n)
share-units all unit s j = go (nat_le j (all - s % all - 1)) refl
  where
    go : (short : Bool) → nat_le j (all - s % all - 1) ≡ short → (n : ℕ) × (share_of all unit s j ≡ unit * n)
    go true is = (s / all, rw is refl)
    go false is = (div_ceil s all, rw is refl)

length-units : (is_on : ℕ → Bool) (c unit s r : ℕ) → (n : ℕ) × (length_of is_on c unit s r ≡ unit * n)
length-units is_on c unit s r = go (is_on r) refl
  where
    go : (b : Bool) → is_on r ≡ b → (n : ℕ) × (length_of is_on c unit s r ≡ unit * n)
    go true on =
        let share = share-units (scheduled_count is_on c) unit s (scheduled_count is_on r) in
        (share.0, rw on share.1)
    go false off = (0, rw off (omega arith))

-- a length is a multiple of Qm
length-whole : (is_on : ℕ → Bool) (c qm nl s r : ℕ) → length_of is_on c (nl * qm) s r % qm ≡ 0
length-whole is_on c qm nl s r =
    let units = length-units is_on c (nl * qm) s r in
    let turned : nl * qm * units.0 ≡ qm * (nl * units.0) = omega arith in
    ap (λ e. e % qm) (units.1 ∙ turned) ∙ mul-mod_right qm (nl * units.0)

-- what follows if lengths are returned
record IsAnswered (is_on : ℕ → Bool) (c g qm nl : ℕ) (lengths : List ℕ) : Type 0 where
  pub order : is_order qm ≡ true
  pub layers : 1 ≤ nl
  pub few : g ≤ 4194304
  pub whole : g % (nl * qm) ≡ 0
  pub some : 0 < scheduled_count is_on c
  pub are : lengths_of is_on c g qm nl ≡ lengths

answered : (is_on : ℕ → Bool) (c g qm nl : ℕ) (lengths : List ℕ) → lengths_said is_on c g qm nl ≡ Ok lengths
    → IsAnswered is_on c g qm nl lengths
unfolding lengths_said
answered is_on c g qm nl lengths said = grind (arith, nat_tests, nat_eq, and_parts)

order-some : (qm : ℕ) → is_order qm ≡ true → 0 < qm
order-some zero order = cc
order-some (suc qm) order = omega arith

pub lengths-shared : (is_on : ℕ → Bool) (c g qm nl : ℕ) (lengths : List ℕ) → lengths_said is_on c g qm nl ≡ Ok lengths
    → IsShared c g qm lengths
lengths-shared is_on c g qm nl lengths said =
    let a : IsAnswered is_on c g qm nl lengths = answered is_on c g qm nl lengths said in
    let length_at : ℕ → ℕ = length_of is_on c (nl * qm) (g / (nl * qm)) in
    let some : 0 < qm = order-some qm a.order in
    let split : nl * qm * (g / (nl * qm)) + g % (nl * qm) ≡ g = div-add-mod g (nl * qm) in
    let units : nl * qm * (g / (nl * qm)) ≡ g = let whole = a.whole in omega arith in
    subst (IsShared c g qm) a.are (record {
      counted = length-map-range_with_len length_at 0 c;
      order_some = some;
      whole = All-map (λ e. e % qm ≡ 0) length_at (range_with_len 0 c)
          (All-from_get_or (λ r. length_at r % qm ≡ 0) (range_with_len 0 c) 0
          (λ i inside. length-whole is_on c qm nl (g / (nl * qm)) _));
      together = shares-sum is_on c (nl * qm) (g / (nl * qm)) c (omega arith)
          ∙ all-shares (scheduled_count is_on c) (nl * qm) (g / (nl * qm)) a.some
          ∙ units;
      few = a.few;
    })
