-- The one word of a list of information bits, with its parity columns solved, for a base graph of an accepted shape.
use Rattle.nr_ldpcenc.proofs.Common.{◌≡◌, ℕ, ◌+◌, ◌-◌, ◌*◌, ◌<◌, ◌≤◌, Bool, false, List, length, map}
use Rattle.nr_ldpcenc.proofs.Common.{take, sym, ap, subst, ◌∙◌, arith, mul-le-mul_right, get_or-take, length-take, bit}
use Rattle.nr_ldpcenc.proofs.Common.{same_from_bits, HasShape, IsWordOf, Lifting, IsSolvedTo, AgreeBelow}
use Rattle.nr_ldpcenc.specs.Rows.{checks_of}
use Rattle.nr_ldpcenc.proofs.SolvedColumnFacts.{built, IsBuilt, meets_from_solved, solved_from_meets, solved_same, solved_agree}
use Rattle.std.specs.List.{range_with_len}
use Rattle.std.proofs.lemmas.List.FromFn.{get_or-map-range_with_len, length-map-range_with_len}

-- a word that begins with some bits has them
begins-agree : (info w : List Bool) → take (length info) w ≡ info → AgreeBelow (length info) (bit w) (bit info)
begins-agree info w begins p lt = sym (get_or-take (length info) w p false lt) ∙ ap (λ l. bit l p) begins

-- a list begins with the bits that it has
begins-from_agree : (info w : List Bool) → length info ≤ length w → AgreeBelow (length info) (bit w) (bit info)
    → take (length info) w ≡ info
begins-from_agree info w le same = grind (arith, same_from_bits, length-take, get_or-take)

module _ (l : Lifting) (rows : ℕ) (shape : HasShape l.entries l.set l.info_cols rows) (four : 4 ≤ rows) (pos : 0 < l.z)
    (cols : ℕ) (counted : cols ≡ l.info_cols + rows) where
  all_built : (info : List Bool) → (new : ℕ → Bool) × IsBuilt l pos rows (bit info) new
  all_built info =
      let some = built l pos (bit info) (rows - 1) in
      let all : (rows - 1) + 1 ≡ rows = omega arith in
      (some.0, subst (λ m. IsBuilt l pos m (bit info) some.0) all some.1)

  -- the word that begins with the bits of the information columns and has all parity columns solved
  pub solved_word : List Bool → List Bool
  solved_word info = map (all_built info).0 (range_with_len 0 ((l.info_cols + rows) * l.z))

  solved_word-bits : (info : List Bool)
      → AgreeBelow ((l.info_cols + rows) * l.z) (all_built info).0 (bit (solved_word info))
  unfolding solved_word
  solved_word-bits info p lt = grind (arith, get_or-map-range_with_len)

  solved_word-length : (info : List Bool) → length (solved_word info) ≡ (l.info_cols + rows) * l.z
  unfolding solved_word
  solved_word-length info = length-map-range_with_len (all_built info).0 0 ((l.info_cols + rows) * l.z)

  -- it begins with the bits, and meets every row
  pub solved_word-is : (info : List Bool) → length info ≡ l.info_cols * l.z
      → IsWordOf (checks_of l.entries l.set l.z rows cols) info (solved_word info)
  solved_word-is info whole =
      let word : List Bool = solved_word info in
      let done = all_built info in
      let low : l.info_cols * l.z ≤ (l.info_cols + rows) * l.z = mul-le-mul_right l.z (omega arith) in
      let same : AgreeBelow (l.info_cols * l.z) (bit info) (bit word) =
      λ p lt. done.1.begins p lt ∙ solved_word-bits info p (omega (arith, lt, low)) in
      record {
        long = solved_word-length info ∙ ap (λ c. c * l.z) (sym counted);
        begins =
            begins-from_agree info word (omega (arith, solved_word-length info)) (λ p lt. sym (same p (omega (arith, lt, whole))));
        meets = meets_from_solved l rows shape four cols (bit word)
            (solved_same l pos rows done.0 (bit word) (omega arith) done.1.solved (solved_word-bits info));
      }

  -- and it is the only such word
  pub solved_word-only : (info word : List Bool) → length info ≡ l.info_cols * l.z
      → IsWordOf (checks_of l.entries l.set l.z rows cols) info word → word ≡ solved_word info
  solved_word-only info word whole is =
      let other : List Bool = solved_word info in
      let one = solved_word-is info whole in
      let all : l.info_cols + (rows - 1) + 1 ≡ l.info_cols + rows = omega arith in
      let agree : AgreeBelow ((l.info_cols + rows) * l.z) (bit word) (bit other) =
      subst (λ m. AgreeBelow (m * l.z) (bit word) (bit other)) all
      (solved_agree l pos rows (bit word) (bit other)
      (solved_from_meets l rows shape four cols (bit word) is.meets)
      (solved_from_meets l rows shape four cols (bit other) one.meets)
      (λ p lt.
      let low : p < length info = omega (arith, lt, whole) in
      begins-agree info word is.begins p low ∙ sym (begins-agree info other one.begins p low)) (rows - 1) (omega arith)) in
      same_from_bits word other (is.long ∙ sym one.long)
      (λ k lt. agree k (subst (λ m. k < m) (is.long ∙ ap (λ c. c * l.z) counted) lt))

  -- a word with its parity columns solved is the one of its information bits
  pub solved-is : (word : List Bool) → length word ≡ cols * l.z → IsSolvedTo l rows (bit word)
      → word ≡ solved_word (take (l.info_cols * l.z) word)
  solved-is word long solved =
      let info : List Bool = take (l.info_cols * l.z) word in
      let low : l.info_cols * l.z ≤ cols * l.z = mul-le-mul_right l.z (omega (arith, counted)) in
      let whole : length info ≡ l.info_cols * l.z = omega (arith, length-take (l.info_cols * l.z) word) in
      solved_word-only info word whole (record {
        long = long;
        begins = ap (λ m. take m word) whole;
        meets = meets_from_solved l rows shape four cols (bit word) solved;
      })
