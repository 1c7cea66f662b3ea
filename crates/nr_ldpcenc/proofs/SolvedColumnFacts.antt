-- A word meets every row of an accepted base graph exactly if its parity columns are solved one after another. So the
-- information columns determine the others.
use Rattle.std.proofs.Common.{◌≡◌, ℕ, zero, suc, ◌+◌, ◌-◌, ◌*◌, ◌/◌, ◌%◌, ◌<◌, ◌≤◌, ◌==◌}
use Rattle.std.proofs.Common.{Bool, false, cond, inl, inr, [], ◌∷◌, refl, sym, ap, subst, ◌∙◌, arith}
use Rattle.std.proofs.Math.Nat.{mul-le-mul_right, mod-add-mod, add-mod_right, mod-eq_of_lt}
use Rattle.std.proofs.lemmas.Nat.{mod_below, div_below, div-mul-add, mod-mul-add}
use Rattle.std.proofs.lemmas.Bool.{cases_lt, cases_eq, eq-eqb, ne_eqb}
use Rattle.std.proofs.lemmas.Bool.Decides.{nat_tests}
use Rattle.nr_shifttable.specs.Tails.{HasShape}
use Rattle.nr_bitvec.specs.Bit.{◌⊕◌}
use Rattle.nr_ldpcenc.specs.Parity.{parity}
use Rattle.nr_ldpcenc.specs.Rows.{Meets, one_at, checks_of}
use Rattle.nr_ldpcenc.specs.inside.Words.{row_at}
use Rattle.nr_ldpcenc.specs.inside.Solving.{Lifting, IsSolvedTo, head_sum, core_sum, core_rotation, row_ending, unrotate}
use Rattle.nr_ldpcenc.specs.inside.Words.{AgreeBelow}
use Rattle.nr_ldpcenc.proofs.RowSumFacts.{MeetsEach, Meets-each, Meets-from_each, heads-agree, place_below, row-splits}
use Rattle.nr_ldpcenc.proofs.CoreRowFacts.{rows_sum, core_rows-add_up, row-ends, row_ending-high}

-- the places of a column, lane by lane
pub place-zero : (z t j : ℕ) → t < z → one_at z t j 0 ≡ j * z + t
place-zero z t j lt = grind (arith, nat_tests, mod-eq_of_lt)

-- a rotation and one by the rest of z bring each place back
turned_back : (z p q u : ℕ) → p + q ≡ z → u < z → ((u + p) % z + q) % z ≡ u
turned_back z p q u circle lt = grind (arith, nat_tests, mod-add-mod, add-mod_right, mod-eq_of_lt)

unrotate-rotate : (z v t : ℕ) → t < z → unrotate z v ((t + v % z) % z) ≡ t
unrotate-rotate z v t lt = turned_back z (v % z) (z - v % z) t (omega (arith, mod_below v z (omega (arith, lt)))) lt

place-unrotate : (z v u j : ℕ) → u < z → one_at z (unrotate z v u) j v ≡ j * z + u
place-unrotate z v u j lt =
    ap (λ r. j * z + r) (turned_back z (z - v % z) (v % z) u (omega (arith, mod_below v z (omega (arith, lt)))) lt)

-- agreement below one more column
pub agree_more : (z j : ℕ) (v w : ℕ → Bool) → AgreeBelow (j * z) v w
    → ((u : ℕ) → u < z → v (j * z + u) ≡ w (j * z + u)) → AgreeBelow ((j + 1) * z) v w
agree_more z j v w same here p lt = elim (cases_lt p (j * z)) [
  | inl below ↦ same p below
  | inr above ↦
      let back : j * z + (p - j * z) ≡ p = omega (arith, above) in
      sym (ap v back) ∙ here (p - j * z) (omega (arith, above, lt)) ∙ ap w back
]

-- the sums of the core rows see only the information columns
pub core_sums-agree : (l : Lifting) (v w : ℕ → Bool) (t : ℕ) → 0 < l.z → AgreeBelow (l.info_cols * l.z) v w
    → core_sum l v t ≡ core_sum l w t
core_sums-agree l v w t pos same =
    let agree = λ (i : ℕ). heads-agree l v w l.info_cols i t pos same in
    (λ i. (agree 0 i ⊕ agree 1 i) ⊕ (agree 2 i ⊕ agree 3 i))

module _ (l : Lifting) (rows : ℕ) (shape : HasShape l.entries l.set l.info_cols rows) (four : 4 ≤ rows) where
  ends_low : (i : ℕ) → 1 ≤ i → i < rows → row_ending i < rows
  ends_low i some lt = grind (arith, nat_tests)

  -- what the row of a later parity column adds up to
  ending : (w : ℕ → Bool) (i t : ℕ) → 1 ≤ i → i < rows → parity w (row_at l.entries l.set l.z (row_ending i) t)
      ≡ head_sum l w (l.info_cols + i) (row_ending i) t ⊕ (w (one_at l.z t (l.info_cols + i) 0) ⊕ false)
  ending w i t some lim = row-splits l w (l.info_cols + i) (row_ending i) t ((l.info_cols + i, 0) ∷ [])
      (row-ends l.entries l.set l.info_cols rows i shape some lim)

  -- and the core rows
  core : (w : ℕ → Bool) (t : ℕ) → rows_sum l w t ≡ core_sum l w t ⊕ w (one_at l.z t l.info_cols (core_rotation l))
  core w t = core_rows-add_up l w t shape.first shape.middle shape.last shape.core

  -- a word that meets every row has its parity columns solved
  pub solved_from_meets : (cols : ℕ) (w : ℕ → Bool) → Meets (checks_of l.entries l.set l.z rows cols) w
      → IsSolvedTo l rows w
  solved_from_meets cols w all = let met = Meets-each (checks_of l.entries l.set l.z rows cols) w all in record {
    first = λ t lt.
        grind (
          arith,
          core w t,
          met 0 t (omega arith) lt,
          met 1 t (omega arith) lt,
          met 2 t (omega arith) lt,
          met 3 t (omega arith) lt,
        );
    later = λ i t some lim lt. grind (arith, ending w i t some lim, met (row_ending i) t (ends_low i some lim) lt);
  }

  -- a row that ends in a solved column is met
  ending_met : (w : ℕ → Bool) → IsSolvedTo l rows w → (i t : ℕ) → 1 ≤ i → i < rows → t < l.z
      → parity w (row_at l.entries l.set l.z (row_ending i) t) ≡ false
  ending_met w solved i t some lim lt = grind (arith, ending w i t some lim, solved.later i t some lim lt)

  -- a word with its parity columns solved meets every row
  each_from_solved : (cols : ℕ) (w : ℕ → Bool) → IsSolvedTo l rows w
      → MeetsEach (checks_of l.entries l.set l.z rows cols) w
  each_from_solved cols w solved zero t low lt = ending_met w solved 1 t (omega arith) (omega arith) lt
  each_from_solved cols w solved (suc zero) t low lt = ending_met w solved 2 t (omega arith) (omega arith) lt
  each_from_solved cols w solved (suc (suc zero)) t low lt =
      let ends = λ (i : ℕ) (some : 1 ≤ i) (lim : i < rows). ending_met w solved i t some lim lt in
      grind (
        arith,
        core w t,
        solved.first t lt,
        ends 1 (omega arith) (omega arith),
        ends 2 (omega arith) (omega arith),
        ends 3 (omega arith) (omega arith),
      )
  each_from_solved cols w solved (suc (suc (suc k))) t low lt =
      let i = suc (suc (suc k)) in
      ap (λ j. parity w (row_at l.entries l.set l.z j t)) (row_ending-high i (omega arith))
      ∙ ending_met w solved i t (omega arith) low lt

  pub meets_from_solved : (cols : ℕ) (w : ℕ → Bool) → IsSolvedTo l rows w
      → Meets (checks_of l.entries l.set l.z rows cols) w
  meets_from_solved cols w solved =
      Meets-from_each (checks_of l.entries l.set l.z rows cols) w (each_from_solved cols w solved)

module _ (l : Lifting) (pos : 0 < l.z) where
  -- solved words that begin with the same information columns are the same
  pub solved_agree : (lim : ℕ) (v w : ℕ → Bool) → IsSolvedTo l lim v → IsSolvedTo l lim w
      → AgreeBelow (l.info_cols * l.z) v w
      → (k : ℕ) → k < lim → AgreeBelow ((l.info_cols + k + 1) * l.z) v w
  solved_agree lim v w sv sw same zero lt = subst (λ m. AgreeBelow (m * l.z) v w) (omega arith)
      (agree_more l.z l.info_cols v w same (λ u low.
      let rot = core_rotation l in
      let t = unrotate l.z rot u in
      let lane : t < l.z = mod_below (u + (l.z - rot % l.z)) l.z pos in
      let at : one_at l.z t l.info_cols rot ≡ l.info_cols * l.z + u = place-unrotate l.z rot u l.info_cols low in
      sym (ap v at) ∙ sv.first t lane ∙ core_sums-agree l v w t pos same ∙ sym (sw.first t lane) ∙ ap w at))
  solved_agree lim v w sv sw same (suc k) lt =
      let j = l.info_cols + suc k in
      let before : AgreeBelow (j * l.z) v w =
      subst (λ m. AgreeBelow (m * l.z) v w) (omega arith) (solved_agree lim v w sv sw same k (omega (arith, lt))) in
      subst (λ m. AgreeBelow (m * l.z) v w) (omega arith) (agree_more l.z j v w before (λ u low.
      let at : one_at l.z u j 0 ≡ j * l.z + u = place-zero l.z u j low in
      sym (ap v at)
      ∙ sv.later (suc k) u (omega arith) lt low
      ∙ heads-agree l v w j (row_ending (suc k)) u pos before
      ∙ sym (sw.later (suc k) u (omega arith) lt low)
      ∙ ap w at))

  -- columns solved in a word are solved in a word that has the same columns
  pub solved_same : (lim : ℕ) (v w : ℕ → Bool) → 1 ≤ lim → IsSolvedTo l lim v
      → AgreeBelow ((l.info_cols + lim) * l.z) v w → IsSolvedTo l lim w
  solved_same lim v w some solved same = record {
    first = λ t lt.
        let rot = core_rotation l in
        let low : l.info_cols * l.z ≤ (l.info_cols + lim) * l.z = mul-le-mul_right l.z (omega arith) in
        sym (same (one_at l.z t l.info_cols rot) (place_below l.z t l.info_cols rot (l.info_cols + lim) pos (omega arith)))
        ∙ solved.first t lt
        ∙ core_sums-agree l v w t pos (λ p h. same p (omega (arith, h, low)));
    later = λ i t one lt lane.
        let j = l.info_cols + i in
        let low : j * l.z ≤ (l.info_cols + lim) * l.z = mul-le-mul_right l.z (omega arith) in
        sym (same (one_at l.z t j 0) (place_below l.z t j 0 (l.info_cols + lim) pos (omega arith)))
        ∙ solved.later i t one lt lane
        ∙ heads-agree l v w j (row_ending i) t pos (λ p h. same p (omega (arith, h, low)));
  }

  -- the first parity column is solved
  pub solved_first : (v w : ℕ → Bool) → AgreeBelow (l.info_cols * l.z) v w
      → ((u : ℕ) → u < l.z → w (l.info_cols * l.z + u) ≡ core_sum l v (unrotate l.z (core_rotation l) u))
      → IsSolvedTo l 1 w
  solved_first v w same here = record {
    first = λ t lt.
        let rot = core_rotation l in
        here ((t + rot % l.z) % l.z) (mod_below (t + rot % l.z) l.z pos)
        ∙ ap (core_sum l v) (unrotate-rotate l.z rot t lt)
        ∙ core_sums-agree l v w t pos same;
    later = λ i t one lt lane. absurd (omega (arith, one, lt));
  }

  -- and one more column
  pub solved_more : (lim : ℕ) (v w : ℕ → Bool) → 1 ≤ lim → IsSolvedTo l lim v
      → AgreeBelow ((l.info_cols + lim) * l.z) v w
      → ((t : ℕ) → t < l.z → w ((l.info_cols + lim) * l.z + t) ≡ head_sum l v (l.info_cols + lim) (row_ending lim) t)
      → IsSolvedTo l (lim + 1) w
  solved_more lim v w some solved same here =
      let old = solved_same lim v w some solved same in
      record {
        first = old.first;
        later = λ i t one lt lane. elim (cases_eq i lim) [
          | inl e ↦
              subst (λ k. w (one_at l.z t (l.info_cols + k) 0) ≡ head_sum l w (l.info_cols + k) (row_ending k) t) (sym e)
              (ap w (place-zero l.z t (l.info_cols + lim) lane) ∙ here t lane
              ∙ heads-agree l v w (l.info_cols + lim) (row_ending lim) t pos same)
          | inr apart ↦ old.later i t one (omega (arith, lt, apart)) lane
        ];
      }

  -- a word with other bits in column j
  abbrev with_column : ℕ → (ℕ → Bool) → (ℕ → Bool) → ℕ → Bool
  with_column j f w p = cond (p / l.z == j) (f (p % l.z)) (w p)

  column-new : (j : ℕ) (f w : ℕ → Bool) (u : ℕ) → u < l.z → with_column j f w (j * l.z + u) ≡ f u
  column-new j f w u lt = rw (div-mul-add j l.z u lt, mod-mul-add j l.z u lt, eq-eqb j j refl)

  column-before : (j : ℕ) (f w : ℕ → Bool) → AgreeBelow (j * l.z) w (with_column j f w)
  column-before j f w p lt = rw (ne_eqb (p / l.z) j (omega (arith, div_below p l.z j pos lt))) refl

  -- a word some of whose parity columns are solved, and that begins with the information columns of another
  pub record IsBuilt (lim : ℕ) (old new : ℕ → Bool) : Type 0 where
    pub solved : IsSolvedTo l lim new
    pub begins : AgreeBelow (l.info_cols * l.z) old new

  -- there is one for each number of columns
  pub built : (w : ℕ → Bool) (k : ℕ) → (new : ℕ → Bool) × IsBuilt (k + 1) w new
  built w zero =
      let f : ℕ → Bool = λ u. core_sum l w (unrotate l.z (core_rotation l) u) in
      let new : ℕ → Bool = with_column l.info_cols f w in
      let before = column-before l.info_cols f w in
      (new, record { solved = solved_first w new before (column-new l.info_cols f w); begins = before })
  built w (suc k) =
      let old = built w k in
      let v = old.0 in
      let j = l.info_cols + (k + 1) in
      let f : ℕ → Bool = λ t. head_sum l v j (row_ending (k + 1)) t in
      let new : ℕ → Bool = with_column j f v in
      let before = column-before j f v in
      let low : l.info_cols * l.z ≤ j * l.z = mul-le-mul_right l.z (omega arith) in
      let two : (k + 1) + 1 ≡ suc k + 1 = omega arith in (
        new,
        record {
          solved = subst (λ m. IsSolvedTo l m new) two
              (solved_more (k + 1) v new (omega arith) old.1.solved before (column-new j f v));
          begins = λ p h. old.1.begins p h ∙ before p (omega (arith, h, low));
        },
      )
