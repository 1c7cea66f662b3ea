-- The codewords of plans and accepted tables.
use Rattle.nr_ldpcenc.proofs.Common.{◌≡◌, ℕ, ◌+◌, ◌-◌, ◌*◌, ◌<◌, ◌≤◌, ◌==◌, nat_lt, nat_le, Bool}
use Rattle.nr_ldpcenc.proofs.Common.{false, inl, inr, List, length, take, refl, sym, ap, subst, ◌∙◌, arith, Some, cases_lt}
use Rattle.nr_ldpcenc.proofs.Common.{nat_tests, mul-le-mul_right, length-take, get_or-take, length-replicate, bit, same_from_bits}
use Rattle.nr_ldpcenc.proofs.Common.{rows_of, cols_of, info_cols_of, entries_in, HasShape, block_checks, IsWordOf, word_of}
use Rattle.nr_ldpcenc.proofs.Common.{codeword, Lifting, IsSolvedTo, AgreeBelow, Copies}
use Rattle.nr_ldpcenc.{specs.Codeword.HasOneWord, specs.Codeword.IsCodeword, proofs.WordSearchFacts.word_of-only}
use Rattle.nr_ldpcenc.proofs.InformationWordFacts.{solved_word, solved_word-is, solved_word-only, solved-is}
use Rattle.std.proofs.Common.{true, not, replicate, lit≤}
use Rattle.std.proofs.lemmas.Bool.{and_parts, leb-true, ltb-true}
use Rattle.std.proofs.lemmas.List.{length-append, get_or-replicate, get_or_append_left, get_or-append-add}
use Rattle.nr_bitvec.proofs.ListFacts.{get_or-replicate_same}
use Rattle.nr_graphpick.specs.declared.{Graph.Graph, Graph.TheVariants.One, Graph.TheVariants.Two}
use Rattle.nr_lifting.specs.Sizes.{set_index}
use Rattle.nr_segment.specs.{CodeBlock.with_fillers, Plan.Numbers, Plan.IsSound}
use Rattle.nr_shifttable.specs.Accepted.{Entries}

-- the set index of a lifting size is below 8
pub set_below : (z s : ℕ) → set_index z ≡ Some s → s < 8
unfolding set_index
set_below z s e = grind (arith, nat_tests)

pub columns-are : (g : Graph) → cols_of g ≡ info_cols_of g + rows_of g
columns-are One = refl
columns-are Two = refl

pub core_few : (g : Graph) → info_cols_of g + 4 ≤ 26
core_few One = lit≤ tt
core_few Two = lit≤ tt

pub rows_four : (g : Graph) → 4 ≤ rows_of g
rows_four One = lit≤ tt
rows_four Two = lit≤ tt

pub has_some : (n : ℕ) → not (n == 0) ≡ true → 0 < n
has_some n h = grind (arith, nat_tests)

pub take_agree : (k : ℕ) (a b : List Bool) → length a ≡ length b → AgreeBelow k (bit a) (bit b) → take k a ≡ take k b
take_agree k a b same agree = grind (arith, same_from_bits, length-take, get_or-take)

module _ (g : Graph) (b : ℕ) (p : Numbers) (sound : IsSound g b p) where
  filled_long : (info : List Bool) → length info ≡ p.kdash → length (with_fillers p info) ≡ p.k
  filled_long info whole = grind (arith, length-append, length-replicate)

  fill_first : (info : List Bool) → length info ≡ p.kdash → (k : ℕ) → k < p.kdash
      → bit (with_fillers p info) k ≡ bit info k
  fill_first info whole k lt = get_or_append_left info (replicate (p.k - p.kdash) false) false k (omega arith)

  fill_second : (info : List Bool) → length info ≡ p.kdash → (q : ℕ) → p.kdash ≤ q → q < p.k
      → bit (with_fillers p info) q ≡ false
  fill_second info whole q low high =
      let moved : length info + (q - p.kdash) ≡ q = omega arith in
      ap (bit (with_fillers p info)) (sym moved)
      ∙ get_or-append-add info (replicate (p.k - p.kdash) false) (q - p.kdash) false
      ∙ get_or-replicate (p.k - p.kdash) (q - p.kdash) false false (omega arith)

  filled_take : (old : List Bool) → length old ≡ cols_of g * p.z → length (take p.k old) ≡ p.k
  filled_take old long = grind (arith, mul-le-mul_right, columns-are, length-take)

  -- a word of zeros that begins with the K' bits begins with the code block
  pub begins_filled : (info old new : List Bool) → length info ≡ p.kdash → old ≡ replicate (cols_of g * p.z) false
      → Copies (length info) (length info) info old new → take p.k new ≡ with_fillers p info
  begins_filled info old new whole zeros copied =
      let here : length (take p.k new) ≡ p.k =
      filled_take new (copied.long ∙ ap length zeros ∙ length-replicate (cols_of g * p.z) false) in
      same_from_bits (take p.k new) (with_fillers p info) (here ∙ sym (filled_long info whole)) (λ j lt.
      let low : j < p.k = omega (arith, here, lt) in
      get_or-take p.k new j false low ∙ elim (cases_lt j p.kdash) [
        | inl inside ↦ copied.begins j (omega (arith, inside, whole)) ∙ sym (fill_first info whole j inside)
        | inr beyond ↦ copied.after j (omega (arith, beyond, whole)) ∙ ap (λ l. bit l j) zeros
            ∙ get_or-replicate_same (cols_of g * p.z) j false ∙ sym (fill_second info whole j beyond low)
      ])

  pub kdash_inside : p.kdash ≤ cols_of g * p.z
  kdash_inside = grind (arith, mul-le-mul_right, columns-are)

-- the base graph of a plan's numbers, lifted by their size
abbrev lifted : Entries → Graph → Numbers → Lifting
lifted t g p = record { entries = entries_in g t; set = p.set; z = p.z; info_cols = info_cols_of g }

module _ (t : Entries) (g : Graph) (b : ℕ) (p : Numbers) (shape : HasShape (entries_in g t) p.set (info_cols_of g) (rows_of g))
    (sound : IsSound g b p) where
  -- the word that is found is the one with its parity columns solved
  abbrev solved : List Bool → List Bool
  solved = solved_word (lifted t g p) (rows_of g) shape (rows_four g) sound.size_some (cols_of g) (columns-are g)

  solved_is : (info : List Bool) → length info ≡ p.k → IsWordOf (block_checks t g p) info (solved info)
  solved_is info whole = solved_word-is (lifted t g p) (rows_of g) shape (rows_four g) sound.size_some (cols_of g)
      (columns-are g) info (whole ∙ sound.columns)

  solved_only : (info word : List Bool) → length info ≡ p.k → IsWordOf (block_checks t g p) info word → word ≡ solved info
  solved_only info word whole is = solved_word-only (lifted t g p) (rows_of g) shape (rows_four g) sound.size_some (cols_of g)
      (columns-are g) info word (whole ∙ sound.columns) is

  word_of-solved : (info : List Bool) → length info ≡ p.k → word_of (block_checks t g p) info ≡ solved info
  word_of-solved info whole =
      word_of-only (block_checks t g p) info (solved info) (solved_is info whole) (λ word is. solved_only info word whole is)

  -- exactly one word begins with K bits
  pub one_word : (info : List Bool) → length info ≡ p.k → HasOneWord t g p info
  one_word info whole =
      let same : solved info ≡ word_of (block_checks t g p) info = sym (word_of-solved info whole) in
      record {
        is_word = subst (IsWordOf (block_checks t g p) info) same (solved_is info whole);
        only = λ word is. solved_only info word whole is ∙ same;
      }

  -- the codeword of K' bits begins with them and has zeros for fillers
  pub codeword_is : (info : List Bool) → length info ≡ p.kdash → IsCodeword t g p info (codeword t g p info)
  unfolding codeword
  codeword_is info whole =
      let full : List Bool = with_fillers p info in
      let word : List Bool = word_of (block_checks t g p) full in
      let long : length full ≡ p.k = filled_long g b p sound info whole in
      let one = one_word full long in
      let held : p.kdash ≤ p.k = sound.held in
      let here : (q : ℕ) → q < p.k → bit word q ≡ bit full q =
      λ q lt. sym (get_or-take (length full) word q false (subst (λ m. q < m) (sym long) lt))
      ∙ ap (λ l. bit l q) one.is_word.begins in
      record {
        long = one.is_word.long;
        begins = λ k lt. here k (omega arith) ∙ fill_first g b p sound info whole k lt;
        plain = record {
          meets = one.is_word.meets;
          zero = λ q is.
              let range = and_parts (nat_le p.kdash q) (nat_lt q p.k) is in
              let low : p.kdash ≤ q = leb-true p.kdash q range.0 in
              let high : q < p.k = ltb-true q p.k range.1 in
              here q high ∙ fill_second g b p sound info whole q low high;
        };
      }

  -- a word with its parity columns solved is the one of the K bits that it began with
  pub completed_word : (old new : List Bool) → length old ≡ cols_of g * p.z → length new ≡ length old
      → AgreeBelow p.k (bit old) (bit new)
      → IsSolvedTo (lifted t g p) (rows_of g) (bit new)
      → new ≡ word_of (block_checks t g p) (take p.k old)
  completed_word old new long same kept done =
      solved-is (lifted t g p) (rows_of g) shape (rows_four g) sound.size_some (cols_of g) (columns-are g)
      new (same ∙ long) done
      ∙ ap solved (ap (λ k. take k new) (sym sound.columns) ∙ take_agree p.k new old same (λ q lt. sym (kept q lt)))
      ∙ sym (word_of-solved (take p.k old) (filled_take g b p sound old long))

  pub completed_is_word : (old new : List Bool) → length old ≡ cols_of g * p.z → new
      ≡ word_of (block_checks t g p) (take p.k old)
      → IsWordOf (block_checks t g p) (take p.k old) new
  completed_is_word old new long is = rw is (one_word (take p.k old) (filled_take g b p sound old long)).is_word
