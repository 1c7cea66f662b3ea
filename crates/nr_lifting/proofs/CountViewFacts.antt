-- Counts that bit planes keep, as the list that they are seen as.
use Rattle.nr_lifting.proofs.Names.{cases_eq, cases_lt, count_of, get_or, ◌&&◌, ◌*◌, ◌+◌, ◌==◌, ◌∷◌, no_block}
use Rattle.nr_lifting.proofs.Names.{get_or-set_other, get_or-set_same, get_or_past, if◌then◌else◌, length-map-range_with_len}
use Rattle.nr_lifting.proofs.Names.{get_or_read, nat_tests, ◌∙◌, ◌≡◌, ◌≢◌, ◌≤◌, div-mul-add, mod-mul-add}
use Rattle.nr_lifting.proofs.Names.{Bool, List, [], ap, arith, inl, inr, is_set, length, place, set, ℕ, ◌<◌, le-div}
use Rattle.nr_lifting.specs.{inside.Words.ArePlanes, Planes.BlockCounts, Planes.block_counts, Planes.plane_count}
use Rattle.nr_lifting.{specs.declared.lanes.bit_sliced_counts.CountBlock.CountBlock, proofs.LaneViewFacts.place-lt}
use Rattle.nr_lifting.proofs.DoubledLaneFacts.{block_below, view_is}
use Rattle.std.proofs.{Common.◌++◌, Common.length-append, Math.ListN.get_or-append, Math.Nat.mul-le-mul}
use Rattle.std.proofs.{Math.Seq.get_or-append_seam, lemmas.Bool.eq-eqb, lemmas.Bool.ne_eqb}

-- a place of a lane, as its bit
pub lane_digit : (z : ℕ) (lane : List ℕ) (B : ℕ → Bool) → ((t : ℕ) → t < z → is_set lane t ≡ B t) → (t : ℕ)
    → t < z → place lane t ≡ (if B t then 1 else 0)
lane_digit z lane B are t below = grind (arith, nat_tests, place-lt lane t, are t below)

module _ {P W : ℕ} (z : ℕ) (some : 0 < z) where
  -- each count of the view, past the end too
  pub count_is : (blocks : List (CountBlock P W)) (k : ℕ) → get_or (block_counts z blocks).items k 0 ≡ plane_count z blocks k
  count_is blocks k = grind (arith, view_is, get_or_past, le-div)

  pub counts_long : (blocks : List (CountBlock P W)) → length (block_counts z blocks).items ≡ length blocks * z
  counts_long blocks = length-map-range_with_len (plane_count z blocks) 0 (length blocks * z)

  -- count t of block h
  pub count_in : (blocks : List (CountBlock P W)) (h t : ℕ) → t < z
      → get_or (block_counts z blocks).items (h * z + t) 0 ≡ count_of (get_or blocks h no_block) t
  count_in blocks h t below = grind (arith, count_is, div-mul-add, mod-mul-add)

  -- a block is written
  pub written_counts : (blocks : List (CountBlock P W)) (i : ℕ) (block : CountBlock P W) → i < length blocks
      → (t : ℕ) → t < z → get_or (block_counts z (set blocks i block)).items (i * z + t) 0 ≡ count_of block t
  written_counts blocks i block within t below =
      count_in (set blocks i block) i t below ∙ ap (λ g. count_of g t) (get_or-set_same blocks i block no_block within)

  pub kept_counts : (blocks : List (CountBlock P W)) (i : ℕ) (block : CountBlock P W) (h : ℕ) → h ≢ i
      → (t : ℕ) → t < z → get_or (block_counts z (set blocks i block)).items (h * z + t) 0
      ≡ get_or (block_counts z blocks).items (h * z + t) 0
  kept_counts blocks i block h apart t below = grind (arith, count_in, get_or-set_other)

  -- what a block's counts have lost
  pub lowered_counts : (blocks : List (CountBlock P W)) (i : ℕ) (block : CountBlock P W) (B : ℕ → Bool) → i < length blocks
      → ((t : ℕ) → t < z → count_of block t + (if B t then 1 else 0) ≡ count_of (get_or blocks i no_block) t)
      → (h t : ℕ) → t < z
      → get_or (block_counts z (set blocks i block)).items (h * z + t) 0 + (if (i == h) && B t then 1 else 0)
      ≡ get_or (block_counts z blocks).items (h * z + t) 0
  lowered_counts blocks i block B within falls h t below =
      grind (arith, nat_tests, cases_eq, eq-eqb, written_counts, count_in, ne_eqb, kept_counts)

-- planes take little memory
pub planes_fit : (P W : ℕ) → P ≤ 7 → W ≤ 6 → P * (W * 8) ≤ 336
planes_fit P W thin words = grind (arith, mul-le-mul)

-- if the view has a block, there is one; and what is read there
pub counts_within : {P W z : ℕ} {mask : List ℕ} {blocks : List (CountBlock P W)} {v : BlockCounts}
    → ArePlanes P W z mask blocks → block_counts z blocks ≡ v
    → (i : ℕ) → (i + 1) * v.lanes ≤ length v.items → i < length blocks
counts_within {P} {W} {z} {mask} {blocks} {v} are e i fits = grind (arith, block_below, counts_long)

pub counts_read : {P W z : ℕ} {mask : List ℕ} {blocks : List (CountBlock P W)} {v : BlockCounts} → ArePlanes P W z mask blocks
    → block_counts z blocks ≡ v
    → (i : ℕ) → (i + 1) * v.lanes ≤ length v.items → {block : CountBlock P W} → block ≡ get_or blocks i block
    → block ≡ get_or blocks i no_block
counts_read {P} {W} {z} {mask} {blocks} {v} are e i fits {block} read =
    get_or_read blocks i block (counts_within are e i fits) read no_block

-- The first n blocks are made, and no others. Each block has its number at all its counts.
pub record AreAlike {P W : ℕ} (blocks : List (CountBlock P W)) (counts : List ℕ) (n : ℕ) : Type 0 where
  pub counted : (k t : ℕ) → k < n → t < 64 * W → count_of (get_or blocks k no_block) t ≡ get_or counts k 0
  pub long : length blocks ≡ n

-- one more block
pub alike_more : {P W : ℕ} (next blocks : List (CountBlock P W)) (counts : List ℕ) (n : ℕ) (block : CountBlock P W)
    → AreAlike blocks counts n → next ≡ blocks ++ block ∷ []
    → ((t : ℕ) → t < 64 * W → count_of block t ≡ get_or counts n 0) → AreAlike next counts (n + 1)
alike_more next blocks counts n block made pushed are = record {
  counted = λ k t below short. elim (cases_eq k n) [
    | inl e ↦ rw (pushed, e, ← made.long, get_or-append_seam blocks block [] no_block, made.long) (are t short)
    | inr apart ↦ rw (pushed, get_or-append blocks (block ∷ []) no_block k (omega (arith, made.long, below, apart)))
        (made.counted k t (omega (arith, below, apart)) short)
  ];
  long = ap length pushed ∙ length-append blocks (block ∷ []) ∙ omega (arith, made.long);
}

-- every block is made
pub alike_all : {P W : ℕ} (z : ℕ) (blocks : List (CountBlock P W)) (counts : List ℕ) → 0 < z → z ≤ 64 * W
    → AreAlike blocks counts (length counts)
    → (k t : ℕ) → t < z → get_or (block_counts z blocks).items (k * z + t) 0 ≡ get_or counts k 0
alike_all z blocks counts some short made k t below = grind (arith, cases_lt, count_in, made.counted k t, made.long, get_or_past)
