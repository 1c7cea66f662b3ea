-- Rounds side by side: bit j of a word is round j's, and number j of a row.
use Rattle.std.specs.Prelude.{◌≡◌, ℕ, ◌<◌, ◌++◌, ◌∷◌, [], ◌==◌, Bool, List, length, map}
use Rattle.std.specs.Prelude.{slice_index, slice_index_or, replicate}
use Rattle.std.specs.List.{flat_map, list_all, range_with_len}
use Rattle.nr_peel.specs.Slices.{slice}
use Rattle.nr_blockdesk.specs.Explains.{Reception}
use Rattle.nr_blockdesk.specs.Heard.{heard_record}
use Rattle.nr_blockdesk.specs.Link.{Link}
use Rattle.nr_blockdesk.specs.Outcome.{all_fixed, left}
use Rattle.nr_blockdesk.specs.Slices.{IsBetween}
use Rattle.nr_ldpcenc.specs.Codeword.{filler}
use Rattle.nr_segment.specs.CodeBlock.{positions_of}
use Rattle.nr_segment.specs.Plan.{word_size}
use Rattle.nr_segment.specs.declared.Plan.{Plan}
use Rattle.nr_transmission.specs.declared.tx.Tx.{Tx}
use Rattle.nr_calls.specs.Findings.{lefts}
use Rattle.nr_calls.specs.Simulating.{delivered_within, erased_counts, erased_in, erased_row, left_row}
use Rattle.nr_calls.specs.inside.Simulating.{drawn_reception}
use Rattle.nr_calls.specs.declared.batch.Batch.{Batch}

-- the numbers of round j in some rows
abbrev pub column : List (List ℕ) → ℕ → List ℕ
column rows j = map (λ row. slice_index row j) rows

-- the words of each code block
abbrev pub words_in : Batch → List (List ℕ)
words_in batch = map (λ words. words.items) batch.known.items

-- each code block has a word for each position
pub record AreWhole (link : Link) (words : List (List ℕ)) : Type 0 where
  pub counted : length words ≡ link.plan.c
  pub long : (r : ℕ) → r < link.plan.c → length (slice_index_or words r []) ≡ word_size link.graph link.plan

-- the words of a code block of which nothing is known but the fillers
pub record AreFillers (plan : Plan) (words : List ℕ) : Type 0 where
  pub long : length words ≡ positions_of plan
  pub each : (j p : ℕ) → j < 64 → slice words j p ≡ filler plan.kdash plan.k p

-- in round j the words have what some receptions gave of each code block, and nothing that they don't fix
abbrev pub AreBetween : Link → List Reception → ℕ → List (List ℕ) → Type 0
AreBetween link list j words = (r : ℕ) → r < link.plan.c → IsBetween link list r (slice (slice_index_or words r []) j)

-- round j, whose block is open, hears a transmission after some receptions, as zeros at the places that are not drawn
pub record Hears (link : Link) (list : List Reception) (x : Tx × List Bool) (j : ℕ) (fixed : Bool) (old new : Batch) : Type 0
  where
    pub between : AreBetween link (list ++ drawn_reception x ∷ []) j (words_in new)
    pub left : column new.left.items j
        ≡ column old.left.items j ++ lefts link (heard_record link (list ++ drawn_reception x ∷ []))
    pub erased : column new.erased.items j ≡ column old.erased.items j ++ erased_counts link x
    pub fixed_is : fixed ≡ all_fixed link (heard_record link (list ++ drawn_reception x ∷ []))

-- nothing is found in round j, whose block was delivered
pub record PassesBy (c j : ℕ) (old new : Batch) : Type 0 where
  pub left : column new.left.items j ≡ column old.left.items j ++ replicate c 0
  pub erased : column new.erased.items j ≡ column old.erased.items j ++ replicate c 0

-- how many positions of a code block are left after one more transmission
abbrev pub left_after : Link → List Reception → Tx × List Bool → ℕ → ℕ
left_after link list x = left link (heard_record link (list ++ drawn_reception x ∷ []))

-- round j has heard the parts of the code blocks below r
pub record HearsBelow (link : Link) (list : List Reception) (x : Tx × List Bool) (j r : ℕ) (fixed : Bool)
    (old new : Batch) : Type 0 where
  pub between : (s : ℕ) → s < r
      → IsBetween link (list ++ drawn_reception x ∷ []) s (slice (slice_index_or (words_in new) s []) j)
  pub left : column new.left.items j ≡ column old.left.items j ++ map (left_after link list x) (range_with_len 0 r)
  pub erased : column new.erased.items j ≡ column old.erased.items j ++ map (erased_in link x) (range_with_len 0 r)
  pub fixed_is : fixed ≡ list_all (λ s. left_after link list x s == 0) (range_with_len 0 r)

-- the result of the first k transmissions of a round: after how many the block was delivered, and the rows so far
pub record HasCome (link : Link) (block : List Bool) (round : List (Tx × List Bool)) (k delivered : ℕ)
    (lefts_before erased_before left erased : List ℕ) : Type 0 where
  pub delivered_is : delivered ≡ delivered_within link block round k
  pub left_is : left ≡ lefts_before ++ flat_map (left_row link block round) (range_with_len 0 k)
  pub erased_is : erased ≡ erased_before ++ flat_map (erased_row link block round) (range_with_len 0 k)
