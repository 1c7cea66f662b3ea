-- The codeword of a code block (TS 38.212, 5.3.2). It is the one word that begins with the block's bits, has
-- zero fillers and meets every row.
use Rattle.std.specs.Prelude.{◌≡◌, ℕ, ◌-◌, ◌<◌, Bool, true, false, nat_lt, nat_le, ◌&&◌, Ok}
use Rattle.std.specs.Prelude.{List, [], ◌++◌, length, take, find, unwrap_or}
use Rattle.nr_bitvec.specs.Bit.{bit}
use Rattle.nr_bitvec.specs.BitList.{bit_lists}
use Rattle.nr_graphpick.specs.declared.Graph.{Graph}
use Rattle.nr_segment.specs.CodeBlock.{with_fillers}
use Rattle.nr_segment.specs.Plan.{Numbers, plan_of, word_size}
use Rattle.nr_shifttable.specs.Accepted.{Entries, has_graph, IsTable}
use Rattle.nr_ldpcenc.specs.Rows.{Checks, Meets, block_checks, meets_all}

-- a word that begins with these bits and meets every row
pub record IsWordOf (c : Checks) (info word : List Bool) : Type 0 where
  pub long : length word ≡ c.size
  pub begins : take (length info) word ≡ info
  pub meets : Meets c (bit word)

-- the word that begins with these bits and meets every row: of all lists that can follow them, the first with which it
-- does
unfoldable pub word_of : Checks → List Bool → List Bool
word_of c info = info ++ unwrap_or (find (λ rest. meets_all c (bit (info ++ rest))) (bit_lists (c.size - length info))) []

-- exactly one word begins with these K bits and meets every row: `word_of`
pub record HasOneWord (t : Entries) (g : Graph) (p : Numbers) (info : List Bool) : Type 0 where
  pub is_word : IsWordOf (block_checks t g p) info (word_of (block_checks t g p) info)
  pub only : (word : List Bool) → IsWordOf (block_checks t g p) info word → word ≡ word_of (block_checks t g p) info

-- for every accepted table that has the base graph, every plan and every K bits there is exactly one such word
abbrev pub OneCodeword : Type 0
OneCodeword =
    (t : Entries) (g : Graph) (b : ℕ) (p : Numbers) (info : List Bool) → IsTable t → has_graph g t ≡ true
    → plan_of g b ≡ Ok p → length info ≡ p.k → HasOneWord t g p info

-- the codeword of the K' bits of a code block: with their fillers it begins with K bits
unfoldable pub codeword : Entries → Graph → Numbers → List Bool → List Bool
codeword t g p info = word_of (block_checks t g p) (with_fillers p info)

-- a filler's position: from K' on and below K
abbrev pub filler : ℕ → ℕ → ℕ → Bool
filler kdash k q = nat_le kdash q && nat_lt q k

-- a word meets every row, and its fillers are zero
pub record IsPlain (t : Entries) (g : Graph) (p : Numbers) (w : ℕ → Bool) : Type 0 where
  pub meets : Meets (block_checks t g p) w
  pub zero : (q : ℕ) → filler p.kdash p.k q ≡ true → w q ≡ false

-- a plain word that begins with the K' bits of a code block
pub record IsCodeword (t : Entries) (g : Graph) (p : Numbers) (info word : List Bool) : Type 0 where
  pub long : length word ≡ word_size g p
  pub begins : (k : ℕ) → k < p.kdash → bit word k ≡ bit info k
  pub plain : IsPlain t g p (bit word)

-- the codeword of K' bits is such a word, for every accepted table that has the base graph and every plan
abbrev pub CodewordsArePlain : Type 0
CodewordsArePlain =
    (t : Entries) (g : Graph) (b : ℕ) (p : Numbers) (info : List Bool) → IsTable t → has_graph g t ≡ true
    → plan_of g b ≡ Ok p → length info ≡ p.kdash → IsCodeword t g p info (codeword t g p info)
