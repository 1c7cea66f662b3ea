-- Bit selection: which bits of a codeword are sent, out of its circular buffer (TS 38.212, 5.4.2.1).
use Rattle.std.specs.Prelude.{◌≡◌, ℕ, ◌+◌, ◌-◌, ◌*◌, ◌/◌, ◌%◌, ◌<◌, ◌≤◌, ◌==◌}
use Rattle.std.specs.Prelude.{false, not, min, if◌then◌else◌, Option, Some, None, Result, Ok, Err, List, [], ◌∷◌}
use Rattle.std.specs.Prelude.{◌&&◌, Bool, nat_le, length, map, filter, slice_index}
use Rattle.std.specs.List.{range_with_len}
use Rattle.nr_bitvec.specs.Bit.{bit}
use Rattle.nr_graphpick.specs.Graph.{cols_of, info_cols_of}
use Rattle.nr_graphpick.specs.declared.Graph.{Graph}
use Rattle.nr_graphpick.specs.declared.Graph.TheVariants.{One, Two}
use Rattle.nr_segment.specs.Plan.{Numbers, plan_of}
use Rattle.nr_ldpcenc.specs.Codeword.{filler}
use Rattle.nr_ratematch.specs.declared.fault.RmFault.{RmFault}
use Rattle.nr_ratematch.specs.declared.fault.RmFault.TheVariants.{NoBuffer}

-- Nref: how many bits a limited buffer keeps of each of c code blocks, for TBS_LBRM and R_LBRM = 2/3
abbrev pub reference_size : ℕ → ℕ → ℕ
reference_size c tbs = (3 * tbs) / (2 * c)

-- Ncb: all N bits, or the first Nref of them in a limited buffer
abbrev pub buffer_size : Numbers → Option ℕ → ℕ
buffer_size p None = p.n
buffer_size p (Some tbs) = min p.n (reference_size p.c tbs)

-- what selection knows of a code block: its base graph, Zc, K', K and Ncb
pub record Circular : Type 0 where
  pub graph : Graph
  pub z : ℕ
  pub kdash : ℕ
  pub k : ℕ
  pub ncb : ℕ

-- the buffer of each code block, for the numbers of its plan
abbrev pub circular_of : Graph → Numbers → Option ℕ → Circular
circular_of graph p lbrm = record { graph = graph; z = p.z; kdash = p.kdash; k = p.k; ncb = buffer_size p lbrm }

-- the buffer, or the fault that a limited one keeps no bit
abbrev pub buffer_said : Graph → Numbers → Option ℕ → Result Circular RmFault
buffer_said graph p None = Ok (circular_of graph p None)
buffer_said graph p (Some tbs) =
    if reference_size p.c tbs == 0 then Err NoBuffer else Ok (circular_of graph p (Some tbs))

-- the buffer of a code block by its own numbers, with its K - K' fillers, or the fault that Ncb is not 1 to N
abbrev pub buffer_by : Graph → ℕ → ℕ → ℕ → Result Circular RmFault
buffer_by graph z fillers ncb =
    if not (nat_le 1 ncb && nat_le ncb ((cols_of graph - 2) * z)) then Err NoBuffer
    else Ok (record { graph = graph; z = z; kdash = info_cols_of graph * z - fillers; k = info_cols_of graph * z; ncb = ncb })

-- what is true of every buffer
pub record IsCircular (b : Circular) : Type 0 where
  pub some : 0 < b.ncb
  pub within : b.ncb ≤ (cols_of b.graph - 2) * b.z
  pub size_some : 0 < b.z
  pub size_most : b.z ≤ 384
  pub unpunctured : 2 * b.z < b.kdash
  pub held : b.kdash ≤ b.k
  pub columns : b.k ≡ info_cols_of b.graph * b.z

-- the numerators of Table 5.4.2.1-2
abbrev pub start_columns : Graph → List ℕ
start_columns One = 0 ∷ 17 ∷ 33 ∷ 56 ∷ []
start_columns Two = 0 ∷ 13 ∷ 25 ∷ 43 ∷ []

-- k0: where redundancy version rv begins, m Ncb / (c Zc) whole columns, c being 66 or 50
unfoldable pub start_of : Circular → ℕ → ℕ
start_of b rv = (slice_index (start_columns b.graph) rv * b.ncb) / ((cols_of b.graph - 2) * b.z) * b.z

-- once round the buffer from k0 on, without the fillers; place n of the buffer, d_n, is position n + 2 Zc of the codeword
unfoldable pub live : Circular → ℕ → List ℕ
live b rv =
    filter (λ n. not (filler b.kdash b.k (n + 2 * b.z))) (map (λ j. (start_of b rv + j) % b.ncb) (range_with_len 0 b.ncb))

-- the position in the codeword of the k-th selected bit, round and round the buffer
unfoldable pub place_of : Circular → ℕ → ℕ → ℕ
place_of b rv k = slice_index (live b rv) (k % length (live b rv)) + 2 * b.z

-- the e bits that are selected from a codeword
unfoldable pub selection_of : Circular → List Bool → ℕ → ℕ → List Bool
selection_of b word rv e = map (λ k. bit word (place_of b rv k)) (range_with_len 0 e)

-- a position that can be sent: it is in the buffer and in the codeword, not punctured and no filler
pub record IsSent (b : Circular) (p : ℕ) : Type 0 where
  pub unpunctured : 2 * b.z ≤ p
  pub buffered : p < b.ncb + 2 * b.z
  pub coded : p < cols_of b.graph * b.z
  pub no_filler : filler b.kdash b.k p ≡ false

-- once round every buffer there is a bit that can be sent, so that selection ends
abbrev pub SelectionEnds : Type 0
SelectionEnds = (b : Circular) (rv : ℕ) → IsCircular b → rv < 4 → 0 < length (live b rv)

-- every position that is selected can be sent
abbrev pub PlacesAreSent : Type 0
PlacesAreSent = (b : Circular) (rv k : ℕ) → IsCircular b → rv < 4 → IsSent b (place_of b rv k)

-- every buffer of a plan is a circular buffer
abbrev pub BuffersAreCircular : Type 0
BuffersAreCircular =
    (graph : Graph) (n : ℕ) (p : Numbers) (lbrm : Option ℕ) (b : Circular) → plan_of graph n ≡ Ok p
    → buffer_said graph p lbrm ≡ Ok b → IsCircular b
