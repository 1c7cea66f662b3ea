-- The outcome of a list of receptions, which a receiver returns.
use Rattle.std.specs.Prelude.{◌≡◌, ℕ, ◌<◌, ◌==◌, ◌||◌, Bool, true, false, not, if◌then◌else◌, List, find}
use Rattle.std.specs.{Prelude.count_by, Prelude.Option, Prelude.Some, Prelude.None, List.list_all, List.range_with_len}
use Rattle.nr_bitvec.specs.{Bit.bit, BitList.bit_lists}
use Rattle.nr_harqbuf.specs.Record.{HeardBits, HasFirsts, first_at, is_heard}
use Rattle.nr_ldpcenc.specs.{Codeword.filler, Rows.block_checks}
use Rattle.nr_peel.specs.Closure.{closure}
use Rattle.nr_blockdesk.specs.{Explains.Reception, Explains.explains, Heard.heard_of, Heard.heard_record}
use Rattle.nr_blockdesk.specs.Link.{IsBlock, Link, word}

-- the positions of a code block that were received, and its fillers
abbrev pub given : Link → HeardBits → ℕ → Bool
given link s p = is_heard (first_at s p) || filler link.plan.kdash link.plan.k p

-- the positions that the parity rows fix from these, one unknown position at a time
abbrev pub is_fixed_at : Link → HeardBits → ℕ → Bool
is_fixed_at link s = closure (block_checks link.table link.graph link.plan) (given link s)

-- how many positions below K' of code block r aren't fixed
abbrev pub left : Link → List HeardBits → ℕ → ℕ
left link records r = count_by (λ p. not (is_fixed_at link (heard_of records r) p)) (range_with_len 0 link.plan.kdash)

-- no position is left in any code block
abbrev pub all_fixed : Link → List HeardBits → Bool
all_fixed link records = list_all (λ r. left link records r == 0) (range_with_len 0 link.plan.c)

-- a transport block's codewords have every first bit of a record, and no position of the record has both bits
abbrev pub ExplainedBy : Link → List HeardBits → List Bool → Type 0
ExplainedBy link records block =
    (r : ℕ) → r < link.plan.c
    → ((heard_of records r).clash ≡ false) × HasFirsts (heard_of records r) (bit (word link block r))

-- what a receiver hands up: a transport block, or that positions are still left, or that no transport block explains
-- all
pub data Verdict : Type 0 where
  delivered : List Bool → Verdict
  open_still : Verdict
  contradiction : Verdict

-- the block that was found, if one was
abbrev pub verdict_on : Option (List Bool) → Verdict
verdict_on (Some block) = delivered block
verdict_on None = contradiction

-- What a record decides, whatever list it is of: open while some code block has a position below K' that isn't fixed.
-- Otherwise it is a transport block that explains the record, or a contradiction if no block does.
abbrev pub IsDecided : Link → List HeardBits → Verdict → Type 0
IsDecided link records open_still = all_fixed link records ≡ false
IsDecided link records (delivered block) =
    (all_fixed link records ≡ true) × (IsBlock link block) × ExplainedBy link records block
IsDecided link records contradiction =
    (all_fixed link records ≡ true) × ((y : List Bool) → IsBlock link y → ExplainedBy link records y → ⊥)

-- The outcome of a list of receptions: open if some code block has a position below K' that isn't fixed. Otherwise it
-- is the transport block that explains all that arrived, or a contradiction if no block does.
unfoldable pub outcome_of : Link → List Reception → Verdict
outcome_of link list =
    if all_fixed link (heard_record link list) then verdict_on (find (explains link list) (bit_lists link.a))
    else open_still
