-- The state of a receiver, and what its steps make of it.
use Rattle.std.specs.Prelude.{false, ◌≡◌, ◌≢◌, ◌⊎◌, ℕ, ◌<◌, ◌≤◌, Bool, Result, Ok, Err, IfOk, IsErrOf}
use Rattle.std.specs.Prelude.{IsOk, OnErr, OnOk, List, [], ◌∷◌, ◌++◌, length, map, slice_index_or}
use Rattle.nr_harqbuf.specs.Record.{HeardBits}
use Rattle.nr_segment.specs.Plan.{word_size}
use Rattle.nr_peel.specs.Peeling.{Peeling}
use Rattle.nr_blockdesk.specs.{Explains.Explains, Explains.Reception, Explains.reception_said, Link.IsBlock, Link.Link}
use Rattle.nr_blockdesk.specs.Heard.{IsRecordOf, heard_more, heard_of}
use Rattle.nr_blockdesk.specs.Outcome.{IsDecided, Verdict, contradiction, delivered, open_still, outcome_of}
use Rattle.nr_transmission.specs.declared.fault.DeskFault.{DeskFault}
use Rattle.nr_transmission.specs.declared.fault.DeskFault.TheVariants as fault
use Rattle.nr_blockdesk.specs.declared.{code_block.CodeBlock.CodeBlock, outcome.Outcome.Outcome}
use Rattle.nr_blockdesk.specs.declared.outcome.Outcome.TheVariants as outcome

-- what contracts see of a `Receiver`: the link, and the record and the peeler of each code block
pub record ReceiverView : Type 0 where
  pub link : Link
  pub heard : List HeardBits
  pub peelings : List Peeling

-- the peelers of code blocks
abbrev pub peelers_of : {K : Type 0} → List (CodeBlock K) → List Peeling
peelers_of {K} blocks = map (λ (b : CodeBlock K). b.peeler) blocks

-- a record of each code block, of as many positions as its codeword has
pub record AreStoresFor (link : Link) (records : List HeardBits) : Type 0 where
  pub many : length records ≡ link.plan.c
  pub long : (r : ℕ) → r < link.plan.c → length (heard_of records r).first ≡ word_size link.graph link.plan

-- an outcome, as a verdict
abbrev pub verdict : Outcome → Verdict
verdict (outcome.Delivered block) = delivered block.items
verdict outcome.Open = open_still
verdict outcome.Contradiction = contradiction

-- A call is refused with the specification's fault for its input, unless memory ran out. The first argument is the
-- fault that says so.
abbrev pub RefusesAs : {X Y E : Type 0} → E → Result X E → Result Y E → Type 0
RefusesAs memory (Ok x) said = IsOk said
RefusesAs memory (Err e) said = (e ≡ memory) ⊎ (said ≡ Err e)

-- the peeler of code block r
abbrev pub peeling_of : Link → List Peeling → ℕ → Peeling
peeling_of link peelers r = slice_index_or peelers r (record {
  table = link.table;
  graph = link.graph;
  numbers = link.plan;
  given = [];
  known = [];
  bits = [];
  order = [];
  recorded = false;
  touches = 0;
  operations = 0;
})

-- What `take` of a receiver promises, by what was received and what it returns. It is refused for the first fault of
-- the reception, or if memory runs out, and then nothing changes. Otherwise the record, whatever it was, is that after one
-- more reception. No visit of a peeler is forgotten, and the outcome is what the record decides. If the record was of a
-- list, it is now of the longer list, and the outcome is that of the longer list. A block that is delivered is the only
-- one that explains this list. A list that some block explains gives no contradiction.
pub record Takes (old new : ReceiverView) (x : Reception) (result : Result Outcome DeskFault) : Type 0 where
  pub link : new.link ≡ old.link
  pub refused : RefusesAs fault.Memory result (reception_said old.link x)
  pub judged : IsErrOf result fault.Memory → IsOk (reception_said old.link x)
  pub err : OnErr result (new ≡ old)
  pub kept : OnOk result (new.heard ≡ heard_more old.link old.heard x)
  pub heard : OnOk result ((list : List Reception) → IsRecordOf old.link list old.heard
      → IsRecordOf old.link (list ++ x ∷ []) new.heard)
  pub visits : OnOk result ((r : ℕ) → r < old.link.plan.c
      → (peeling_of old.link old.peelings r).touches ≤ (peeling_of old.link new.peelings r).touches)
  pub decided : IfOk result (λ answer. IsDecided old.link new.heard (verdict answer))
  pub outcome : IfOk result (λ answer. (list : List Reception) → IsRecordOf old.link list old.heard
      → verdict answer ≡ outcome_of old.link (list ++ x ∷ []))
  pub only_one : IfOk result (λ answer. (list : List Reception) (block other : List Bool)
      → IsRecordOf old.link list old.heard → verdict answer ≡ delivered block → IsBlock old.link other
      → Explains old.link (list ++ x ∷ []) other → other ≡ block)
  pub no_contradiction : IfOk result (λ answer. (list : List Reception) (block : List Bool)
      → IsRecordOf old.link list old.heard → IsBlock old.link block
      → Explains old.link (list ++ x ∷ []) block → verdict answer ≢ contradiction)
