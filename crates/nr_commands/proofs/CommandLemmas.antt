-- What commands return, step by step.
use Rattle.nr_commands.proofs.Common.{arith, ◌≡◌, ◌≢◌, ℕ, inl, inr, Result, Ok, Err, IsOkAnd, IsErr, List, sym, refl}
use Rattle.nr_commands.proofs.Common.{subst, Option, ◌<◌, ◌++◌, [], false, ap, length, Writes, RunFault, Memory, Write}
use Rattle.nr_commands.proofs.Common.{codes, decimal, Graph, check_said, graph_lines, table_lines, lines_from}
use Rattle.nr_commands.specs.{Command.Delivers, Command.IsBlockFault, CheckLines.graph_line, CutText.cut_said}
use Rattle.nr_commands.proofs.WrittenLemmas.{writes_refused, some_at_end}
use Rattle.nr_commands.specs.Faults.{table_refusal, blocks_refusal}
use Rattle.std.proofs.Common.{◌⊎◌, true, IsErrOf}
use Rattle.nr_refusal.specs.Refusal.{FailsAs}
use Rattle.nr_graphpick.specs.Graph.{digits_of}
use Rattle.nr_shifttable.specs.Accepted.{Entries, entries_in, has_graph, table_said}
use Rattle.nr_shifttable.specs.declared.fault.TableFault.{TableFault}
use Rattle.nr_files.specs.{Blocks.blocks_said, declared.blocks.BlocksFault.BlocksFault}
use Rattle.nr_shifttable.specs.declared.fault.TableFault.TheVariants as table_fault
use Rattle.nr_files.specs.declared.blocks.BlocksFault.TheVariants as blocks_fault

-- what a call that writes leaves in its Sink, for an input that is not refused
pub delivers-writes : {X : Type 0} (old new : Option (List ℕ)) (r : Result X RunFault) (said : Result (List ℕ) RunFault)
    → IsOkAnd said (λ text. Writes old new r text) → Delivers old new r said
delivers-writes old new (Ok x) (Ok text) left = left
delivers-writes old new (Err Write) (Ok text) left = left
delivers-writes old new (Err Memory) (Ok text) left = inr left
delivers-writes old new (Err e) (Ok text) left = absurd left
delivers-writes old new r (Err e) left = absurd left

pub writes_said : {X : Type 0} (old new : Option (List ℕ)) (r : Result X RunFault) (text : List ℕ)
    (said : Result (List ℕ) RunFault) → said ≡ Ok text → Writes old new r text
    → IsOkAnd said (λ text. Writes old new r text)
writes_said old new r text said is left = rw is left

-- a refusal before the first put
delivers-err : (X : Type 0) (old : Option (List ℕ)) (e : RunFault) (said : Result (List ℕ) RunFault) → e ≢ Write
    → (e ≡ Memory) ⊎ (said ≡ Err e) → Delivers {X = X} old old (Err e) said
delivers-err X old Write said unput given = absurd (unput refl)
delivers-err X old Memory said unput given = inl refl
delivers-err X old e said unput (inl is) = absurd (cc)
delivers-err X old e said unput (inr is) = (is, refl)

pub delivers-refused : {X : Type 0} (old : Option (List ℕ)) (r : Result X RunFault) (exit e : RunFault)
    (said : Result (List ℕ) RunFault) → r ≡ Err exit → exit ≡ e → e ≢ Write → (e ≡ Memory) ⊎ (said ≡ Err e)
    → Delivers old old r said
delivers-refused {X} old r exit e said is same unput given = grind (arith, delivers-err)

-- a fault of a transport block is none of the other faults
pub of_block-other : (e told : RunFault) → IsBlockFault e → (IsBlockFault told → ⊥) → e ≢ told
of_block-other e told is other same = other (subst IsBlockFault same is)

-- a call that writes has no faults but Write and Memory
pub writes-told : {X : Type 0} (old new : Option (List ℕ)) (r : Result X RunFault) (said : Result (List ℕ) RunFault)
    (told : RunFault) (before after : ℕ) → IsOkAnd said (λ text. Writes old new r text) → told ≢ Write → told ≢ Memory
    → after ≡ before → FailsAs told r before after
writes-told old new (Ok x) said told before after left no_write no_memory same = same
writes-told old new (Err Write) said told before after left no_write no_memory same = inr ((λ is. no_write (sym is)), same)
writes-told old new (Err Memory) said told before after left no_write no_memory same = inr ((λ is. no_memory (sym is)), same)
writes-told old new (Err e) (Ok text) told before after left no_write no_memory same = absurd left
writes-told old new (Err e) (Err f) told before after left no_write no_memory same = absurd left

pub said_refused : {X : Type 0} (old new : Option (List ℕ)) (r : Result X RunFault) (said : Result (List ℕ) RunFault)
    → IsOkAnd said (λ text. Writes old new r text) → IsErr r → r ≢ Err Write → r ≢ Err Memory → new ≡ old
said_refused old new r (Ok text) left refused no_write no_memory = writes_refused old new r text left refused no_write no_memory
said_refused old new r (Err e) left refused no_write no_memory = absurd left

-- ---- `check`

-- a fault of the file is the command's; the source did not fail
pub given-table-refused : {X : Type 0} (r : Result X TableFault) (text : List ℕ) (e : TableFault)
    → (IsErrOf r table_fault.Read → ⊥)
    → IsErrOf r table_fault.Read ⊎ ((e ≡ table_fault.Memory) ⊎ (table_said text ≡ Err e))
    → (table_refusal e ≡ Memory) ⊎ (check_said text ≡ Err (table_refusal e))
unfolding check_said
given-table-refused r text e sound (inl read) = absurd (sound read)
given-table-refused r text e sound (inr (inl is)) = inl (ap table_refusal is)
given-table-refused r text table_fault.Memory sound (inr (inr is)) = inl refl
given-table-refused r text e sound (inr (inr is)) = inr (rw is refl)

-- a table of a source that did not fail is what the file says
pub given-table-read : {X : Type 0} (r : Result X TableFault) (text : List ℕ) (table : Entries)
    → (IsErrOf r table_fault.Read → ⊥) → IsErrOf r table_fault.Read ⊎ (table_said text ≡ Ok table)
    → check_said text ≡ Ok (table_lines table)
unfolding check_said
given-table-read r text table sound (inl read) = absurd (sound read)
given-table-read r text table sound (inr is) = rw is refl

-- a fault of the table file tells of no failed put; it tells of a failed pull if it is Read
pub table_refusal-put : (e : TableFault) → table_refusal e ≢ Write
table_refusal-put table_fault.Memory is = cc
table_refusal-put e is = cc

-- if the table has a base graph, its lines are one line; otherwise it has none
pub graph_lines-line : (table : Entries) (graph : Graph) → has_graph graph table ≡ true
    → graph_lines table graph ≡ graph_line table graph
unfolding graph_lines
graph_lines-line table graph is = rw is

pub graph_lines-none : (table : Entries) (graph : Graph) → has_graph graph table ≡ false → graph_lines table graph ≡ []
unfolding graph_lines
graph_lines-none table graph is = rw is

-- a base graph's line is not empty
pub graph_line-some : (table : Entries) (graph : Graph) → 0 < length (graph_line table graph)
unfolding graph_line
graph_line-some table graph =
    some_at_end (codes "graph " ++ digits_of graph ++ codes " entries " ++ decimal (length (entries_in graph table)))

-- ---- `cut`

-- a refused blocks file is a refused command
pub given-refused : (rate : ℕ) (text : List ℕ) (e : BlocksFault)
    → (e ≡ blocks_fault.Memory) ⊎ (blocks_said text ≡ Err e)
    → (blocks_refusal e ≡ Memory) ⊎ (cut_said rate text ≡ Err (blocks_refusal e))
unfolding cut_said
given-refused rate text e (inl is) = inl (ap blocks_refusal is)
given-refused rate text blocks_fault.Memory (inr is) = inl refl
given-refused rate text e (inr is) = inr (rw is refl)

-- the text of blocks that are read
pub cut_said-read : (rate : ℕ) (text : List ℕ) (blocks : List (List ℕ)) → blocks_said text ≡ Ok blocks
    → cut_said rate text ≡ lines_from rate 1 blocks
unfolding cut_said
cut_said-read rate text blocks is = rw is refl

-- a fault of the blocks file tells of no failed put; it tells of a failed pull if it is Read
pub blocks_refusal-put : (e : BlocksFault) → blocks_refusal e ≢ Write
blocks_refusal-put blocks_fault.Memory is = cc
blocks_refusal-put e is = cc
