-- Rate matching of a code block by its own numbers (TS 38.212, 5.4.2), for C.
use Rattle.std.specs.Prelude.{ℕ, ◌-◌, ◌*◌, ◌%◌, ◌==◌, nat_le, nat_lt, Bool, Result, Ok, List, length}
use Rattle.nr_graphpick.specs.Graph.{cols_of, info_cols_of}
use Rattle.nr_refusal.specs.Refusal.{◌>>=◌, or_fault, with_fault}
use Rattle.nr_ratematch.specs.Lengths.{is_order}
use Rattle.nr_ratematch.specs.Selection.{Circular, buffer_by, selection_of}
use Rattle.nr_ratematch.specs.declared.fault.RmFault.TheVariants as rate
use Rattle.nr_interleave.specs.Interleaving.{interleaving_of}
use Rattle.nr_blockdesk.specs.Link.{err_unless}
use Rattle.nr_transmission.specs.declared.fault.DeskFault.TheVariants as desk
use Rattle.nr_calls.specs.Encoding.{base_graph, can_lift}
use Rattle.nr_calls.specs.Stages.{full_word, is_told}
use Rattle.nr_calls.specs.declared.fault.Fault.{Fault}
use Rattle.nr_calls.specs.declared.fault.Fault.TheVariants as fault
use Rattle.nr_calls.specs.declared.matching.NrMatch.{NrMatch}

-- the buffer of a code block of these numbers, or the first fault: its fillers leave more than the punctured bits
unfoldable pub matching_buffer : NrMatch → Result Circular Fault
matching_buffer m = do
  graph ← or_fault (fault.Desk desk.Graph) (base_graph m.graph)
  lifting ← err_unless fault.Lifting (can_lift graph m.z)
  block ← err_unless fault.CodeBlock (nat_lt m.fillers ((info_cols_of graph - 2) * m.z))
  with_fault (λ e. fault.Desk (desk.Rm e)) (buffer_by graph m.z m.fillers m.ncb)

-- a redundancy version selects so many bits of d, in symbols of a modulation order, or the first fault
unfoldable pub matching_judged : NrMatch → Circular → List ℕ → ℕ → Result Circular Fault
matching_judged m b d e = do
  version ← err_unless (fault.Desk desk.Rv) (nat_le m.rv 3)
  order ← err_unless (fault.Desk (desk.Rm rate.Order)) (is_order m.qm)
  whole ← err_unless (fault.Desk desk.Length) (length d == (cols_of b.graph - 2) * b.z)
  bits ← err_unless fault.Bit (is_told b d)
  few ← err_unless fault.Many (nat_le e 4194304)
  symbols ← err_unless (fault.Desk (desk.Rm rate.Ragged)) (e % m.qm == 0)
  Ok b

-- the buffer from which a redundancy version selects so many bits of d, or the first fault
unfoldable pub matching_said : NrMatch → List ℕ → ℕ → Result Circular Fault
matching_said m d e = matching_buffer m >>= λ b. matching_judged m b d e

-- f: the e bits that a redundancy version selects from d, in the order in which they are sent, or the first fault
abbrev pub matched_said : NrMatch → List ℕ → ℕ → Result (List Bool) Fault
matched_said m d e =
    matching_said m d e >>= λ b. Ok (interleaving_of m.qm (selection_of b (full_word b.z d) m.rv e))
