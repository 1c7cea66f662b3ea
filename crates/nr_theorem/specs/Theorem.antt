-- The theorem: what is sent of a transport block, and what a receiver delivers of what arrives, whatever that is.
use Rattle.std.specs.Prelude.{◌≡◌, ◌≢◌, ◌⊎◌, ◌↔◌, ℕ, ◌<◌, Bool, List, length, map, filter}
use Rattle.std.specs.Prelude.{Result, Ok, Err, is_ok}
use Rattle.nr_bitvec.specs.BitList.{BitList}
use Rattle.nr_refusal.specs.Refusal.{◌>>=◌}
use Rattle.nr_ldpcenc.specs.Codeword.{IsCodeword}
use Rattle.nr_shifttable.specs.Accepted.{Entries, IsTable}
use Rattle.nr_blockdesk.specs.Explains.{Explains, Reception, reception_said}
use Rattle.nr_blockdesk.specs.Link.{Link, code_bits_of, link_said, word}
use Rattle.nr_blockdesk.specs.Outcome.{Verdict, contradiction, delivered, open_still}
use Rattle.nr_blockdesk.specs.OutcomeLaws.{AreAllFixed, IsExplainer, IsOneLeft, NoneExplains}
use Rattle.nr_blockdesk.specs.Sent.{sent}
use Rattle.nr_transmission.specs.declared.fault.DeskFault.{DeskFault}
use Rattle.nr_transmission.specs.declared.fault.DeskFault.TheVariants as fault
use Rattle.nr_transmission.specs.declared.settings.Settings.{Settings}

-- the bits that a transmission sends of a transport block, or its first error: G places must have arrived
abbrev pub answer_said : Link → List Bool → Reception → Result (List Bool) DeskFault
answer_said link block x = reception_said link x >>= λ lengths. Ok (sent link x.tx block)

-- the transmissions that are not rejected, each with what arrived of it
abbrev pub accepted : Link → List Reception → List Reception
accepted link list = filter (λ x. is_ok (reception_said link x)) list

-- the bits of an answer, or its error
abbrev pub bits_in : Result BitList DeskFault → Result (List Bool) DeskFault
bits_in (Ok bits) = Ok bits.items
bits_in (Err e) = Err e

-- what contracts see of a `Carried`: the bits that each transmission sends, or its error, and the outcome
pub record CarriedView : Type 0 where
  pub answers : List (Result (List Bool) DeskFault)
  pub verdict : Verdict

-- The theorem, of a transport block that was carried. `list` is any list of transmissions, with what arrived of each.
pub record Theorem (entries : Entries) (settings : Settings) (block : List Bool) (list : List Reception)
    (carried : CarriedView) : Type 0 where
  -- both ends agree on a link, which has the table, and the table is an accepted one
  pub link : Link
  pub agreed : link_said entries settings (length block) ≡ Ok link
  pub table : IsTable link.table
  -- each transmission sends the bits that the clauses make of the block, or it is rejected with its first error
  pub sent : carried.answers ≡ map (answer_said link block) list
  -- the codewords that these bits are taken from begin with the block's code blocks, and meet every parity row
  pub rows : (r : ℕ) → r < link.plan.c
      → IsCodeword link.table link.graph link.plan (code_bits_of link block r) (word link block r)
  -- a block is delivered exactly if the parity rows, applied one unknown at a time, fix every information bit, and the block
  -- explains all that arrived
  pub delivers : (x : List Bool) → (carried.verdict ≡ delivered x)
      ↔ (AreAllFixed link (accepted link list) × IsExplainer link (accepted link list) x)
  -- the outcome is undecided exactly if some information bit is not fixed
  pub opens : (carried.verdict ≡ open_still) ↔ IsOneLeft link (accepted link list)
  -- it is a contradiction exactly if every information bit is fixed, and no block explains all that arrived
  pub contradicts : (carried.verdict ≡ contradiction)
      ↔ (AreAllFixed link (accepted link list) × NoneExplains link (accepted link list))
  -- a delivered block is the only one that explains all that arrived
  pub only : (x y : List Bool) → carried.verdict ≡ delivered x → IsExplainer link (accepted link list) y → y ≡ x
  -- over erasures alone each bit that arrived is the bit sent: then a delivered block is the block sent, and the outcome is no
  -- contradiction
  pub safe : Explains link (accepted link list) block
      → (carried.verdict ≢ contradiction) × ((x : List Bool) → carried.verdict ≡ delivered x → x ≡ block)

-- what the call promises: the theorem, or the first error of the block, unless memory ran out
abbrev pub Promises : Entries → Settings → List Bool → List Reception → Result CarriedView DeskFault → Type 0
Promises entries settings block list (Ok carried) = Theorem entries settings block list carried
Promises entries settings block list (Err e) = (e ≡ fault.Memory) ⊎ (link_said entries settings (length block) ≡ Err e)
