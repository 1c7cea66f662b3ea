-- What the slots of a run keep.
use Rattle.std.specs.Prelude.{◌≡◌, ℕ, ◌+◌, ◌*◌, ◌<◌, ◌≤◌, Bool, true, false, List, [], ◌∷◌, Option}
use Rattle.std.specs.Prelude.{Some, IfSome, None, length, take, slice_index_or}
use Rattle.nr_blockdesk.specs.{Explains.Reception, Heard.IsRecordOf, Heard.heard_record, Link.Link, Receiving.verdict}
use Rattle.nr_blockdesk.specs.Outcome.{Verdict, contradiction, delivered, open_still, outcome_of}
use Rattle.nr_blockdesk.specs.Sent.{SenderView}
use Rattle.nr_linkcommands.specs.{RoundTexts.ProcessRound, RoundTexts.process_count, RoundTexts.sender_of, RunLines.unfixed_blocks}
use Rattle.nr_linkcommands.specs.{RunText.receptions_of, RunText.round_ends, RunText.totals_of, declared.run_command.slot.Slot.Slot}
use Rattle.nr_linkcommands.specs.declared.run_command.{slot.RxState.RxState, slot.RxSummary.RxSummary, ends.Totals.Totals}
use Rattle.nr_files.specs.{Rounds.goes_on, Rounds.round_of, declared.schedule.Transmission.Transmission}

-- a state has received this list: its receiver keeps the record, the outcome and the number of receptions
pub record IsRxState (link : Link) (list : List Reception) (state : RxState) : Type 0 where
  pub same_link : state.receiver.link ≡ link
  pub recorded : IsRecordOf link list state.receiver.heard
  pub outcome : verdict state.outcome ≡ outcome_of link list
  pub count : state.count ≡ length list

-- what is kept of this list while more can be received: a state is made only when something is received
abbrev pub HoldsState : Link → List Reception → Option RxState → Type 0
HoldsState link list None = list ≡ []
HoldsState link list (Some state) = IsRxState link list state

-- a state's count is at most this
abbrev pub HasReceived : ℕ → Option RxState → Type 0
HasReceived n None = Unit {0}
HasReceived n (Some state) = state.count ≤ n

-- a state's receiver has this link
abbrev pub IsOver : Link → Option RxState → Type 0
IsOver link None = Unit {0}
IsOver link (Some state) = state.receiver.link ≡ link

-- What is kept of this list after the last reception. It is the outcome, the number of receptions, and how many code
-- blocks have a position that is not fixed.
pub record IsSummary (link : Link) (list : List Reception) (summary : RxSummary) : Type 0 where
  pub outcome : verdict summary.outcome ≡ outcome_of link list
  pub count : summary.count ≡ length list
  pub failed : summary.failed ≡ unfixed_blocks link (heard_record link list)

-- what is kept of this list after the last reception, if anything; if nothing was received, nothing is kept
abbrev pub HoldsSummary : Link → List Reception → Option RxSummary → Type 0
HoldsSummary link list None = list ≡ []
HoldsSummary link list (Some summary) = IsSummary link list summary

-- a slot that is in no round
abbrev pub empty_slot : Slot
empty_slot = record { block = None; state = None; summary = None }

-- A slot has received this list. While later transmissions go on with it, its state has the list, and there is no
-- summary. After the last of them it has no receiver.
abbrev pub HoldsSlot : Bool → Link → List Reception → Slot → Type 0
HoldsSlot true link list slot = (HoldsState link list slot.state) × (slot.summary ≡ None)
HoldsSlot false link list slot = (slot.state ≡ None) × HoldsSummary link list slot.summary

-- a slot has received what a round gave, by the sender of the round's block
abbrev pub HoldsBy : Bool → List Transmission → Slot → SenderView → Type 0
HoldsBy goes_on round slot sender = HoldsSlot goes_on sender.link (receptions_of sender round) slot

-- A slot names the block of its round, which is that of the first transmission, and has received what the round gave. A
-- slot that is in no round is empty. If no processes are named, the slot is of block p + 1.
abbrev pub HoldsRound : Bool → Bool → ℕ → List SenderView → List Transmission → Slot → Type 0
HoldsRound goes_on true p senders [] slot = slot ≡ empty_slot
HoldsRound goes_on true p senders (x ∷ more) slot =
    (slot.block ≡ Some x.block) × IfSome (sender_of senders x.block) (HoldsBy goes_on (x ∷ more) slot)
HoldsRound goes_on false p senders round slot = IfSome (sender_of senders (p + 1)) (HoldsBy goes_on round slot)

-- each slot has received its process's round
abbrev pub HoldRounds : Bool → List SenderView → List Transmission → List Transmission → List Slot → Type 0
HoldRounds by_process senders before later slots = (p : ℕ) → p < length slots
    → HoldsRound (goes_on p later) by_process p senders (round_of p before) (slice_index_or slots p empty_slot)

-- p is a process of a schedule for so many blocks
abbrev pub IsProcess : Bool → ℕ → ℕ → Type 0
IsProcess by_process blocks p = p < process_count by_process blocks

-- a transmission is of the block of the round that it goes on with
abbrev pub IsOfRound : List Transmission → Transmission → Type 0
IsOfRound [] x = Unit {0}
IsOfRound (y ∷ more) x = y.block ≡ x.block

-- this is true of each of these that is not fresh
abbrev pub AreOfRounds : List Transmission → Type 0
AreOfRounds xs = (i : ℕ) (x : Transmission) → i < length xs → x ≡ slice_index_or xs i x → x.fresh ≡ false
    → IsOfRound (round_of x.process (take i xs)) x

-- the totals with one more block, of c code blocks: it is delivered
abbrev pub delivered_counted : Totals → ℕ → Totals
delivered_counted t c =
    record t { blocks = t.blocks + 1; delivered = t.delivered + 1; code_blocks = t.code_blocks + c }

-- it is open, and this many of its code blocks failed
abbrev pub open_counted : Totals → ℕ → ℕ → Totals
open_counted t c failed = record t {
  blocks = t.blocks + 1;
  open_still = t.open_still + 1;
  code_blocks = t.code_blocks + c;
  failed = t.failed + failed;
}

-- no transport block explains what was received
abbrev pub contradiction_counted : Totals → ℕ → Totals
contradiction_counted t c =
    record t { blocks = t.blocks + 1; contradiction = t.contradiction + 1; code_blocks = t.code_blocks + c }

-- the totals with one more block or round by its outcome, if this was received of it
abbrev pub counted_by : Totals → Link → List Reception → Verdict → Totals
counted_by t link list (delivered bits) = delivered_counted t link.plan.c
counted_by t link list open_still = open_counted t link.plan.c (unfixed_blocks link (heard_record link list))
counted_by t link list contradiction = contradiction_counted t link.plan.c

abbrev pub totals_with : Totals → Link → List Reception → Totals
totals_with t link list = counted_by t link list (outcome_of link list)

-- no total of n blocks or rounds is greater: each has fewer than 2^32 code blocks
pub record IsWithin (n : ℕ) (t : Totals) : Type 0 where
  pub blocks : t.blocks ≤ n
  pub delivered : t.delivered ≤ n
  pub open_still : t.open_still ≤ n
  pub contradiction : t.contradiction ≤ n
  pub code_blocks : t.code_blocks ≤ n * 4294967296
  pub failed : t.failed ≤ n * 4294967296

-- A run's slots between these transmissions and the later ones, and its totals of the rounds that ended.
pub record KeepsRounds (by_process : Bool) (senders : List SenderView) (before later : List Transmission)
    (ended : List ProcessRound)
    (slots : List Slot) (totals : Totals) : Type 0 where
  pub sized : length slots ≡ process_count by_process (length senders)
  pub held : HoldRounds by_process senders before later slots
  pub counted : totals ≡ totals_of (round_ends by_process senders ended)
  pub within : IsWithin (length ended) totals
