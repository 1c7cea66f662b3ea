-- The reception of what arrives, and what a receiver has received.
use Rattle.nr_blockdesk.specs.{Explains.Reception, Marks.reception_by, Heard.IsRecordOf, Receiving.ReceiverView, Sent.SenderView}
use Rattle.nr_bitvec.specs.declared.marks.Marks.{Marks}
use Rattle.nr_transmission.specs.declared.tx.Tx.{Tx}
use Rattle.std.specs.Prelude.{List, ◌≡◌}

-- the reception of what arrives of a transmission
abbrev pub reception_of : Tx → Marks → Reception
reception_of tx arrival = reception_by tx arrival.heard.items arrival.value.items

-- a receiver of a sender's transport block has received this list
pub record HasHeard (sender : SenderView) (list : List Reception) (receiver : ReceiverView) : Type 0 where
  pub link : receiver.link ≡ sender.link
  pub heard : IsRecordOf sender.link list receiver.heard
