mod Common
pub mod LinkFacts
mod WordFacts
mod SenderFacts
pub mod RangeTestFacts
mod ReceivedFacts
mod RecordFacts
mod KeptFacts
mod ClosureDecisionFacts
pub mod OutcomeFacts
mod HearingFacts
mod EncodingFacts
mod ReceptionFacts
mod CandidateFacts
mod CopyFacts
mod MarkFacts
mod SelectedBitFacts
mod TurnFacts
mod MergingFacts
mod ToldFacts
mod SettlingFacts
mod OutcomeExactFacts
mod PlacesFacts
mod CallFacts
mod TakingFacts
mod SliceFacts
