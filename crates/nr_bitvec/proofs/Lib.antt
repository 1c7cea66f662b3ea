mod Common
pub mod NumberFacts
pub mod ListFacts
pub mod BitFacts
pub mod BitListFacts
pub mod PlaceFacts
pub mod WordDigitFacts
mod AddedBitFacts
mod GrownWordFacts
pub mod PackedListFacts
pub mod RangeWordFacts
mod OctetReversalFacts
mod PushedWordFacts
mod JoinedWordFacts
mod MergedWordFacts
mod PutWordFacts
pub mod OctetListFacts
mod RoundTrip
mod SameBitsFacts
