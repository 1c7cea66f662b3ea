mod Common
mod KeptBitFacts
pub mod RecordLaws
pub mod MarkWordFacts
mod MergedWordFacts
mod MergedListFacts
mod MergedRecordFacts
