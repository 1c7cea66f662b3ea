mod Common
mod BlockLineFacts
pub mod RoundFacts
mod ColumnNameFacts
mod DigitLaneFacts
mod FurthestFacts
mod MarkRangeFacts
mod PlaceItemFacts
pub mod RefusalFacts
mod ScheduleFacts
mod SettingsFacts
