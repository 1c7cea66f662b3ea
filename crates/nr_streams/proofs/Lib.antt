mod Common
pub mod FailureFacts
mod FeedFacts
mod FieldFacts
mod RecordFacts
pub mod WrittenFacts
