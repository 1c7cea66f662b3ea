mod Common
pub mod DrawnWordFacts
pub mod MarkWordFacts
pub mod SideFacts
