mod Common
pub mod BufferFacts
mod LengthLemmas
mod MaskWordFacts
mod RangeFacts
mod CycleFacts
pub mod RunFacts
