pub mod CodeBlock
pub mod Plan
