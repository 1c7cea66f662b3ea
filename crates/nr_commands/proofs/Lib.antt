mod Common
pub mod CommandLemmas
mod HexFacts
pub mod BlockTextFacts
pub mod WrittenLemmas
