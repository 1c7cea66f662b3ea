mod Common
pub mod RemainderFacts
mod GeneratorFacts
mod NumberBitFacts
mod OctetStepFacts
mod OctetTableFacts
mod RegisterFacts
mod ResidueFacts
mod PolynomialSumFacts
mod FlipFacts
