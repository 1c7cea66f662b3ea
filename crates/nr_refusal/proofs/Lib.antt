pub mod ResultFacts
