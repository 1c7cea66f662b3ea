mod CodeBlockLemmas
pub mod PlanLemmas
mod SizeSearchFacts
