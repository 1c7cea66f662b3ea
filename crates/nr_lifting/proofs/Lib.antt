mod Names
mod Imports
mod CountViewFacts
pub mod LaneBitFacts
mod LaneViewFacts
pub mod LaneWordFacts
pub mod SetIndexFacts
mod LaneMoveFacts
mod PlaneCountFacts
mod PlaneLaneFacts
pub mod DoubledLaneFacts
mod DoubledWordFacts
mod DoubledJoinFacts
mod PutWordFacts
mod TwoCopyFacts
mod RotationFacts
