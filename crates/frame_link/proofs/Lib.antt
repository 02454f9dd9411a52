pub mod LinkLaws
pub mod RegionLaws
pub mod TurnLaws
