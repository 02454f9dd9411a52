pub mod Placement
