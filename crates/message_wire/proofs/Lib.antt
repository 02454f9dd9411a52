pub mod FrameLaws
pub mod FramedLaws
pub mod RegionLaws
