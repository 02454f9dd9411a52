pub mod Rows
pub mod Centres
pub mod Providers
pub mod FirstCentres
pub mod NearSets
