pub mod Reading
pub mod Direct
pub mod Relay
pub mod Programs
pub mod Placed
pub mod Laws
pub mod Examples
pub mod HopPlaces
