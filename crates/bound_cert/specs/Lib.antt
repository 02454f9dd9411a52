pub mod Leaves
pub mod Closing
pub mod Trees
pub mod Text
pub mod Laws
pub mod Sizes
pub mod Reading
