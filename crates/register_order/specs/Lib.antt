pub mod Order
pub mod Agree
pub mod Facts
pub mod Form
pub mod Clauses
pub mod Rows
pub mod Laws
