pub mod Moves
pub mod Columns
pub mod Stack
pub mod Exact
pub mod Examples
