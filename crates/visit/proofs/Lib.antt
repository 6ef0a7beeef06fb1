-- What the visit's definition means for the call graph, and what the proofs of several functions use.
pub mod Answers
pub mod Exact
pub mod Chains
pub mod Theorems
pub mod Laws
mod Examples
pub mod Colours
pub mod Steps
pub mod Entries
