pub mod Set
pub mod Values
pub mod Packed
pub mod Laws
pub mod Stored
