pub mod Bits
pub mod Found
pub mod Laws
pub mod Taken
