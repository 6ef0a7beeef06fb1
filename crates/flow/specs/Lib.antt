pub mod Decode
pub mod Walk
pub mod Marked
pub mod Signed
