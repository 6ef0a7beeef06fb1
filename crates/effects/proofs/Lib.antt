pub mod Filling
mod Scanning
pub mod Laws
