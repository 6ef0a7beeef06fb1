pub mod Tread
pub mod Walk
pub mod Meaning
pub mod Trodden
pub mod Longest
