pub mod Accepts
pub mod Plain
pub mod Columns
pub mod Pool
pub mod Usages
pub mod Stated
