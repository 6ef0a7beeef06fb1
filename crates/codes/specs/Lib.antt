pub mod First
pub mod Rows
pub mod Lookup
pub mod Laws
pub mod LookupLaws
