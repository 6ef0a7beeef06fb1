pub mod Seven
pub mod Write
