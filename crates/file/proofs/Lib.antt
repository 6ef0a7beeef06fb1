pub mod RunLaws
pub mod LaidLaws
pub mod ReadLaws
pub mod Examples
pub mod TableLaws
