pub mod Marking
pub mod Laws
pub mod StartLaws
pub mod Next
pub mod Examples
