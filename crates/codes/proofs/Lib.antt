pub mod Laws
pub mod LookupLaws
