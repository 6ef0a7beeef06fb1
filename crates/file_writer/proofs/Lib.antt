pub mod WriteLaws
pub mod Listed
