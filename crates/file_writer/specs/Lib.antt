pub mod Writing
pub mod NumbersLaws
pub mod WroteLaws
pub mod RoundTrip
pub mod WritesBack
pub mod ReadsBack
pub mod Laws
