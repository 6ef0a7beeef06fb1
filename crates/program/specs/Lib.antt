pub mod Program
pub mod Stated
pub mod Refusals
pub mod Seat
pub mod Seen
pub mod Laws
pub mod Taken
