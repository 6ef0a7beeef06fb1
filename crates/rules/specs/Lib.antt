pub mod Stops
pub mod Look
pub mod Walk
pub mod Assigned
