pub mod Machine
pub mod Safe
pub mod Demand
