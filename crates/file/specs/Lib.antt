pub mod Numbers
pub mod Tables
pub mod Columns
pub mod Stated
pub mod Measured
pub mod Written
pub mod Transposed
