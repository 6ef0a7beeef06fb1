pub mod Graph
pub mod Visit
pub mod Cells
pub mod Fuel
pub mod Marks
