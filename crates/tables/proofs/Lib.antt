pub mod Shown
pub mod Parts
pub mod Chain
pub mod Opened
