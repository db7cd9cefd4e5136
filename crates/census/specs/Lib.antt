pub mod Outermost
pub mod Surveyed
