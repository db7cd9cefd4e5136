pub mod State
pub mod Operations
pub mod Publishing
pub mod Calls
pub mod Runs
pub mod Properties
pub mod Order
