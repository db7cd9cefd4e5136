pub mod Members
pub mod Spelled
pub mod Told
