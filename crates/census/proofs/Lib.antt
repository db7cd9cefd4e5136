pub mod Steps
pub mod Listed
