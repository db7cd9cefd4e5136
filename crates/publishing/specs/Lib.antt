pub mod Answering
pub mod Next
