pub mod Checked
pub mod Played
