pub mod SiteLists
pub mod FromLaws
