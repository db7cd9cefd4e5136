pub mod Laws
pub mod Consequences
pub mod Reasons
pub mod CountingSets
pub mod SiteSets
pub mod SiteLaws
pub mod CountingLaws
