pub mod Capabilities
pub mod Outcomes
pub mod Strings
pub mod Paths
pub mod Queries
pub mod Hosts
pub mod Options
