pub mod Slashes
pub mod Credentials
