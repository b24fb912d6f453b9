pub mod Stanzas
pub mod Digits
pub mod Commands
pub mod Reading
pub mod Scripts
