pub mod Placing
pub mod Indexing
pub mod Closing
pub mod Sounding
pub mod Turning
