pub mod Sharing
pub mod Refresh
pub mod Closing
pub mod Arrays
