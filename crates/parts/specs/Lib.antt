pub mod Decompose
pub mod Plain
pub mod Remainder
