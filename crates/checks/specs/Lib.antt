pub mod Checks
pub mod Admission
