pub mod Halving
pub mod AtOnce
pub mod Shift
pub mod ToBoolean
pub mod Halvings
pub mod Carries
