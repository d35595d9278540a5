pub mod ToModulus
pub mod Sampling
pub mod Mask
pub mod Polynomial
pub mod Masks
