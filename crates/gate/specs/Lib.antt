pub mod Told
pub mod Gadget
pub mod Sampler
pub mod Judge
