pub mod Draws
pub mod Plan
pub mod Anew
