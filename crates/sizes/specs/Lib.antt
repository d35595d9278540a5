pub mod Widening
pub mod Product
pub mod ZeroTest
pub mod Scalars
pub mod Sides
pub mod Verdict
pub mod Plain
pub mod LastScalar
