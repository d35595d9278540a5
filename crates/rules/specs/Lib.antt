pub mod Psi
pub mod Rule
pub mod ToArithmetic
