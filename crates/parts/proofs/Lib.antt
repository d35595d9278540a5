pub mod DecomposeSteps
pub mod PlainLaws
pub mod DecomposeGives
