pub mod CheckLaws
pub mod AdmissionLaws
