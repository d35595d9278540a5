pub mod OpeningLaws
