pub mod ZLaws
