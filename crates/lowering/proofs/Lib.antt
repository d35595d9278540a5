pub mod LessLaws
