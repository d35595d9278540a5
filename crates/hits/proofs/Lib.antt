pub mod HitLaws
