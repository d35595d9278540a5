pub mod Outcomes
pub mod RunLaws
pub mod DrawnLaws
pub mod PlanLaws
pub mod MarksLaws
pub mod AnewLaws
