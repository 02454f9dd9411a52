pub mod Parts
pub mod PlanText
pub mod Plans
pub mod PlanLaws
