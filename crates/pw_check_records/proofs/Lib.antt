pub mod RuleLaws
pub mod PointLemmas
pub mod ClosingLemmas
pub mod NameLemmas
