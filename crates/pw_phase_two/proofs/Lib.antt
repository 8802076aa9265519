pub mod Distinct
pub mod ObjectLaws
pub mod FixLaws
pub mod SelectedLaws
pub mod CompiledLaws
pub mod PairLemmas
