pub mod EachTwoLaws
pub mod WebLaws
pub mod SeenLaws
pub mod DatabaseLaws
pub mod DatabaseFaults
pub mod WritingLemmas
