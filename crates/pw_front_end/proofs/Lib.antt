pub mod FirstLaws
pub mod LexedLaws
pub mod FrontLaws
pub mod CallLaws
