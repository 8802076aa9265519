pub mod FunctionLaws
pub mod ObjectLaws
pub mod WritingLemmas
mod ObjectFaults
