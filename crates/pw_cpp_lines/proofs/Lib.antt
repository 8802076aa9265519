pub mod ClosingQuotes
pub mod Comments
pub mod Cutting
pub mod OneEnd
pub mod OneLine
pub mod Walks
pub mod GoingOn
