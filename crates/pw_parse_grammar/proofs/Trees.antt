pub mod Lengths
pub mod Spreads
pub mod Base
pub mod Follow
pub mod Heads
pub mod StatementHeads
