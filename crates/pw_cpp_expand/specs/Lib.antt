pub mod AtHand
pub mod Calls
pub mod Expansion
pub mod Lookahead
pub mod Numbered
pub mod Places
pub mod Left
