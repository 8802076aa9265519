pub mod Places
pub mod NestingLaws
mod ChangeLemmas
mod LinkedLemmas
