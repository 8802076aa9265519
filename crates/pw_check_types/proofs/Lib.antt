pub mod TypeLists
pub mod PairLemmas
mod SizeLemmas
