pub mod KeptLemmas
pub mod FreshLemmas
pub mod PutLemmas
