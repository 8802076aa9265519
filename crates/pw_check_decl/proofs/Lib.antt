mod BareLemmas
mod DeclLemmas
mod NameLemmas
