mod BuiltLemmas
mod LimitLemmas
