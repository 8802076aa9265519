mod WholeLemmas
mod KeptLemmas
mod AgainLemmas
mod TextLemmas
mod Builds
mod Stores
mod Only
