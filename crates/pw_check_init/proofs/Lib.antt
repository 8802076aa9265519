mod ListLemmas
mod ObjectLemmas
mod ReadingLemmas
