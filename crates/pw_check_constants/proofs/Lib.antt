mod FrameLemmas
mod MoveLemmas
mod NullLemmas
mod PlaceLemmas
mod SizeLemmas
