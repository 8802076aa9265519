mod Besides
mod Looking
mod Takers
mod Giving
mod Masking
mod Defining
mod Knowledge
