mod Splits
mod ToldLaws
mod Gathering
