mod Lists
mod Splits
