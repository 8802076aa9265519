mod Counting
mod Sorting
mod Ranking
