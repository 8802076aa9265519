pub mod EachLine
