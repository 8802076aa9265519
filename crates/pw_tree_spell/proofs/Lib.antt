mod Nodes
mod Nested
