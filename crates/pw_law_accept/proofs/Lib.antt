mod Counts
mod Agreeing
mod Linking
mod Names
mod Modules
mod Programs
mod Given
mod Checked
mod Whole
mod FunctionShapes
mod References
mod ShapeSizes
mod Inside
mod Declared
mod Defined
mod Rules
pub mod Suiting
pub mod Order
pub mod Bodies
mod Right
