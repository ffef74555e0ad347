pub mod Line
pub mod Parts
pub mod Command
pub mod ParsedLine
pub mod Content
