pub mod Unflushed
pub mod FirstPage
pub mod RunLines
pub mod Reading
