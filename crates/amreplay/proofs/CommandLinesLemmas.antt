pub mod Fronts
pub mod Utf8
