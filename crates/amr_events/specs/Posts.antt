pub mod Ids
pub mod Reasons
pub mod StatedLabels
pub mod Times
