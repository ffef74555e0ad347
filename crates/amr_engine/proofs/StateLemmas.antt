pub mod Least
pub mod Timing
pub mod Scheduling
pub mod Rostering
pub mod Placed
pub mod Undoing
pub mod Soundness
