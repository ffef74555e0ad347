pub mod Positions
pub mod Passed
pub mod Recorded
pub mod Said
pub mod worked
