pub mod Setting
pub mod Times
pub mod Stages
pub mod Why
pub mod Outcomes
