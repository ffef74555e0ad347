pub mod Refusals
pub mod Lines
pub mod Replies
pub mod Talk
pub mod Answer
pub mod Converse
pub mod Laws
