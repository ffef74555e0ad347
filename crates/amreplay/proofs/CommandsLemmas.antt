pub mod Talks
pub mod EventsPassed
pub mod Answering
pub mod Silent
