pub mod Arriving
pub mod Sources
pub mod CachedSilences
pub mod CaughtUp
