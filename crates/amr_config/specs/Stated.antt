pub mod Config
pub mod RuleMatches
