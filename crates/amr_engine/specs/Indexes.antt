pub mod LabelValues
pub mod RuleSources
pub mod CachedSilences
