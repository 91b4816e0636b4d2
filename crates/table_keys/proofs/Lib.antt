pub mod ByRules
