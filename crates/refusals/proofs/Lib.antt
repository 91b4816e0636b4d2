pub mod Tests
pub mod Distinct
pub mod Well
pub mod Blocks
pub mod Chains
