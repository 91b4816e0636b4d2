pub mod Sums
pub mod Elements
pub mod Blocks
pub mod Walks
