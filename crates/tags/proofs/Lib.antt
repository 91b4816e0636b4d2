pub mod Bearing
pub mod Spelling
