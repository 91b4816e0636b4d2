pub mod Marking
pub mod Steps
pub mod Settling
pub mod Reading
pub mod Thinning
pub mod Progress
