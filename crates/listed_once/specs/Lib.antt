pub mod Marking
pub mod Listing
