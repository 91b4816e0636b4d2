pub mod Tallies
pub mod Rooms
pub mod Places
