pub mod Numbers
pub mod Roles
pub mod Values
pub mod Blocks
pub mod Functions
