pub mod Covered
pub mod Marks
pub mod Read
pub mod Apart
