pub mod Numbers
pub mod Form
pub mod Walked
pub mod Conditions
