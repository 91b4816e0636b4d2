pub mod Front
pub mod Thinned
