pub mod Joined
pub mod Going
