pub mod Props
pub mod Group
