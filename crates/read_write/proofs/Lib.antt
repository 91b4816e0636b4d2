pub mod Marks
pub mod PlaceMarks
pub mod RowMarks
pub mod BlockMarks
