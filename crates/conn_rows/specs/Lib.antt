pub mod Answers
pub mod Columns
pub mod Rows
pub mod RowLaws
pub mod Lists
