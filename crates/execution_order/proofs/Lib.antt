pub mod Untouched
pub mod Sorting
pub mod Sorted
pub mod Appended
