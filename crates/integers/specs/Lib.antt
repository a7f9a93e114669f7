pub mod Integer
pub mod IntegerLaws
pub mod Range
pub mod RangeLaws
pub mod Sum
