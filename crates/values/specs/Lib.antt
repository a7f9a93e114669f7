pub mod HashValue
pub mod Items
pub mod ListValue
pub mod SetValue
pub mod Value
