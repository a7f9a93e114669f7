pub mod Solo
pub mod Connection
