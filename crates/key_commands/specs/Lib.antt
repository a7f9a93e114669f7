pub mod KeyCommand
