pub mod Before
pub mod StringCommand
