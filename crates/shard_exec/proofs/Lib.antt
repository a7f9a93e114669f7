pub mod StoreRows
pub mod TakingOut
pub mod Slots
pub mod Starving
pub mod UnitLaws
pub mod RowLaws
pub mod DealtLaws
pub mod InRow
pub mod Plans
pub mod LastStamps
mod OneMore
