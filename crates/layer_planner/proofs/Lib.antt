pub mod Cuts
pub mod FirstPlaces
pub mod Gathering
pub mod PartLaws
pub mod UnitLaws
pub mod Chains
pub mod PartUnits
