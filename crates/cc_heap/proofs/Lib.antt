pub mod SlotLaws
pub mod PlaceLaws
pub mod NameLaws
pub mod ElementLaws
pub mod LookUpLaws
pub mod ObjectLaws
pub mod ChangeLaws
pub mod OperatorLaws
