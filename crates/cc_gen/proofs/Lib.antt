pub mod DrawLaws
pub mod TextLaws
