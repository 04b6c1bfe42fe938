pub mod CodeLaws
pub mod RoundLaws
