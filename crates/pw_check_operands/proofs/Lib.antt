mod SameLaws
pub mod CastLaws
