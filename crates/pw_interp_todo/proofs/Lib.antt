pub mod ActLaws
pub mod LeadLaws
pub mod Firsts
pub mod Splits
pub mod Resumes
