pub mod FromLawRefineForms
