pub mod StatementLaws
