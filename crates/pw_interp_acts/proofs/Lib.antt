pub mod NodeLaws
mod CallLaws
