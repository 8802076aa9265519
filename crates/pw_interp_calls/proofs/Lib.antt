pub mod AnswerLaws
mod FunctionLemmas
