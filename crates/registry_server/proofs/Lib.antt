pub mod AnswerLaws
pub mod ParameterLaws
