pub mod Texts
pub mod Ends
pub mod Commands
pub mod Answers
pub mod BlkAnswers
pub mod PlanAnswers
pub mod Complete
