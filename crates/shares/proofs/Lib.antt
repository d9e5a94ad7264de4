pub mod ShareLaws
pub mod CanShareLaws
pub mod RefusalLaws
pub mod Cases
pub mod LoopLaws
