pub mod CallLaws
pub mod UnusedLaws
