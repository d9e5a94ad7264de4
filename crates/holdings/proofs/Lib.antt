pub mod EndLaws
pub mod SumLaws
pub mod GatherLaws
pub mod HeldLaws
