pub mod RequestLaws
pub mod AmountTests
