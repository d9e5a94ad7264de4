pub mod TurnYear
