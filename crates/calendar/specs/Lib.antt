pub mod ThermalYears
pub mod Deadlines
pub mod Answers
