pub mod CedeCapacity
