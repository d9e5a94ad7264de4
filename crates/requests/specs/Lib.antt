pub mod RequestCapacity
