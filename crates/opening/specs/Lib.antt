pub mod OpenPoint
