pub mod Bookings
pub mod Postings
