-- The proofs, by subject.
pub mod Tries
pub mod Seeks
pub mod Sorting
pub mod Queues
pub mod Fits
pub mod Begins
pub mod Lawful
