-- The proofs, by subject.
pub mod Lined
pub mod Front
pub mod Keys
pub mod Moved
pub mod Tables
pub mod Releases
pub mod Rests
pub mod Model
pub mod Wakes
pub mod Fronts
pub mod Ends
pub mod Steps
pub mod Ticks
pub mod Copying
pub mod Opening
