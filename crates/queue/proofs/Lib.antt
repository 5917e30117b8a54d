-- Heaps, and what they hold.
pub mod Heaps
pub mod Held
