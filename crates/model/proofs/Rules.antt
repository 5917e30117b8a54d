-- What rows that break no rule keep, and how their demand is worked out.
pub mod Keeps
pub mod Tables
pub mod Asks
