-- What a queue holds, and what its calls do.
pub mod Held
