-- Told tasks serve as well as the tasks themselves.
pub mod Runs
