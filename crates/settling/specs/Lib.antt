pub mod Law
pub mod Settled
