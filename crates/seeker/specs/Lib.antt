-- The order in which rows are sought, what a seek settles, what it refuses, and its law.
pub mod Queued
pub mod Sought
pub mod Judged
pub mod Steps
pub mod Refused
pub mod Law
