pub mod Printed
pub mod Settles
pub mod Tables
pub mod Outcomes
