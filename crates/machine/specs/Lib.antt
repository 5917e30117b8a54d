-- What the machine's parts mean, and what its calls answer.
pub mod Pieces
pub mod Views
pub mod Keys
pub mod Events
pub mod Lines
pub mod Readies
pub mod Leads
pub mod Calls
pub mod Copies
pub mod Opened
