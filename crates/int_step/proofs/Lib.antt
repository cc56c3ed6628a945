pub mod Wrapped
pub mod Residues
pub mod Quotients
pub mod HighHalves
pub mod Sizes
pub mod Products
pub mod Divisions
pub mod Shifts
