pub mod Results
pub mod Tests
pub mod Access
pub mod Held
pub mod Plans
pub mod Effect
pub mod Laws
pub mod Examples
