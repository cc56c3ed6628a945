pub mod Quanta
pub mod Working
pub mod Marks
pub mod Stands
pub mod Boots
pub mod Kernels
