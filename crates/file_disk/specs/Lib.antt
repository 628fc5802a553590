pub mod Descriptor
pub mod GuardedDisk
pub mod Nowhere
