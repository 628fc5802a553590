pub mod FaultDisk
pub mod PlannedDisk
pub mod StopDisk
