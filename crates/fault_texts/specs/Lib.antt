pub mod CommonFault
pub mod FaultTable
pub mod FaultText
