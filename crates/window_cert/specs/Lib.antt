-- Certificates by windows, and their bytes.
pub mod Certs
pub mod Bytes
pub mod Readings
pub mod Faults
pub mod Parts
pub mod Headers
