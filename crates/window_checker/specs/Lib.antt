-- When a certificate by windows proves its bound, and why one is refused.
pub mod ValidCerts
pub mod Readiness
