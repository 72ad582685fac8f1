pub mod CertificateNames
pub mod Outputs
pub mod Report
pub mod Running
pub mod Statuses
pub mod Told
pub mod OnePage
