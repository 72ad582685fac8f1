pub mod FedCertificates
pub mod Runs
pub mod ToldFiles
mod OnePage
