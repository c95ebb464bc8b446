pub mod Goes
pub mod Looked
pub mod Way
pub mod Opened
