mod Loading
mod Answering
pub mod Checking
