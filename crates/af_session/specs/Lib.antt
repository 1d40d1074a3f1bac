pub mod Flows
pub mod Lending
