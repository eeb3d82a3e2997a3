pub mod Claim
pub mod Settle
