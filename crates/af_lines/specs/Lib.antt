pub mod ExchangeUse
pub mod HeldLines
