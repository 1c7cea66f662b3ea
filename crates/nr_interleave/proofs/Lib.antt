mod Common
pub mod SeatFacts
mod ExchangedOctetFacts
mod OctetFacts
mod PendingFacts
mod SpreadFacts
mod UnspreadFacts
