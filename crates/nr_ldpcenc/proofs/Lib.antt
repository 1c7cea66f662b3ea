mod Common
pub mod RowSumFacts
mod CoreRowFacts
mod SolvedColumnFacts
mod InformationWordFacts
mod WordSearchFacts
pub mod CodewordFacts
mod EntrySumFacts
mod PutColumnFacts
mod WrittenBitFacts
mod DoubledSumFacts
mod MetRowFacts
