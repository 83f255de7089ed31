-- The tokens of each syntax lead through.
pub mod Ahead
pub mod ExpressionsRead
pub mod Operands
pub mod PhrasesRead
pub mod SourcesRead
pub mod StatementsRead
