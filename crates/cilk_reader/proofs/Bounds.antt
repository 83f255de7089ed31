-- What is read is writable, and not too large.
pub mod Closed
pub mod Covering
pub mod Folds
pub mod Passing
pub mod PlainCalls
pub mod PlainExpressions
pub mod PlainItems
pub mod PlainLevels
pub mod PlainSimples
pub mod PlainStatements
pub mod SmallTexts
pub mod SmallTrees
pub mod SpelledTrees
pub mod Tallies
pub mod WritableTrees
