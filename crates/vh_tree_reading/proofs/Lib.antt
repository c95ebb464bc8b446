-- Tokens are read exactly, then what tokens spell, each part after those that it is made of.
pub mod ScanRuns
pub mod ScanSound
pub mod ScanComplete
pub mod ReadExact
pub mod ReadExprs
pub mod ReadStmts
pub mod ReadVars
pub mod ReadItems
pub mod ReadWhole
-- On the static rules.
pub mod FirstBroken
