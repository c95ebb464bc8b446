-- The canonical tokens, form by form, and the tokens of texts.
pub mod Equations
pub mod Texts
pub mod Names
-- What is spelled at all is spelled by its canonical tokens.
pub mod Again
pub mod AgainExprs
pub mod AgainStmts
pub mod AgainDesign
pub mod AgainWhole
-- What can be spelled is spelled by its canonical tokens, and what is spelled can be.
pub mod Made
pub mod MadeStmts
pub mod MadeDesign
pub mod Fitted
