-- What tables of names are, and what it is for them to fit a design.
pub mod Framed
pub mod Laid
pub mod Over
