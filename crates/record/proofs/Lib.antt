pub mod Moves
pub mod Laid
pub mod Firsts
pub mod Stepwise
pub mod Exactly
pub mod Whole
pub mod Sheeted
pub mod Verdicts
