-- The theory of best paths, lowest first: what each file defines is used by those below it.
pub mod Choice
pub mod Chain
pub mod Inner
