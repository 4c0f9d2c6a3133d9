-- The theory of the k best, lowest first: what each file defines is used by those below it.
pub mod Several
pub mod Inner
