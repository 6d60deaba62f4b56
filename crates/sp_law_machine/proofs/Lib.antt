pub mod keeps_lemmas
pub mod continues_lemmas
pub mod ends_lemmas
