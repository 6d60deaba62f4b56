pub mod Words
pub mod Page
pub mod Layouts
pub mod Own
pub mod Canonical
pub mod inside
