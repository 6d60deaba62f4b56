pub mod Numbered
mod Noted
mod Told
mod Read
