mod Each
mod Laid
mod Framed
mod Hooked
mod Counted
mod Assembled
