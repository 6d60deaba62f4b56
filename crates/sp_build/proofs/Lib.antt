pub mod Effects
pub mod Found
pub mod Formed
mod Going
pub mod Held
pub mod OnStack
pub mod RuleParts
pub mod Shapes
pub mod Signatures
pub mod Standing
pub mod Texts
pub mod Told
