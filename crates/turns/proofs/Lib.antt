mod Going
mod Laws
pub mod Parts
