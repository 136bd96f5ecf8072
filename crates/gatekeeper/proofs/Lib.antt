pub mod Laws
mod Crossing
