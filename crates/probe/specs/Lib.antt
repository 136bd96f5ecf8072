pub mod Digests
pub mod Fields
pub mod Kinds
