pub mod Facts
pub mod Sets
pub mod Laws
