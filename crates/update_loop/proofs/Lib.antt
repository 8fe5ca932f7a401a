-- Laws of the definitions in specs/, which the proofs of the functions cite.
pub mod Loop
pub mod Chunks
pub mod Pictures
