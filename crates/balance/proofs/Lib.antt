-- The words of the proofs: `Ahead` by how many pushes to black a dot is ahead at each moment, `Stores` what a store can do as far as the
-- sums see it. No statement that is to be believed uses them.
pub mod Ahead
pub mod Stores
-- What a dot is pushed, frame by frame of a run.
pub mod Excess
-- What the places of a run say of it, line by line.
pub mod Places
-- The sums over any list of moves.
pub mod Moves
