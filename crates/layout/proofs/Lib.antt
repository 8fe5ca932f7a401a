-- `Division` has the laws of edges, `Places` those of the tree and of the places, `Layouts` those of row and column layout, `Answer`
-- those of the answer, `Tree` those of any tree of boxes. `Tiling` has the theorem, `Tied` says it of the contract itself, `Examples`
-- layouts worked by hand.
pub mod Division
pub mod Places
pub mod Layouts
pub mod Answer
pub mod Tree
pub mod Tiling
pub mod Tied
pub mod Examples
