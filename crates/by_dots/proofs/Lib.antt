-- `Regions` has the laws of a region on a picture; `Tied` the theorem that both ways agree.
pub mod Regions
pub mod Tied
