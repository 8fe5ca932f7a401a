-- `Reading` has the laws of the definitions file of the same name, `Order` and `Tied` the theorems on commands read in order.
pub mod Reading
pub mod Order
pub mod Tied
