-- `Order` has the k-th thing of an update.
pub mod Order
