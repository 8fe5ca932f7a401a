-- `Panels` and `Upload` have the laws of the definitions files of the same names, `Commands` how header and image are cut, `Order` and `Tied`
-- the theorems on a whole upload, `Worked` what document 003 prints.
pub mod Panels
pub mod Commands
pub mod Upload
pub mod Order
pub mod Tied
pub mod Worked
