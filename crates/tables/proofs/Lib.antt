pub mod Lists
pub mod Opened
pub mod Made
pub mod Loops
pub mod Origins
pub mod Wholes
pub mod ByHand
