pub mod JsonLine
pub mod Lists
pub mod Sizes
pub mod TabLine
