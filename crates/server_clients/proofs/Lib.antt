mod GivenBack
pub mod Held
