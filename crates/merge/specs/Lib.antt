pub mod Shape
pub mod Put
pub mod Withdrawal
pub mod PlainPut
pub mod Alike
pub mod InOrder
pub mod Putting
pub mod Laws
