pub mod PlainEdit
pub mod Part
pub mod PartView
pub mod At
pub mod Laws
