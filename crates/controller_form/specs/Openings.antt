pub mod ShopForm
pub mod OpeningForm
