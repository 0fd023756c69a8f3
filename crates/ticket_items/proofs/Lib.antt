pub mod Apart
pub mod AtKey
pub mod AttrPlaces
pub mod FirstFault
pub mod KeyPlaces
pub mod Ordered
pub mod Places
pub mod SpawnTexts
