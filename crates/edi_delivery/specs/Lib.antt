pub mod NameParts
pub mod Lots
pub mod DeliveryRules
pub mod DeliveryRefusal
pub mod Laws
pub mod Known
pub mod inner
