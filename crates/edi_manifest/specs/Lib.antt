pub mod LineReading
pub mod ManifestText
pub mod Laws
pub mod inner
