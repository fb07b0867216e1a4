pub mod SchemaText
pub mod Known
pub mod Laws
