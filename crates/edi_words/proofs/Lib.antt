pub mod Plain
pub mod Subcommands
