pub mod Commanded
