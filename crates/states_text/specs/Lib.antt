pub mod StatesText
pub mod Reading
