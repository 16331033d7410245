pub mod Edits
pub mod Results
pub mod Records
pub mod Stages
pub mod Rewriting
pub mod Removing
