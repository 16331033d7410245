pub mod SortingRecords
pub mod Sorting
pub mod SortingAnswers
pub mod ComponentsAnswers
pub mod ClosureAnswers
pub mod ComponentsRecords
pub mod Components
