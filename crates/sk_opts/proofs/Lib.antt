mod Computed
pub mod Numbers
pub mod Lists
pub mod LastValues
pub mod PragmaWords
pub mod InRange
pub mod LineLaws
pub mod ClapRules
pub mod ClapRows
pub mod ClapWords
pub mod ClapWalk
pub mod ClapLaw
pub mod ClapValues
pub mod ClapReading
pub mod SameLines
pub mod ClapAnswers
