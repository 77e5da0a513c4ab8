pub mod CodeOf
pub mod TaskEntries
pub mod Laws
pub mod WorkedPrograms
pub mod Tables
pub mod WorkedRuns
