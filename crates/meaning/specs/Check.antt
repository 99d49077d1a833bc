-- Document 01, "Obligations": the list, when one holds, how one fails, the right answer, and what acceptance promises.
pub mod Obligations
pub mod Faults
pub mod Answer
pub mod Promise
