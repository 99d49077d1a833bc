-- The published semantics (000, Definitions 2 and 6; 004, section 2.5 and "SJF scheduler"), beside which the plain machine is shown to stand.
pub mod Order
pub mod Delay
pub mod Left
pub mod Insertion
