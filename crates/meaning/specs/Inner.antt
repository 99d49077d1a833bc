-- Zones as bounds over valuations of the variables: what a zone, a step and a smallest state come to, list by list and table by table.
-- Serves the contracts of inner functions and need not be believed: what those functions come to is fixed by the public ones.
pub mod Words
pub mod Bounds
pub mod Slots
pub mod Tests
pub mod Places
pub mod StepBounds
pub mod Plans
pub mod Sources
pub mod Smallest
