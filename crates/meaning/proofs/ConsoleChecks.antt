-- The console checks of document 01 on the definitions themselves, by computation.
pub mod Table
pub mod ModelA
