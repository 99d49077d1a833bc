-- What the program's functions ask and give.
-- Assumes nothing.
pub mod Lists
