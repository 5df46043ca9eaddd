-- What a buyer reads: the lines that are printed, what is kept of a cut line, the program line by line, all that it prints.
pub mod Print
pub mod Kept
pub mod Progress
pub mod Output
-- What contracts of the code are said by: what waits in its buffers.
pub mod Carried
