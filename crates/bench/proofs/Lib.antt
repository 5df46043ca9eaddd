-- Lines of digits, a line that a chunk cuts, one step, chunks.
pub mod HexLaws
pub mod CutLaws
pub mod RunLaws
pub mod ChunkLaws
-- The whole run, and that pulling ends with waiting.
pub mod Whole
pub mod Waiting
-- What it prints, computed.
mod OutputExamples
-- The headline statements.
pub mod Headlines
