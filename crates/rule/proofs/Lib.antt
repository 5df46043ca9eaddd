-- Laws by what they show, in a reader's order; Main has the headline statements, Laws what other crates may cite.
-- Tokens: runs of bytes, words, marks, names and numbers, the tokens of a text.
mod TokenSpans
mod TokenFractions
mod TokenWords
mod TokenMarks
mod TokenNext
mod TokenCodes
mod TokenDecimals
mod TokenLists
mod TokenRuns
mod TokenMatches
mod TokenModes
mod TokenClause
mod TokenExamples
-- The grammar: what reading a tree does, derivations, and the machine that takes exactly what trees spell.
mod GrammarWalk
mod GrammarDerivations
mod GrammarMachine
mod GrammarTrees
mod GrammarRules
mod GrammarKeeps
mod GrammarMeasures
-- Spelling: one tree to a text; names and numbers by letters and by the codes that the reader compares.
mod SpellLists
mod SpellTokens
mod SpellCodes
mod SpellNames
mod SpellNumbers
mod SpellDecimals
mod SpellMeaning
mod SpellTurn
mod SpellTrees
mod SpellSame
-- The reader: its registers, tables and buffer, readers of parts, and how a text's reading ends.
mod ReaderRegisters
mod ReaderRefusals
mod ReaderFrames
mod ReaderBuffer
mod ReaderAnswer
mod ReaderParts
mod ReaderTables
mod ReaderMarks
mod ReaderEnd
mod ReaderConclusion
-- Frames and trees: kinds, stacks, the passes of 9, 10 and 8, frames as a tree and back, what a tree's frames are.
mod FrameKinds
mod FrameChunks
mod KindEffects
mod FramePowers
mod FrameOrder
mod FrameMagnitudes
mod FrameStacks
mod FrameLength
mod FrameLists
mod FrameParsing
mod FrameRules
mod FramePlaces
mod FrameHeads
mod FrameBytePlaces
mod FrameReferences
mod FrameSizes
mod FrameFacts
mod FrameDrafts
mod FrameMeanings
mod FrameLimits
mod FrameFilling
mod FrameTrees
mod FrameExamples
-- Answers of the check of frames, and of reading.
mod ToldAnswers
mod CheckNumbers
mod CheckAnswers
mod CheckExactly
mod ReadText
mod ReadChecks
mod ReadFrames
mod ReadAnswers
mod ReadExactly
mod ReadPlaces
mod ReadExamples
-- What other crates cite, and the headline statements.
pub mod Laws
pub mod Main
