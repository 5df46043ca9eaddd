-- What proofs of crates above may use of this crate beside Main. Assumes nothing.

-- kinds by their bytes
pub use Rattle.rule.proofs.FrameKinds.{kind_at, byte-kind, arithmetic-at, relation-at, connective-at}
pub use Rattle.rule.proofs.FrameKinds.{none_00, none_04, none_15, none_27, none_35}
-- how many sums and conditions the first frames leave
pub use Rattle.rule.proofs.FrameOrder.{Live, live, sums_of, conds_of, sums_le, conds_le, one_left}
-- the frame at a place, and how many magnitudes stand there
pub use Rattle.rule.proofs.FrameStacks.{found, sizes-length, few-decimals}
-- powers of ten past the limit
pub use Rattle.rule.proofs.FramePowers.{ten-over}
-- magnitudes within the limit
pub use Rattle.rule.proofs.FrameMagnitudes.{BoundedIn, sizes_in, fits-at}
-- a literal's value, and a rule's frames
pub use Rattle.rule.proofs.FrameParsing.{literal-value}
-- the head, and the body behind it
pub use Rattle.rule.proofs.FrameHeads.{rule-frames, rule-scale, rule-head, rule-body, body_bytes, body-length, body-whole, tree-body, head_few, decimals-few, body-part}
pub use Rattle.rule.proofs.FrameFacts.{frame-behind}
pub use Rattle.rule.proofs.FrameRules.{IsBody, rule-fine, frames-are}
-- a pass over references is one over the tree's
pub use Rattle.rule.proofs.FrameReferences.{over_references, over-references, rule-length}
-- what accepted frames hold
pub use Rattle.rule.proofs.FrameFacts.{Passed, passed, reference-at, literal-at, AllWithin, references-within}
-- bytes, one by one
pub use Rattle.rule.proofs.FrameLists.{bytes-by, bytes-length}
-- accepted frames are a rule's
pub use Rattle.rule.proofs.CheckExactly.{proper-rule}
-- document 01's first rule, and rules without a scale
pub use Rattle.rule.proofs.FrameExamples.{latency, unscaled}
-- its text, and a text's bytes
pub use Rattle.rule.proofs.ReadExamples.{latency_text, bytes}
