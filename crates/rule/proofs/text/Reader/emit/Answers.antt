use borrow.Author.Tests.{lt-ltb, le-ltb}
use mathlib.Core.Path.{◌≡◌, refl, ◌∙◌}
use native.Mathlib.Omega.{arith}
use mathlib.Core.List.{List}
use Prim.Native.Nat.{ℕ, ◌+◌, ◌*◌}
use lib.ListN.{length, set, length-set}
use Rattle.rule.specs.Memory.{mem, put}
use Rattle.rule.proofs.ReaderParts.{recalled}
use Rattle.rule.proofs.ReaderTables.{word-put}
use Rattle.rule.proofs.text.Reader.emit.Goals as goal

pub returns-then-n-ge-FRAME_LIMIT : goal.returns-then-n-ge-FRAME_LIMIT
unfolding mem put
returns-then-n-ge-FRAME_LIMIT c = recalled (rw (le-ltb _ _ c.if-n-ge-FRAME_LIMIT.true)) refl refl refl

pub returns : goal.returns
unfolding mem put
returns c =
    let f = c.args.f in
    let p = c.args.self.now.memory.count * 8 in
    let b : List ℕ = set (set (set (set c.args.self.now.frames p f.kind) (p + 1) f.event) (p + 2) f.note) (p + 3) f.factor in
    let long : length b ≡ 512 = simp length-set (omega arith) in
    recalled (rw (lt-ltb _ _ c.if-n-ge-FRAME_LIMIT.false, word-put b p f.word c.copy_from_slice.new.self (omega arith) (omega arith) (c.copy_from_slice.ensures.after ∙ c.to_be_bytes.ensures))) refl refl refl
