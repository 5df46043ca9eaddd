-- `rule::check` meets its contract. Assumes nothing.
use mathlib.Core.Path.{◌≡◌, ◌∙◌}
use mathlib.Core.Bool.{true}
use mathlib.Core.List.{List}
use Prim.Native.Nat.{ℕ}
use Rattle.std.proofs.Common.{rules}
use lib.ListN.{length}
use Rattle.rule.specs.Scale.{scale_of, head_fine, body}
use Rattle.rule.specs.Order.{order_of}
use Rattle.rule.specs.Stack.{HeadIs}
use Rattle.rule.specs.Check.{whole_frames, after_order, checked_body, checked_of}
use Rattle.rule.specs.declared.Head.{Head}
use Rattle.rule.proofs.FrameHeads.{body-part}
use Rattle.rule.proofs.check.Goals as goal

-- the check of the body's part is that of the body by the scale
checked-part : {s : List ℕ} {h : Head} → HeadIs s h → (t : List ℕ) → t ≡ body s → after_order h.frames h.decimals t (order_of h.most t) ≡ checked_body (scale_of s) (body s)
checked-part i t e = rw (e, i.frames, i.decimals, i.most)

pub returns : goal.returns
unfolding checked_of
returns c =
    let s = c.args.frames.now in
    let i = c.head_of-head.ensures in
    let w : whole_frames (length s) ≡ true = search rules in
    let h : head_fine s ≡ true = search rules in
    rw (w, h) (c.check_body.ensures ∙ checked-part i _ (body-part i))
