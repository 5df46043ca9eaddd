-- `verdict::evaluate::judge_body` meets its contract. The invariant: the pass is the one after k frames, each sum within its size.
use Rattle.verdict.proofs.Loop.{Held}
use Rattle.verdict.proofs.evaluate.judge_body.Given as goal

abbrev pub invariant-loop-k : goal.invariant-loop-k
invariant-loop-k l = Held l.scale l.frames l.i.0 l.marks l.notes l.pass l.k
