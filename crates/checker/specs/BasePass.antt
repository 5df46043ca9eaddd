-- The bases of all events and the first instance, in one pass over the references. No public contract cites it. Assumes nothing:
-- definitions.
use Rattle.std.specs.Prelude.{◌≡◌, ℕ, suc, ◌+◌, ◌-◌, ◌*◌, ◌/◌, ◌≤◌, min, Bool, cond, ◌&&◌, List}
use Rattle.std.specs.Prelude.{take, replicate, ℤ, pos, negsuc, ◌==◌, nat_le, Option, Some, None}
use Rattle.std.specs.Prelude.{slice_index, slice_index_or, slice_set}
use Rattle.rule.specs.Limits.{event_limit, offset_limit, frame_bytes}
use Rattle.rule.specs.Tree.{Reference, LimitsR}
use Rattle.rule.specs.Frames.{frame_count}
use Rattle.rule.specs.References.{reference_byte, reference_of, references_to}
use Rattle.rule.specs.Check.{checked_of}
use Rattle.rule.specs.declared.Frame.{Frame}
use Rattle.rule.specs.CheckTold as checking
use Rattle.verdict.specs.Found.{instance_limit}
use Rattle.checker.specs.Limits.{line_limit}
use Rattle.checker.specs.Base.{start_at, first_for}
use Rattle.checker.specs.Profile.{profile_passes}
use Rattle.checker.specs.Open.{width_fits}
use Rattle.checker.specs.StateTest.{is_accepted, all_to, totals_pass}
use Rattle.checker.specs.declared.Totals.{Totals}

-- "the smallest of" some numbers, if there was one, and one more
abbrev pub lowest : Option ℕ → ℕ → ℕ
lowest None n = n
lowest (Some m) n = min m n

-- "the smallest of max(0, factor × p + offset)": with one reference more
abbrev pub lowered : ℕ → Reference → List (Option ℕ) → List (Option ℕ)
lowered p r bases = slice_set bases r.event (Some (lowest (slice_index_or bases r.event None) (start_at p r)))

-- with one frame more, "over its references"
abbrev pub bases_with : ℕ → Frame → List (Option ℕ) → List (Option ℕ)
bases_with p x bases = cond (x.kind == reference_byte) (lowered p (reference_of x) bases) bases

-- "The base of an event", of each event, after the first k frames; of "an unreferenced event" there is none
abbrev pub bases_to : List ℕ → ℕ → ℕ → List (Option ℕ)
bases_to s p k = references_to (lowered p) s (replicate event_limit None) k

-- "The base of an event", of each event, after all frames
unfoldable pub bases_of : List ℕ → ℕ → List (Option ℕ)
bases_of s p = bases_to s p (frame_count s)

-- n / d rounded up
abbrev pub rounded_up : ℕ → ℕ → ℕ
rounded_up n d = (n + (d - 1)) / d

-- the first i at which factor × i + offset is not below 0: 0 for an offset of 0 or more, else −offset / factor rounded up
abbrev pub first_by : ℕ → ℤ → ℕ
first_by factor (pos k) = 0
first_by factor (negsuc k) = rounded_up (suc k) factor

-- of a reference
abbrev pub first_of : Reference → ℕ
first_of r = first_by r.factor r.offset

-- "the first i with a reference that isn't void", as the smallest of these: with one reference more
abbrev pub sooner : Reference → ℕ → ℕ
sooner r first = min first (first_of r)

-- with one frame more
abbrev pub first_with : Frame → ℕ → ℕ
first_with x first = cond (x.kind == reference_byte) (sooner (reference_of x) first) first

-- after the first k frames; no reference's is later than the offset's limit
abbrev pub first_to : List ℕ → ℕ → ℕ
first_to s k = references_to sooner s offset_limit k

-- what a frame's step requires: "The factor of i is 1 to 9 .., the offset −9,999 to 9,999", and not "p over 1,009,999"
pub record Startable (p : ℕ) (x : Frame) : Type 0 where
  pub instance_in : p ≤ instance_limit
  pub limits : x.kind ≡ reference_byte → LimitsR (reference_of x)

-- what a pass over frames requires: not frames that "opening would refuse", nor "p over 1,009,999"
pub record Passable (s : List ℕ) (p : ℕ) : Type 0 where
  pub accepted : checked_of s ≡ checking.accepted
  pub instance_in : p ≤ instance_limit

-- a count by the event's base: "a count over 1,000,000 .. a nonzero count of an unreferenced event, or a count above base plus W"
abbrev pub count_fits : ℕ → Option ℕ → ℕ → Bool
count_fits w None c = nat_le c line_limit && c == 0
count_fits w (Some low) c = nat_le c line_limit && nat_le c (low + w)

-- 12 of a state's fields: not "a state whose frames or W opening would refuse", nor "a board state above them"
abbrev pub rule_fits : List ℕ → ℕ → ℕ → ℕ → Bool
rule_fits frames n w number =
    (profile_passes number w n && is_accepted (checked_of (take (n * frame_bytes) frames))) && width_fits w

-- 12 of the others, by the pass: nor "a count over 1,000,000, p over 1,009,999", and "the new sum"
unfoldable pub tally_fits : List ℕ → ℕ → List ℕ → ℕ → Totals → Bool
tally_fits s w counts p totals =
    nat_le p instance_limit
    && (all_to event_limit (λ e. count_fits w (slice_index_or (bases_of s p) e None) (slice_index counts e))
    && totals_pass (first_for s) p totals)
