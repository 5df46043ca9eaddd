-- The headline statements of this crate, the third demand of document 01 above all. Each is proved where it is cited. Assumes nothing.
use Rattle.std.proofs.Common.{◌≡◌, ℕ, ◌+◌, ◌*◌, ◌<◌, ◌≤◌, true, false, ◌≢◌, ◌↔◌, List, [], ◌∷◌, map, length, get_or, take, replicate, ℤ, pos, ◌+ℤ◌, ◌*ℤ◌}
use mathlib.Core.List.{Memᴰ}
use Rattle.rule.specs.Limits.{offset_limit, frame_bytes}
use Rattle.rule.specs.Token.{tokens}
use Rattle.rule.specs.Grammar.{Rule, yield, words}
use Rattle.rule.specs.Frames.{Bytes, frame_count}
use Rattle.rule.specs.Tree.{Reference, references}
use Rattle.rule.specs.Build.{tree_of}
use Rattle.rule.specs.Opening.{Proper}
use Rattle.rule.specs.Reading.{read_of}
use Rattle.rule.specs.Meaning.{meaning}
use Rattle.rule.specs.ReadTold as reading
use Rattle.log_lines.specs.Line.{line_of}
use Rattle.log_lines.specs.Line as log
use Rattle.log_lines.proofs.Main.{zeros-refused, empty-refused}
use Rattle.verdict.specs.Found.{instance_limit, given_in, is_present, some_of}
use Rattle.verdict.specs.Value.{value}
use Rattle.verdict.specs.Settled.{settled, verdict_of, judgement}
use Rattle.std.specs.Prelude.{Option, Some, Result}
use Rattle.verdict.specs.Later.{MoreLines}
use Rattle.verdict.specs.declared.Verdict.{Verdict}
use Rattle.verdict.specs.declared.Verdict.TheVariants.{False, Unknown}
use Rattle.checker.specs.Limits.{width_limit, window_words, line_limit, report_least, board_width_limit, board_frame_limit}
use Rattle.checker.specs.Profile.{width_most, frames_most, profile_number}
use Rattle.checker.specs.Answer.{opened, accepted, waiting, verdict, refused, open_told, feed_told, pull_told}
use Rattle.checker.specs.Base.{referenced, start_at, smallest, base, Referenced, Maximum, SmallestStart, first_for, SomeNotVoid, FirstInstance}
use Rattle.checker.specs.BasePass.{first_of}
use Rattle.checker.specs.State.{tally_in, state_frames, zero_state, SameRule}
use Rattle.checker.specs.Ring.{word_at}
use Rattle.checker.specs.Sum.{sum_of}
use Rattle.checker.specs.Open.{open_def}
use Rattle.checker.specs.StateTest.{state_passes, Passing}
use Rattle.checker.specs.Feed.{feed_def}
use Rattle.checker.specs.Pull.{pull_def}
use Rattle.checker.specs.Calls.{Call, Out, outs, checker}
use Rattle.checker.specs.Machine.{at_first, tally_of, machine_for}
use Rattle.checker.specs.Demand.{Unrefused, fresh, answer_of, instances_from, count_in, totals_of, checker_after, machine_after, handed_out, ThirdDemand, accepted_in, Reordered}
use Rattle.checker.specs.Demand.{reports_out, Reported, ReportedTwice}
use Rattle.checker.specs.OneWord.{Words, OneWordApart, LetThrough}
use Rattle.checker.specs.View.{view_def, views_out, reported_out, seen}
use Rattle.checker.specs.Earlier.{RaisedLog}
use Rattle.checker.specs.Tariff.{price_limit, bands_of, price_sum, cents_of, cents, turned, charge_told, charge_def, BandsRise, PricesInRange, ChargeRefused}
use Rattle.checker.specs.declared.Profile.{Profile}
use Rattle.checker.specs.declared.Profile.TheVariants.{Board}
use Rattle.checker.specs.declared.State.{State}
use Rattle.checker.specs.declared.Taken.{Taken}
use Rattle.checker.specs.declared.refusals.Refusal.{Refusal}
use Rattle.checker.specs.declared.Tariff.{Tariff}
use Rattle.checker.proofs.Fresh
use Rattle.checker.proofs.Lists
use Rattle.checker.proofs.Final
use Rattle.checker.proofs.Sums
use Rattle.checker.proofs.Text
use Rattle.checker.proofs.Never
use Rattle.checker.proofs.Exactly
use Rattle.checker.proofs.Openings
use Rattle.checker.proofs.Agree
use Rattle.checker.proofs.Order
use Rattle.checker.proofs.Reports
use Rattle.checker.proofs.Views
use Rattle.checker.proofs.Earlier
use Rattle.checker.proofs.Charges
use Rattle.checker.proofs.TariffExamples
use Rattle.checker.proofs.Unchanged
use Rattle.checker.proofs.Stays
use Rattle.checker.proofs.Bases
use Rattle.checker.proofs.Passes
use Rattle.checker.proofs.OneWord
use Rattle.checker.proofs.Told

-- ---- a list of calls, whatever its lines and report buffers, from an unrefused opening, of desk or board, whatever W
module _ {profile : Profile} {frames : List ℕ} {w : ℕ} {win : List ℤ} (o : Unrefused profile frames w win) (cs : List Call) where
  -- each answer with its number and place, and each report buffer after its pull, is the plain machine's
  pub third-answers : outs checker cs (fresh profile frames w win) ≡ outs (machine_for frames w) cs (at_first frames)
  third-answers = Lists.answers o cs

  -- the counts, p and totals in the state are the machine's
  pub third-state : tally_in (checker_after profile frames w win cs).state ≡ tally_of (machine_after frames w cs)
  third-state = Lists.state o cs

  -- the verdicts handed out are those of settled instances, from the first on, by the definition over the machine's lists after
  -- the last call
  pub third-final : map Some (handed_out profile frames w win cs)
      ≡ instances_from (first_for frames) (length (handed_out profile frames w win cs)) (λ (i : ℕ). judgement (given_in (machine_after frames w cs).lists i) (tree_of frames))
  third-final = Final.final o cs

  -- p and the totals in the state count them
  pub third-totals : ((checker_after profile frames w win cs).state.next.0 ≡ first_for frames + length (handed_out profile frames w win cs))
      × ((checker_after profile frames w win cs).state.totals ≡ totals_of (handed_out profile frames w win cs))
  third-totals = Sums.sums o cs

  -- 12, 13 and 27 never come
  pub never_12_13_27 : (x : Out) → Memᴰ x (outs checker cs (fresh profile frames w win)) → (place : ℕ)
      → (answer_of x ≢ refused 12 place) × ((answer_of x ≢ refused 13 place) × (answer_of x ≢ refused 27 place))
  never_12_13_27 = Never.never o cs

  -- the five together: "The third demand is a single claim about the whole list and not one for each call"
  pub third_demand : ThirdDemand profile frames w win cs
  third_demand =
      record { answers = third-answers; state = third-state; final = third-final; totals = third-totals; never_12_13_27 = never_12_13_27 }

  -- one call more: 'waiting' exactly where the buffer is long enough and the next instance is not settled by the machine's lists
  pub waiting_exactly : (buffer : List ℕ)
      → ((pull_def (checker_after profile frames w win cs).state (checker_after profile frames w win cs).words buffer).answer ≡ waiting)
      ↔ ((report_least ≤ length buffer)
      × (settled (given_in (machine_after frames w cs).lists (machine_after frames w cs).next) (tree_of frames) ≡ false))
  waiting_exactly = Exactly.waiting_exactly o cs

  -- document 02, point 2, "No verdict before the first piece": where one call more hands out a verdict, a reference of its instance is
  -- present by the machine's lists
  pub verdict-present : (buffer : List ℕ) (v : Verdict)
      → (pull_def (checker_after profile frames w win cs).state (checker_after profile frames w win cs).words buffer).answer ≡ verdict v
      → some_of is_present (given_in (machine_after frames w cs).lists (machine_after frames w cs).next).found (references (tree_of frames)) ≡ true
  verdict-present = Exactly.verdict-present o cs

  -- accepted exactly where the event is referenced, has fewer than 1,000,000 lines and has not reached base plus W
  pub accepted_exactly : (line : List ℕ) (e : ℕ) (a b c d : ℤ) → line_of line ≡ log.line e a b c d
      → ((feed_def (checker_after profile frames w win cs).state (checker_after profile frames w win cs).words line).answer ≡ accepted)
      ↔ ((referenced (references (tree_of frames)) e ≡ true)
      × (length ((machine_after frames w cs).lists e) < line_limit)
      × (length ((machine_after frames w cs).lists e) < base (references (tree_of frames)) e (machine_after frames w cs).next + w))
  accepted_exactly = Exactly.accepted_exactly o cs

  -- 'window full' exactly where it has reached base plus W
  pub full_exactly : (line : List ℕ) (e : ℕ) (a b c d : ℤ) → line_of line ≡ log.line e a b c d
      → ((feed_def (checker_after profile frames w win cs).state (checker_after profile frames w win cs).words line).answer ≡ refused 17 0)
      ↔ ((referenced (references (tree_of frames)) e ≡ true)
      × (length ((machine_after frames w cs).lists e) < line_limit)
      × (base (references (tree_of frames)) e (machine_after frames w cs).next + w ≤ length ((machine_after frames w cs).lists e)))
  full_exactly = Exactly.full_exactly o cs

  -- each accepted occurrence from base on is found in the window, all four notes
  pub window-holds : (e k n : ℕ) → e < 8 → base (references (tree_of frames)) e (machine_after frames w cs).next ≤ k → k < length ((machine_after frames w cs).lists e) → n < 4
      → get_or (checker_after profile frames w win cs).words (word_at w e k n) (pos 0) ≡ get_or (get_or ((machine_after frames w cs).lists e) k []) n (pos 0)
  window-holds = Exactly.window-holds o cs

  -- document 02, point 9, "stays in the state": after every list the state has the profile of the opening
  pub profile-stays : (checker_after profile frames w win cs).state.profile ≡ profile_number profile
  profile-stays = Stays.profile-stays o cs

-- ---- document 02, point 2: where verdicts begin, of every unrefused opening, whatever W
module _ {profile : Profile} {frames : List ℕ} {w : ℕ} {win : List ℤ} (o : Unrefused profile frames w win) where
  -- "the first i with a reference that isn't void", both ways
  pub first_exactly : (n : ℕ) → (first_for frames ≡ n) ↔ FirstInstance (references (tree_of frames)) n
  first_exactly = Fresh.first_exactly o

  -- from there on, and at none before, some reference isn't void
  pub first_on : (i : ℕ) → SomeNotVoid (references (tree_of frames)) i ↔ (first_for frames ≤ i)
  first_on = Fresh.first_on o

  -- as a quotient: the smallest over the references of 0 for an offset of 0 or more, else −offset / factor rounded up
  pub first-smallest : first_for frames ≡ smallest (map first_of (references (tree_of frames)))
  first-smallest = Fresh.first-smallest o

  -- at most 9,999
  pub first-most : first_for frames ≤ offset_limit
  first-most = Fresh.first-most o

-- ---- from a rule's text to its verdicts: for every text that `read` accepts, the tree that spells it, every W and unrefused opening
-- with the frames that were filled, and every list of calls: each verdict handed out is that of the value, at its instance over the
-- lines accepted in the list, of the rule that the text means
pub text-to-verdict : (text buffer filled : List ℕ) (n : ℕ) → read_of text buffer ≡ (reading.frames n, filled) → (x : Rule) → yield x ≡ words (tokens text)
    → (profile : Profile) (w : ℕ) (win : List ℤ) → (open_def profile (take (n * frame_bytes) filled) w win).answer ≡ opened
    → (cs : List Call) (i : ℕ) → i < length (handed_out profile (take (n * frame_bytes) filled) w win cs)
    → get_or (handed_out profile (take (n * frame_bytes) filled) w win cs) i Unknown
    ≡ verdict_of (value (given_in (machine_after (take (n * frame_bytes) filled) w cs).lists (first_for (take (n * frame_bytes) filled) + i)) (meaning text x))
text-to-verdict = Text.text-to-verdict

-- ---- two lists for one rule, with any two windows, at the desk or on the board
module _ {profile profile' : Profile} {frames : List ℕ} {w w' : ℕ} {win win' : List ℤ} (o : Unrefused profile frames w win) (o' : Unrefused profile' frames w' win') (cs cs' : List Call) where
  -- where one's accepted lines begin the other's, event by event, verdicts that both hand out are equal
  pub third-agree : MoreLines (machine_after frames w cs).lists (machine_after frames w' cs').lists → (i : ℕ)
      → i < length (handed_out profile frames w win cs) → i < length (handed_out profile' frames w' win' cs')
      → get_or (handed_out profile frames w win cs) i Unknown ≡ get_or (handed_out profile' frames w' win' cs') i Unknown
  third-agree = Agree.agree o o' cs cs'

  -- so it is after another order of lines between events and with later lines, whenever verdicts are pulled
  pub third-order : Reordered (accepted_in frames w cs (at_first frames)) (accepted_in frames w' cs' (at_first frames)) → (i : ℕ)
      → i < length (handed_out profile frames w win cs) → i < length (handed_out profile' frames w' win' cs')
      → get_or (handed_out profile frames w win cs) i Unknown ≡ get_or (handed_out profile' frames w' win' cs') i Unknown
  third-order = Order.order o o' cs cs'

  -- where one's accepted lines begin the other's, the two reports of an instance that both hand out as false are the same but for
  -- references that are present in one and pending in the other
  pub third-reports : MoreLines (machine_after frames w cs).lists (machine_after frames w' cs').lists → (i : ℕ)
      → get_or (handed_out profile frames w win cs) i Unknown ≡ False → get_or (handed_out profile' frames w' win' cs') i Unknown ≡ False
      → ReportedTwice frames w w' cs cs' (first_for frames + i)
      (get_or (reports_out profile frames w win cs) i []) (get_or (reports_out profile' frames w' win' cs') i [])
  third-reports = Reports.two-reports o o' cs cs'

  -- so it is after another order of lines between events and with later lines
  pub third-order-reports : Reordered (accepted_in frames w cs (at_first frames)) (accepted_in frames w' cs' (at_first frames)) → (i : ℕ)
      → get_or (handed_out profile frames w win cs) i Unknown ≡ False → get_or (handed_out profile' frames w' win' cs') i Unknown ≡ False
      → ReportedTwice frames w w' cs cs' (first_for frames + i)
      (get_or (reports_out profile frames w win cs) i []) (get_or (reports_out profile' frames w' win' cs') i [])
  third-order-reports = Reports.order-reports o o' cs cs'

  -- document 02, point 3: machine hands, given one view after each report, get the same views in the same order exactly where the
  -- reported instances and verdicts are equal
  pub views_exactly : (views_out profile frames w win cs ≡ views_out profile' frames w' win' cs')
      ↔ (reported_out profile frames w win cs ≡ reported_out profile' frames w' win' cs')
  views_exactly = Views.views_exactly o o' cs cs'

  -- so, whatever the notes, equal reported instances and verdicts give equal views
  pub views-equal : reported_out profile frames w win cs ≡ reported_out profile' frames w' win' cs'
      → views_out profile frames w win cs ≡ views_out profile' frames w' win' cs'
  views-equal = Views.same-views o o' cs cs'

-- ---- one rule, one W and one list of calls: a checker of the board gives the answers and reports of the desk's, and of any other that
-- was opened so, whatever the window held
pub board_as_desk : {profile profile' : Profile} {frames : List ℕ} {w : ℕ} {win win' : List ℤ} → Unrefused profile frames w win → Unrefused profile' frames w win'
    → (cs : List Call) → outs checker cs (fresh profile frames w win) ≡ outs checker cs (fresh profile' frames w win')
board_as_desk = Lists.same-answers

-- ---- within one list: each false verdict handed out comes with the report of its instance at the moment of the pull
pub third-report : {profile : Profile} {frames : List ℕ} {w : ℕ} {win : List ℤ} → Unrefused profile frames w win → (cs : List Call) (i : ℕ)
    → get_or (handed_out profile frames w win cs) i Unknown ≡ False
    → Reported frames w cs (first_for frames + i) (get_or (reports_out profile frames w win cs) i [])
third-report = Reports.report

-- the views of a list are its reported instances and verdicts, in their order, and show no note
pub views-seen : {profile : Profile} {frames : List ℕ} {w : ℕ} {win : List ℤ} → Unrefused profile frames w win → (cs : List Call)
    → views_out profile frames w win cs ≡ map seen (reported_out profile frames w win cs)
views-seen = Views.views-seen

-- ---- a pull that fills a report, whatever the state, the window and the buffer: the view is not refused, and shows its instance and
-- that it is false
pub view_after : (s : State) (win : List ℤ) (buffer : List ℕ) → (pull_def s win buffer).answer ≡ verdict False
    → view_def (pull_def s win buffer).report ≡ record { number = 0; bytes = seen (record { instance = s.next.0; verdict = False }) }
view_after = Views.view_after

-- ---- document 02, point 8: for every list of calls whose lines are old ones, on the plain machine, the list with each line raised gives
-- the same answers and verdicts; in place of a line that 23 names stand bytes that 15 refuses at 0
pub raised_log : {profile : Profile} {frames : List ℕ} {w : ℕ} {win : List ℤ} → Unrefused profile frames w win
    → (other : List ℕ) → line_of other ≡ log.refused 15 0 → (cs : List Call) → RaisedLog profile frames w win other cs
raised_log = Earlier.raised_log

-- such are the zero bytes that raising hands back, and an empty line
pub zeros-named : line_of (replicate 34 0) ≡ log.refused 15 0
zeros-named = zeros-refused

pub empty-named : line_of [] ≡ log.refused 15 0
empty-named = empty-refused

-- ---- document 02, point 13: charging, whatever the state and the tariff
-- cents exactly where 28, 29 and 12 let both through, and then what the false total costs
pub charges_exactly : (s : State) (t : Tariff) (c : ℕ) → (charge_def s t ≡ cents c)
    ↔ (BandsRise t × (PricesInRange t × ((state_passes s ≡ true) × (c ≡ cents_of t s.totals.failed))))
charges_exactly = Charges.charges_exactly

-- else the first of 28, 29 and 12 that holds, and no place
pub charge_refused : (s : State) (t : Tariff) (number place : ℕ) → (charge_def s t ≡ turned number place) ↔ ChargeRefused s t number place
charge_refused = Charges.charge_refused

-- what is told of the answer fixes it
pub charge_told_injective : (a b : Result ℕ Refusal) → charge_told a ≡ charge_told b → a ≡ b
charge_told_injective = Charges.charge_told_injective

-- "More violations never cost less": by every tariff, those that 28 and 29 let through among them
pub more_never_less : (t : Tariff) (m n : ℕ) → m ≤ n → cents_of t m ≤ cents_of t n
more_never_less = Charges.more

-- so it is of any two states that are charged by one tariff
pub more_never_less_charged : (s s' : State) (t : Tariff) (c c' : ℕ) → charge_def s t ≡ cents c → charge_def s' t ≡ cents c'
    → s.totals.failed ≤ s'.totals.failed → c ≤ c'
more_never_less_charged = Charges.more_charged

-- the most that is charged, 20,199,980,000 cents: 1,009,999 violations, 10,000 cents each, doubled
pub cents_bound : (s : State) (t : Tariff) (c : ℕ) → charge_def s t ≡ cents c → c ≤ instance_limit * price_limit * 2
cents_bound = Charges.cents_bound

-- "rounded half up to the cent, once": the cents differ from the sum with its surcharge by at most half a cent, upwards at a half
pub cents_nearest : (t : Tariff) (n : ℕ)
    → (200 * cents_of t n ≤ 2 * (price_sum (bands_of t) t.beyond n * (100 + t.surcharge)) + 100)
    × (2 * (price_sum (bands_of t) t.beyond n * (100 + t.surcharge)) + 100 < 200 * cents_of t n + 200)
cents_nearest = Charges.cents_nearest

-- after every list of calls: the false verdicts that it handed out are charged
pub charged_after : {profile : Profile} {frames : List ℕ} {w : ℕ} {win : List ℤ} → Unrefused profile frames w win → (cs : List Call) (t : Tariff) → BandsRise t → PricesInRange t
    → charge_def (checker_after profile frames w win cs).state t ≡ cents (cents_of t (count_in (handed_out profile frames w win cs) False))
charged_after = Charges.charged_after

-- the document's example, computed, of every state with 12 violations that 12 lets through, whatever the entries after the two bands
pub tariff_example : (s : State) (l l' p p' : ℕ) → state_passes s ≡ true → s.totals.failed ≡ 12
    → charge_def s (record { bands = 2; lasts = 10 ∷ 100 ∷ l ∷ l' ∷ []; prices = 45 ∷ 30 ∷ p ∷ p' ∷ []; beyond = 12; surcharge = 7 }) ≡ cents 546
tariff_example = TariffExamples.document_example

-- the state that a refused opening hands back is refused with 12
pub zero_charge : (t : Tariff) → BandsRise t → PricesInRange t → charge_def zero_state t ≡ turned 12 0
zero_charge = Charges.zero_charge

-- ---- opening is not refused exactly where the frames are a rule's within the limits, W is 1 to 256 of the desk, 1 to 32 of the board,
-- the frames are at most 64 of the desk, 16 of the board, and the window has 32 × W words
pub opens_exactly : (profile : Profile) {frames : List ℕ} (w : ℕ) (win : List ℤ) → Bytes frames
    → ((open_def profile frames w win).answer ≡ opened)
    ↔ (Proper frames × (1 ≤ w) × (w ≤ width_most profile) × (frame_count frames ≤ frames_most profile) × (length win ≡ window_words w))
opens_exactly = Openings.opens_exactly

-- document 02, point 9: 26 comes exactly where 9, 10, 7, 8 and 11 do not, at "a board opening above either figure"
pub open_26_exactly : (profile : Profile) {frames : List ℕ} (w : ℕ) (win : List ℤ) → Bytes frames
    → ((open_def profile frames w win).answer ≡ refused 26 0)
    ↔ (Proper frames × (1 ≤ w) × (w ≤ width_limit) × (length win ≡ window_words w)
    × (profile ≡ Board) × ((w ≤ board_width_limit) × (frame_count frames ≤ board_frame_limit) → ⊥))
open_26_exactly = Openings.open_26_exactly

-- ---- 12 lets a state through exactly where none of the document's conditions holds of it
pub passes_exactly : (s : State) → (state_passes s ≡ true) ↔ Passing s
passes_exactly = Passes.passes_exactly

-- and feeding and pulling answer 12 exactly to the other states, whatever the window, the line and the buffer
pub feed_12_exactly : (s : State) (win : List ℤ) (line : List ℕ) → ((feed_def s win line).answer ≡ refused 12 0) ↔ (Passing s → ⊥)
feed_12_exactly = Passes.feed_12_exactly

pub pull_12_exactly : (s : State) (win : List ℤ) (buffer : List ℕ) → ((pull_def s win buffer).answer ≡ refused 12 0) ↔ (Passing s → ⊥)
pull_12_exactly = Passes.pull_12_exactly

-- ---- document 02, point 11: 27 comes exactly where 12 and 13 do not and the state's sum is not that of the window's words, whatever
-- the line and the buffer
pub feed_27_exactly : (s : State) (win : List ℤ) (line : List ℕ)
    → ((feed_def s win line).answer ≡ refused 27 0) ↔ (Passing s × ((length win ≡ window_words s.width) × (s.sum ≢ sum_of win)))
feed_27_exactly = Passes.feed_27_exactly

pub pull_27_exactly : (s : State) (win : List ℤ) (buffer : List ℕ)
    → ((pull_def s win buffer).answer ≡ refused 27 0) ↔ (Passing s × ((length win ≡ window_words s.width) × (s.sum ≢ sum_of win)))
pull_27_exactly = Passes.pull_27_exactly

-- "A window that differs in just one word .. is always refused": where some call would not refuse a state and a window with 12, 13 or
-- 27, every feed and pull with that state refuses every window that differs from it in one word with 27, whatever the line and the
-- buffer
pub one-word-shows : (s : State) (win win' : List ℤ) → Words win → Words win' → OneWordApart win win'
    → (c : Call) → LetThrough (answer_of (checker (record { state = s; words = win }) c).out)
    → (c' : Call) → answer_of (checker (record { state = s; words = win' }) c').out ≡ refused 27 0
one-word-shows = OneWord.one-word-shows

-- so it is of the window and the state that any call leaves which 12, 13 and 27 do not refuse; a state's frames are bytes, as an array
-- of them is
pub one-word-shows-next : (s : State) (win : List ℤ) → Bytes (state_frames s) → (c : Call) → LetThrough (answer_of (checker (record { state = s; words = win }) c).out)
    → Words (checker (record { state = s; words = win }) c).next.words
    → (win' : List ℤ) → Words win' → OneWordApart (checker (record { state = s; words = win }) c).next.words win'
    → (c' : Call) → answer_of (checker (record { state = (checker (record { state = s; words = win }) c).next.state; words = win' }) c').out ≡ refused 27 0
one-word-shows-next = OneWord.one-word-shows-next

-- and of those that an opening and a list of calls leave
pub one-word-shows-after : {profile : Profile} {frames : List ℕ} {w : ℕ} {win : List ℤ} → Unrefused profile frames w win → (cs : List Call)
    → Words (checker_after profile frames w win cs).words → (win' : List ℤ) → Words win' → OneWordApart (checker_after profile frames w win cs).words win'
    → (c : Call) → answer_of (checker (record { state = (checker_after profile frames w win cs).state; words = win' }) c).out ≡ refused 27 0
one-word-shows-after = OneWord.one-word-shows-after

-- and its state's sum is that of the window's words
pub sum-stays : {profile : Profile} {frames : List ℕ} {w : ℕ} {win : List ℤ} → Unrefused profile frames w win → (cs : List Call)
    → (checker_after profile frames w win cs).state.sum ≡ sum_of (checker_after profile frames w win cs).words
sum-stays = OneWord.sum-stays

-- ---- bases, whatever the references, the event and p
-- an event is referenced exactly where a reference names it
pub referenced_exactly : (refs : List Reference) (e : ℕ) → (referenced refs e ≡ true) ↔ Referenced refs e
referenced_exactly = Bases.referenced_exactly

-- "max(0, factor × p + offset)" of a reference, over the signed integers
pub start_exactly : (p n : ℕ) (r : Reference)
    → (start_at p r ≡ n) ↔ Maximum (pos 0) (pos r.factor *ℤ pos p +ℤ r.offset) (pos n)
start_exactly = Bases.start_exactly

-- "The base of an event is the smallest of max(0, factor × p + offset) over its references", of every event that is referenced
pub base_exactly : (refs : List Reference) (e p b : ℕ) → Referenced refs e → (base refs e p ≡ b) ↔ SmallestStart refs e p b
base_exactly = Bases.base_exactly

-- ---- what is told of an answer fixes it, so that a contract allows one answer only: of opening, feeding and pulling
pub open_told_injective : (a b : Result (Unit {0}) Refusal) → open_told a ≡ open_told b → a ≡ b
open_told_injective = Told.open_told_injective

pub feed_told_injective : (a b : Result Taken Refusal) → feed_told a ≡ feed_told b → a ≡ b
feed_told_injective = Told.feed_told_injective

pub pull_told_injective : (a b : Result (Option Verdict) Refusal) → pull_told a ≡ pull_told b → a ≡ b
pull_told_injective = Told.pull_told_injective

-- ---- every call, whatever its arguments: what is refused, ignored or waiting leaves state and lent words as they were
pub refused_unchanged_open : (profile : Profile) (frames : List ℕ) (w : ℕ) (win : List ℤ) → (open_def profile frames w win).answer ≢ opened
    → ((open_def profile frames w win).state ≡ zero_state) × ((open_def profile frames w win).words ≡ win)
refused_unchanged_open = Unchanged.open_unchanged

pub refused_unchanged_feed : (s : State) (win : List ℤ) (line : List ℕ) → (feed_def s win line).answer ≢ accepted
    → ((feed_def s win line).state ≡ s) × ((feed_def s win line).words ≡ win)
refused_unchanged_feed = Unchanged.feed_unchanged

pub refused_unchanged_pull : (s : State) (win : List ℤ) (buffer : List ℕ) → ((v : Verdict) → (pull_def s win buffer).answer ≢ verdict v)
    → ((pull_def s win buffer).state ≡ s) × ((pull_def s win buffer).report ≡ buffer)
refused_unchanged_pull = Unchanged.pull_unchanged

-- the state that a refused opening hands back is refused with 12
pub zero-feed : (win : List ℤ) (line : List ℕ) → (feed_def zero_state win line).answer ≡ refused 12 0
zero-feed = Exactly.zero-feed

pub zero-pull : (win : List ℤ) (buffer : List ℕ) → (pull_def zero_state win buffer).answer ≡ refused 12 0
zero-pull = Exactly.zero-pull

-- ---- a state that 12 lets through stays one, whatever is fed and pulled, and an unrefused opening gives one; a state's frames
-- are bytes, as an array of them is
pub good_stays_open : {profile : Profile} {frames : List ℕ} {w : ℕ} {win : List ℤ} → Unrefused profile frames w win → state_passes (open_def profile frames w win).state ≡ true
good_stays_open = Stays.good_open

pub good_stays_feed : (s : State) → state_passes s ≡ true → (win : List ℤ) (line : List ℕ) → state_passes (feed_def s win line).state ≡ true
good_stays_feed = Stays.good-feed

pub good_stays_pull : (s : State) → state_passes s ≡ true → Bytes (state_frames s) → (win : List ℤ) (buffer : List ℕ) → state_passes (pull_def s win buffer).state ≡ true
good_stays_pull = Stays.good-pull

-- the frames, W and the profile stay, and the window keeps its length
pub feed-keeps : (s : State) (win : List ℤ) (line : List ℕ) → SameRule s (feed_def s win line).state
feed-keeps = Stays.feed-rule

pub pull-keeps : (s : State) (win : List ℤ) (buffer : List ℕ) → SameRule s (pull_def s win buffer).state
pull-keeps = Stays.pull-rule

pub feed-long : (s : State) → state_passes s ≡ true → (win : List ℤ) (line : List ℕ) → length (feed_def s win line).words ≡ length win
feed-long = Stays.feed-long
