-- What request A12 of document 02 says of the proposer, and of power-on at a width, the statements.
use Rattle.std.specs.Prelude.{◌≡◌, ℕ, ◌+◌, ◌<◌, ◌≤◌, true, false, ◌⊎◌, List, map, length, ◌≢◌, slice_index, slice_index_or}
use Rattle.rules.specs.declared.Personality.{Personality}
use Rattle.rules.specs.Row.{addressed, narrow_cells, wide_cells}
use Rattle.rules.specs.Convert.{convert_rule}
use Rattle.rules.specs.Possible.{power_on, blank}
use Rattle.repaint.specs.declared.Span.{Span}
use Rattle.repaint.specs.declared.Verdict.{Verdict}
use Rattle.repaint.specs.Spans.{first, after, Covers, span_at, Accepts, verdict_number, SpansVerdict, ListsVerdict}
use Rattle.repaint.specs.Bytes.{AcceptsBytes, BytesVerdict, power_on_at}
use Rattle.repaint.specs.Proposal.{span_of, stretches, rows_of, columns_of, lengths_of, paint_bytes, all_text, served, refused_with, propose_rule}

abbrev pub spans_for : List ℕ → List ℕ → List Span
spans_for a b = map span_of (stretches a b)

-- "the longest stretches of differing cells in a row": every cell of a span differs, and the cell on either side is equal or in another row
pub record Longest (a b : List ℕ) (s : Span) : Type 0 where
  pub differs : (k : ℕ) → Covers addressed s k → slice_index a k ≢ slice_index b k
  pub left : (s.column ≡ 1) ⊎ ((k : ℕ) → k + 1 ≡ first addressed s → slice_index a k ≡ slice_index b k)
  pub right : (s.column + s.size ≡ addressed + 1) ⊎ (slice_index a (after addressed s) ≡ slice_index b (after addressed s))

-- "both pages are 80 wide, hold only unprotected text of code 20h to 7Eh written by that personality, and end in equal cells"
pub record Served (m : Personality) (a b : List ℕ) : Type 0 where
  pub from : length a ≡ narrow_cells
  pub to : length b ≡ narrow_cells
  pub shown : all_text m a ≡ true
  pub wanted : all_text m b ≡ true
  pub last : slice_index_or a 1919 0 ≡ slice_index b 1919

pub record Proposing : Type 0 where
  -- both judges accept what is proposed
  pub spans_accepted : (m : Personality) (a b : List ℕ) → served m a b ≡ true → Accepts addressed a b (spans_for a b)
  pub bytes_accepted : (m : Personality) (a b : List ℕ) → served m a b ≡ true → AcceptsBytes m false a b (paint_bytes a b)
  pub longest : (m : Personality) (a b : List ℕ) → served m a b ≡ true → (i : ℕ) → i < length (spans_for a b)
      → Longest a b (span_at (spans_for a b) i)
  -- "at most 960 spans and 7,772 bytes"
  pub spans : (m : Personality) (a b : List ℕ) → served m a b ≡ true → length (stretches a b) ≤ 960
  pub bytes : (m : Personality) (a b : List ℕ) → served m a b ≡ true → length (paint_bytes a b) ≤ 7772
  -- what answers 3 is exactly what the paper excepts: pages of one length that are a page's, and not served
  pub excepted : (m : Personality) (a b rows columns lengths out : List ℕ) → (propose_rule m a b rows columns lengths out).answer ≡ 3
      → Served m a b → ⊥
  pub refused : (m : Personality) (a b rows columns lengths out : List ℕ) → length a ≡ length b → (length a ≡ narrow_cells) ⊎ (length a ≡ wide_cells)
      → (Served m a b → ⊥)
      → propose_rule m a b rows columns lengths out ≡ refused_with 3 rows columns lengths out
  -- with room for 960 spans and 7,772 bytes nothing that is served is refused
  pub roomy : (m : Personality) (a b rows columns lengths out : List ℕ) → Served m a b → 960 ≤ length rows → 960 ≤ length columns
      → 960 ≤ length lengths
      → 7772 ≤ length out → (propose_rule m a b rows columns lengths out).answer ≡ 0

-- the judges' answers: each has one, so both accept what is proposed
pub record Judging : Type 0 where
  -- the numbers say which answer it is
  pub one_verdict : (v w : Verdict) → verdict_number v ≡ verdict_number w → v ≡ w
  pub spans_one : (a b : List ℕ) (spans : List Span) (r s : ℕ) → SpansVerdict a b spans r → SpansVerdict a b spans s → r ≡ s
  pub lists_one : (a b rows columns lengths : List ℕ) (r s : ℕ) → ListsVerdict a b rows columns lengths r → ListsVerdict a b rows columns lengths s
      → r ≡ s
  pub bytes_one : (m : Personality) (a b bytes : List ℕ) (r s : ℕ) → BytesVerdict m a b bytes r → BytesVerdict m a b bytes s → r ≡ s
  pub lists_accepted : (m : Personality) (a b : List ℕ) → served m a b ≡ true
      → ListsVerdict a b (rows_of (stretches a b)) (columns_of (stretches a b)) (lengths_of (stretches a b)) 0
  pub bytes_accepted : (m : Personality) (a b : List ℕ) → served m a b ≡ true → BytesVerdict m a b (paint_bytes a b) 0

-- power-on at a width: the narrow one is power-on's own, and the wide one what the conversion makes of it
pub record PowerOns : Type 0 where
  pub narrow : (m : Personality) → power_on_at false m ≡ power_on m
  pub wide : (m : Personality) (t : List ℕ) → length t ≡ wide_cells
      → ((convert_rule blank (power_on m) t).answer ≡ 0) × ((convert_rule blank (power_on m) t).state ≡ power_on_at true m)
