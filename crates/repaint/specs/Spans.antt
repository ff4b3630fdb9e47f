-- The judge of spans (document 02, A12): "accepts a list of spans only if they are in reading order, don't overlap, lie within their rows, are not
-- empty and cover every cell that differs, and always accepts such a list". A span is "a row, first column and length", rows and columns counted from
-- 1. A page has 24 rows of w cells; cells count from 0.
use Rattle.std.specs.Prelude.{◌≡◌, ℕ, ◌+◌, ◌-◌, ◌*◌, ◌<◌, ◌≤◌, ◌⊎◌, List, [], ◌∷◌, length, ◌≢◌, slice_index, slice_index_or}
use Rattle.rules.specs.Row.{height, narrow_cells, wide_cells}
use Rattle.repaint.specs.declared.Span.{Span}
use Rattle.repaint.specs.declared.Verdict.{Verdict}

-- a span's first cell, and the cell after its last
abbrev pub first : ℕ → Span → ℕ
first w s = (s.row - 1) * w + (s.column - 1)

abbrev pub after : ℕ → Span → ℕ
after w s = first w s + s.size

-- the cells that a span covers
abbrev pub Covers : ℕ → Span → ℕ → Type 0
Covers w s k = (first w s ≤ k) × (k < after w s)

-- "lie within their rows"
pub record Within (w : ℕ) (s : Span) : Type 0 where
  pub top : 1 ≤ s.row
  pub bottom : s.row ≤ height
  pub left : 1 ≤ s.column
  pub right : s.column + s.size ≤ w + 1

-- the i-th of a list of spans, counted from 0; past the end a span that is never looked at
abbrev pub none : Span
none = record { row = 0; column = 0; size = 0 }

abbrev pub span_at : List Span → ℕ → Span
span_at spans i = slice_index_or spans i none

-- the sentence, a field for each of its clauses; a is "the page the display shows", and b "the page it should show"
pub record Accepts (w : ℕ) (a b : List ℕ) (spans : List Span) : Type 0 where
  pub in_order_lem : (i j : ℕ) → i < j → j < length spans → first w (span_at spans i) < first w (span_at spans j)
  pub apart : (i j k : ℕ) → i < j → j < length spans → Covers w (span_at spans i) k → Covers w (span_at spans j) k → ⊥
  pub within : (i : ℕ) → i < length spans → Within w (span_at spans i)
  pub not_empty : (i : ℕ) → i < length spans → 1 ≤ (span_at spans i).size
  pub covering : (k : ℕ) → k < length a → (slice_index a k ≢ slice_index b k) → (i : ℕ) × ((i < length spans) × Covers w (span_at spans i) k)

-- both pages have the length of a page of width w
pub record Pages (w : ℕ) (a b : List ℕ) : Type 0 where
  pub alike : length a ≡ length b
  pub width : ((w ≡ 80) × (length a ≡ narrow_cells)) ⊎ ((w ≡ 132) × (length a ≡ wide_cells))

-- the paper's number of each answer of a judge: what it does not accept answers 3
abbrev pub verdict_number : Verdict → ℕ
verdict_number Verdict.Accepted = 0
verdict_number Verdict.NotAccepted = 3
verdict_number Verdict.WrongLength = 7

-- what the number of an answer says of two pages and a list of spans: accepted exactly if the sentence holds; "unlike or wrong lengths answer 7"
pub data SpansVerdict (a b : List ℕ) (spans : List Span) : ℕ → Type 0 where
  accepted : (w : ℕ) → Pages w a b → Accepts w a b spans → SpansVerdict a b spans (verdict_number Verdict.Accepted)
  refused : (w : ℕ) → Pages w a b → (Accepts w a b spans → ⊥) → SpansVerdict a b spans (verdict_number Verdict.NotAccepted)
  wrong : ((w : ℕ) → Pages w a b → ⊥) → SpansVerdict a b spans (verdict_number Verdict.WrongLength)

-- the spans that parallel lists of one length hold; lists of unlike lengths answer 7
abbrev pub spans_of : List ℕ → List ℕ → List ℕ → List Span
spans_of [] cs ls = []
spans_of (r ∷ rs) [] ls = []
spans_of (r ∷ rs) (c ∷ cs) [] = []
spans_of (r ∷ rs) (c ∷ cs) (l ∷ ls) = record { row = r; column = c; size = l } ∷ spans_of rs cs ls

pub data ListsVerdict (a b rows columns lengths : List ℕ) : ℕ → Type 0 where
  parallel : {r : ℕ} → length rows ≡ length columns → length rows ≡ length lengths → SpansVerdict a b (spans_of rows columns lengths) r
      → ListsVerdict a b rows columns lengths r
  unlike : (length rows ≡ length columns → length rows ≢ length lengths)
      → ListsVerdict a b rows columns lengths (verdict_number Verdict.WrongLength)
