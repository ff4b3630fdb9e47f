-- What the exported calls of repainting promise (document 02, A12): those of the crate `repaint`, for the personality that the number names. Another
-- number answers 7. Spans go out as a flat list of numbers, three for each.
use Rattle.std.specs.Prelude.{◌≡◌, true, false, List, [], ◌∷◌, ◌++◌, ℕ, ◌/◌, ◌≤◌, min, leb, eqb, length, take}
use Rattle.rules.specs.declared.Personality.{Personality}
use Rattle.rules.specs.Cell.{pick, both}
use Rattle.rules.specs.Room.{over}
use Rattle.rules.specs.Fields.{is_page}
use Rattle.repaint.specs.declared.ProposeResult.{ProposeResult}
use Rattle.repaint.specs.declared.Span.{Span}
use Rattle.repaint.specs.Spans.{SpansVerdict}
use Rattle.repaint.specs.Bytes.{BytesVerdict}
use Rattle.repaint.specs.Proposal.{paint_bytes, served}
use Rattle.repaint.specs.Theorems.{spans_for}
use Rattle.wy50.specs.Raw.{is_personality, personality_at}

-- ---- the judges

-- the verdict on spans is that of the crate `repaint`; so is that on bytes, for the personality that v names
pub data RawBytesVerdict (v : ℕ) (a b bytes : List ℕ) : ℕ → Type 0 where
  named : {r : ℕ} → is_personality v ≡ true → BytesVerdict (personality_at v) a b bytes r → RawBytesVerdict v a b bytes r
  unnamed : is_personality v ≡ false → RawBytesVerdict v a b bytes 7

-- ---- the proposer

-- row, column and length of each span in turn; and the spans that a list of numbers holds
unfoldable pub span_numbers : List Span → List ℕ
span_numbers [] = []
span_numbers (s ∷ l) = s.row ∷ s.column ∷ s.size ∷ span_numbers l

unfoldable pub spans_in : List ℕ → List Span
spans_in [] = []
spans_in (r ∷ []) = []
spans_in (r ∷ c ∷ []) = []
spans_in (r ∷ c ∷ n ∷ l) = record { row = r; column = c; size = n } ∷ spans_in l

-- the answer, how many spans and bytes there are, and the two lent lists
pub record RawProposed : Type 0 where
  pub answer : ℕ
  pub spans : ℕ
  pub bytes : ℕ
  pub numbers : List ℕ
  pub out : List ℕ

abbrev pub unproposed : ℕ → List ℕ → List ℕ → RawProposed
unproposed n numbers out = record { answer = n; spans = 0; bytes = 0; numbers = numbers; out = out }

abbrev pub proposed : List Span → List ℕ → List ℕ → List ℕ → RawProposed
proposed spans bytes numbers out = record {
  answer = 0;
  spans = length spans;
  bytes = length bytes;
  numbers = over (span_numbers spans) numbers;
  out = over bytes out;
}

-- "in the order 7, 3, 6, nothing written"
unfoldable pub numbers_rule : Personality → List ℕ → List ℕ → List ℕ → List ℕ → RawProposed
numbers_rule m a b numbers out =
    let spans = spans_for a b in
    let bytes = paint_bytes a b in
    pick (both (eqb (length a) (length b)) (is_page (length a)))
    (pick (served m a b)
    (pick (both (leb (length (span_numbers spans)) (length numbers)) (leb (length bytes) (length out)))
    (proposed spans bytes numbers out) (unproposed 6 numbers out))
    (unproposed 3 numbers out)) (unproposed 7 numbers out)

unfoldable pub raw_propose : ℕ → List ℕ → List ℕ → List ℕ → List ℕ → RawProposed
raw_propose v a b numbers out = pick (is_personality v) (numbers_rule (personality_at v) a b numbers out) (unproposed 7 numbers out)

-- what a call gives that leaves these lists
pub record RawProposes (o : RawProposed) (r : ProposeResult) (x y : List ℕ) : Type 0 where
  pub answer : r.answer ≡ o.answer
  pub spans : r.spans ≡ o.spans
  pub bytes : r.bytes ≡ o.bytes
  pub numbers : x ≡ o.numbers
  pub out : y ≡ o.out

-- how many spans the call makes for a room of n numbers: as many as fit, of the 960 that there are at most. Only inner contracts name it
abbrev pub span_room : ℕ → ℕ
span_room n = min (n / 3) 960

-- ---- the calls together, the statement

abbrev pub with_rest : List ℕ → RawProposed → RawProposed
with_rest rest o = record { answer = o.answer; spans = o.spans; bytes = o.bytes; numbers = o.numbers ++ rest; out = o.out }

pub record Repainting : Type 0 where
  -- each judge has one answer, and to what a caller reads out of the rooms, whatever stands behind it, both answer 0
  pub spans_one : (a b : List ℕ) (spans : List Span) (r s : ℕ) → SpansVerdict a b spans r → SpansVerdict a b spans s → r ≡ s
  pub bytes_one : (v : ℕ) (a b bytes : List ℕ) (r s : ℕ) → RawBytesVerdict v a b bytes r → RawBytesVerdict v a b bytes s → r ≡ s
  pub spans_accepted : (v : ℕ) (a b numbers out : List ℕ) → let o = raw_propose v a b numbers out in o.answer ≡ 0
      → SpansVerdict a b (take o.spans (spans_in o.numbers)) 0
  pub bytes_accepted : (v : ℕ) (a b numbers out : List ℕ) → let o = raw_propose v a b numbers out in o.answer ≡ 0
      → RawBytesVerdict v a b (take o.bytes o.out) 0
  -- with room for 960 spans and 7,772 bytes nothing that is served is refused
  pub roomy : (v : ℕ) (a b numbers out : List ℕ) → is_personality v ≡ true → served (personality_at v) a b ≡ true → 2880 ≤ length numbers
      → 7772 ≤ length out
      → (raw_propose v a b numbers out).answer ≡ 0
  -- and room beyond that for spans changes nothing
  pub beyond : (v : ℕ) (a b numbers rest out : List ℕ) → 2880 ≤ length numbers
      → raw_propose v a b (numbers ++ rest) out ≡ with_rest rest (raw_propose v a b numbers out)
