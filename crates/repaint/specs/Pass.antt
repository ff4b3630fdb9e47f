-- The one pass over the pages by which the judge of spans finds its answer. Only proofs and the contracts of inner functions name it; that it finds
-- the verdict of Spans.antt is proved.
use Rattle.std.specs.Prelude.{ℕ, zero, suc, ◌+◌, ◌-◌, Bool, true, List, [], ◌∷◌, length, ◌==◌, nat_le, slice_index}
use Rattle.rules.specs.Cell.{pick, both}
use Rattle.rules.specs.Row.{height}
use Rattle.rules.specs.Fields.{page_width}
use Rattle.repaint.specs.declared.Span.{Span}
use Rattle.repaint.specs.declared.Verdict.{Verdict}
use Rattle.repaint.specs.Spans.{first, after}

-- the width of two pages of one length; 0 where they are none
unfoldable pub pages_width : List ℕ → List ℕ → ℕ
pages_width a b = pick (length a == length b) (page_width (length a)) 0

-- the n cells from k on are the same in both
unfoldable pub alike : List ℕ → List ℕ → ℕ → ℕ → Bool
alike a b k zero = true
alike a b k (suc n) = let t = alike a b (suc k) n in both (slice_index a k == slice_index b k) t

-- the cells from k up to e are the same in both, and k is not beyond e
unfoldable pub equal : List ℕ → List ℕ → ℕ → ℕ → Bool
equal a b k e = both (nat_le k e) (alike a b k (e - k))

-- a span that is not empty and lies within its row; none does at the width 0
unfoldable pub fits : ℕ → Span → Bool
fits w s = both (nat_le 1 s.row) (both (nat_le s.row height) (both (nat_le 1 s.column)
    (both (nat_le 1 s.size) (nat_le (s.column + s.size) (w + 1)))))

-- beyond every page: the place of a list that is refused
abbrev pub beyond : ℕ
beyond = 4000

-- `next` is the first cell not yet judged. A span that fits, with equal cells from `next` up to it, moves `next` past it
unfoldable pub turned : List ℕ → List ℕ → ℕ → Span → ℕ
turned a b next s =
    pick (fits (pages_width a b) s) (pick (equal a b next (first (pages_width a b) s)) (after (pages_width a b) s) beyond) beyond

unfoldable pub passed : List ℕ → List ℕ → ℕ → List Span → ℕ
passed a b next [] = next
passed a b next (s ∷ ss) = passed a b (turned a b next s) ss

unfoldable pub finished : List ℕ → List ℕ → ℕ → Verdict
finished a b next = pick (pages_width a b == 0) Verdict.WrongLength (pick (equal a b next (length a)) Verdict.Accepted Verdict.NotAccepted)
