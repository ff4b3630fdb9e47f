-- The judges' answers.
--     judging     the statement of specs/Theorems
-- Assumes nothing.
use Rattle.std.specs.Prelude.{◌≡◌, ℕ, suc, Bool, true, false, List, [], ◌∷◌, map, length}
use mathlib.Core.Path.{refl, sym, ap, subst, ◌∙◌}
use mathlib.Core.Logic.{inl}
use native.Mathlib.Omega.{arith}
use Rattle.rules.specs.declared.Personality.{Personality}
use Rattle.rules.specs.Row.{columns}
use Rattle.repaint.specs.declared.Span.{Span}
use Rattle.repaint.specs.declared.Verdict.{Verdict}
use Rattle.repaint.specs.Spans.{Pages, Accepts, verdict_number, SpansVerdict, spans_of, ListsVerdict}
use Rattle.repaint.specs.Bytes.{AcceptsBytes, BytesVerdict}
use Rattle.repaint.specs.Proposal.{Stretch, span_of, stretches, rows_of, columns_of, lengths_of, paint_bytes, served}
use Rattle.repaint.specs.Theorems.{Judging}
use Rattle.repaint.proofs.Passing.{pages_width_lem}
use Rattle.repaint.proofs.Painting.{served_parts}
use Rattle.repaint.proofs.Proposing.{proposing}

one_width : (a b : List ℕ) (v w : ℕ) → Pages v a b → Pages w a b → v ≡ w
one_width a b v w p q = pages_width_lem v a b p ∙ sym (pages_width_lem w a b q)

one_page : (v w : Bool) → columns v ≡ columns w → v ≡ w
unfolding columns
one_page true true e = refl
one_page true false e = absurd (omega (arith, e))
one_page false true e = absurd (omega (arith, e))
one_page false false e = refl

one_verdict : (v w : Verdict) → verdict_number v ≡ verdict_number w → v ≡ w
one_verdict Verdict.Accepted Verdict.Accepted e = refl
one_verdict Verdict.Accepted Verdict.NotAccepted e = absurd (omega (arith, e))
one_verdict Verdict.Accepted Verdict.WrongLength e = absurd (omega (arith, e))
one_verdict Verdict.NotAccepted Verdict.Accepted e = absurd (omega (arith, e))
one_verdict Verdict.NotAccepted Verdict.NotAccepted e = refl
one_verdict Verdict.NotAccepted Verdict.WrongLength e = absurd (omega (arith, e))
one_verdict Verdict.WrongLength Verdict.Accepted e = absurd (omega (arith, e))
one_verdict Verdict.WrongLength Verdict.NotAccepted e = absurd (omega (arith, e))
one_verdict Verdict.WrongLength Verdict.WrongLength e = refl

spans_one : (a b : List ℕ) (l : List Span) {r s : ℕ} → SpansVerdict a b l r → SpansVerdict a b l s → r ≡ s
spans_one a b l (SpansVerdict.accepted w p x) (SpansVerdict.accepted v q y) = refl
spans_one a b l (SpansVerdict.accepted w p x) (SpansVerdict.refused v q y) = absurd (y (subst (λ (k : ℕ). Accepts k a b l) (one_width a b w v p q) x))
spans_one a b l (SpansVerdict.accepted w p x) (SpansVerdict.wrong n) = absurd (n w p)
spans_one a b l (SpansVerdict.refused w p x) (SpansVerdict.accepted v q y) = absurd (x (subst (λ (k : ℕ). Accepts k a b l) (one_width a b v w q p) y))
spans_one a b l (SpansVerdict.refused w p x) (SpansVerdict.refused v q y) = refl
spans_one a b l (SpansVerdict.refused w p x) (SpansVerdict.wrong n) = absurd (n w p)
spans_one a b l (SpansVerdict.wrong n) (SpansVerdict.accepted v q y) = absurd (n v q)
spans_one a b l (SpansVerdict.wrong n) (SpansVerdict.refused v q y) = absurd (n v q)
spans_one a b l (SpansVerdict.wrong n) (SpansVerdict.wrong k) = refl

lists_one : (a b x y z : List ℕ) {r s : ℕ} → ListsVerdict a b x y z r → ListsVerdict a b x y z s → r ≡ s
lists_one a b x y z (ListsVerdict.parallel e f v) (ListsVerdict.parallel g h w) = spans_one a b (spans_of x y z) v w
lists_one a b x y z (ListsVerdict.parallel e f v) (ListsVerdict.unlike n) = absurd (n e f)
lists_one a b x y z (ListsVerdict.unlike n) (ListsVerdict.parallel e f v) = absurd (n e f)
lists_one a b x y z (ListsVerdict.unlike n) (ListsVerdict.unlike k) = refl

bytes_one : (m : Personality) (a b l : List ℕ) {r s : ℕ} → BytesVerdict m a b l r → BytesVerdict m a b l s → r ≡ s
bytes_one m a b l (BytesVerdict.accepted w p x) (BytesVerdict.accepted v q y) = refl
bytes_one m a b l (BytesVerdict.accepted w p x) (BytesVerdict.refused v q y) =
    absurd (y (subst (λ (k : Bool). AcceptsBytes m k a b l) (one_page w v (one_width a b (columns w) (columns v) p q)) x))
bytes_one m a b l (BytesVerdict.accepted w p x) (BytesVerdict.wrong n) = absurd (n (columns w) p)
bytes_one m a b l (BytesVerdict.refused w p x) (BytesVerdict.accepted v q y) =
    absurd (x (subst (λ (k : Bool). AcceptsBytes m k a b l) (one_page v w (one_width a b (columns v) (columns w) q p)) y))
bytes_one m a b l (BytesVerdict.refused w p x) (BytesVerdict.refused v q y) = refl
bytes_one m a b l (BytesVerdict.refused w p x) (BytesVerdict.wrong n) = absurd (n (columns w) p)
bytes_one m a b l (BytesVerdict.wrong n) (BytesVerdict.accepted v q y) = absurd (n (columns v) q)
bytes_one m a b l (BytesVerdict.wrong n) (BytesVerdict.refused v q y) = absurd (n (columns v) q)
bytes_one m a b l (BytesVerdict.wrong n) (BytesVerdict.wrong k) = refl

-- the three lists hold the spans
lists_hold : (l : List Stretch) → spans_of (rows_of l) (columns_of l) (lengths_of l) ≡ map span_of l
lists_hold [] = refl
lists_hold (s ∷ l) = rw (lists_hold l)

same_rows : (l : List Stretch) → length (rows_of l) ≡ length (columns_of l)
same_rows [] = refl
same_rows (s ∷ l) = ap suc (same_rows l)

same_lengths : (l : List Stretch) → length (rows_of l) ≡ length (lengths_of l)
same_lengths [] = refl
same_lengths (s ∷ l) = ap suc (same_lengths l)

module _ (m : Personality) (a b : List ℕ) (e : served m a b ≡ true) where
  pages : Pages 80 a b
  pages = let s = served_parts m a b e in record { alike = s.from ∙ sym s.to; width = inl (refl, s.from) }

  lists_accepted : ListsVerdict a b (rows_of (stretches a b)) (columns_of (stretches a b)) (lengths_of (stretches a b)) 0
  lists_accepted =
      let l = stretches a b in
      ListsVerdict.parallel (same_rows l) (same_lengths l)
      (subst (λ (t : List Span). SpansVerdict a b t 0) (sym (lists_hold l)) (SpansVerdict.accepted 80 pages (proposing.spans_accepted m a b e)))

  narrow : Pages (columns false) a b
  unfolding columns
  narrow = pages

  bytes_accepted : BytesVerdict m a b (paint_bytes a b) 0
  bytes_accepted = BytesVerdict.accepted false narrow (proposing.bytes_accepted m a b e)

pub judging : Judging
judging = record {
  one_verdict = one_verdict;
  spans_one = λ a b l r s x y. spans_one a b l x y;
  lists_one = λ a b rows columns lengths r s x y. lists_one a b rows columns lengths x y;
  bytes_one = λ m a b l r s x y. bytes_one m a b l x y;
  lists_accepted = lists_accepted;
  bytes_accepted = bytes_accepted;
}
