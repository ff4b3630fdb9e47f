-- The proposer's spans are the longest stretches of differing cells in a row.
--     longest_spans     each of them is
-- Assumes nothing.
use Rattle.std.specs.Prelude.{◌≡◌, ℕ, zero, suc, ◌+◌, ◌%◌, ◌<◌, ◌≤◌, true, false, not, eqb, ltb, ◌⊎◌, List, [], ◌∷◌, map, length, get_or, drop}
use mathlib.Core.Path.{refl, sym, ap, subst, ◌∙◌}
use mathlib.Core.Bool.{false≢true}
use mathlib.Core.Logic.{inl, inr}
use native.Mathlib.Omega.{arith}
use borrow.Author.Tests.{ltb-true, ltb-false, eqb-true, eqb-false, not-true}
use Rattle.rules.specs.Cell.{pick, both}
use Rattle.rules.proofs.Tests.{pick_if, both_parts, either_way}
use Rattle.repaint.specs.declared.Span.{Span}
use Rattle.repaint.specs.Spans.{first, after, Covers, span_at}
use Rattle.repaint.specs.Proposal.{Stretch, stretch, ends_row, lengthened, differing, span_of}
use Rattle.repaint.specs.Theorems.{Longest}
use Rattle.repaint.proofs.Passing.{eq_or_not}
use Rattle.repaint.proofs.Verdicts.{Run, ended, more}
use Rattle.repaint.proofs.Stretching.{first_of, cell_differing, none_differing, differing_run}

-- a cell of a span but its first
shorter : (f g k at n : ℕ) → f ≡ at → g ≡ suc at → f ≤ k → k < f + suc n → (k ≡ at → ⊥) → (g ≤ k) × (k < g + n)
shorter f g k at n ef eg l h i = (omega (arith, i), omega arith)

module _ (a b : List ℕ) (size : length a ≡ 1920) where
  abbrev Same : ℕ → Type 0
  Same k = get_or a k 0 ≡ get_or b k 0

  abbrev Left : Span → Type 0
  Left s = (s.column ≡ 1) ⊎ ((k : ℕ) → k + 1 ≡ first 80 s → Same k)

  abbrev Right : Span → Type 0
  Right s = (s.column + s.size ≡ 81) ⊎ Same (after 80 s)

  record Ends (s : Span) : Type 0 where
    differs : (k : ℕ) → Covers 80 s k → Same k → ⊥
    right : Right s

  data AllLongest : List Span → Type 0 where
    nothing : AllLongest []
    each : {s : Span} {l : List Span} → Longest a b s → AllLongest l → AllLongest (s ∷ l)

  -- the cell before the first span is known once it is passed
  data Head (at : ℕ) : List Span → Type 0 where
    none : Head at []
    some : {s : Span} {l : List Span} → Ends s → (at < first 80 s → Left s) → AllLongest l → Head at (s ∷ l)

  head_back : (at : ℕ) {ss : List Span} → Same at → Head (suc at) ss → Head at ss
  head_back at e none = none
  head_back at e (some {s} n l r) = some n (λ h. by h (eq_or_not (suc at) (first 80 s))) r
    where
      by : at < first 80 s → (suc at ≡ first 80 s) ⊎ (suc at ≡ first 80 s → ⊥) → Left s
      by h (inl z) = inr (λ k q. let y : at ≡ k = omega (arith, z, q) in subst Same y e)
      by h (inr z) = l (omega (arith, h, z))

  head_alone : (at v : ℕ) (ss : List Span) → (Same at → ⊥) → (suc at % 80 ≡ 0) ⊎ Same (suc at) → AllLongest ss
      → Head at (span_of (stretch at (v ∷ [])) ∷ ss)
  head_alone at v ss n t r =
      let f = first_of (stretch at (v ∷ [])) in
      some (record { differs = λ k c e. n (subst Same (here k c) e); right = right t }) (λ h. absurd (omega (arith, f, h))) r
    where
      here : (k : ℕ) → Covers 80 (span_of (stretch at (v ∷ []))) k → k ≡ at
      here k c = omega (arith, first_of (stretch at (v ∷ [])), c.0, c.1)

      right : (suc at % 80 ≡ 0) ⊎ Same (suc at) → Right (span_of (stretch at (v ∷ [])))
      right (inl z) = inl (omega (arith, z))
      right (inr z) =
          let e : suc at ≡ after 80 (span_of (stretch at (v ∷ []))) = omega (arith, first_of (stretch at (v ∷ []))) in
          inr (subst Same e z)

  head_joined : (at v : ℕ) (s : Stretch) (ss : List Span) → s.start ≡ suc at → (suc at % 80 ≡ 0 → ⊥) → (Same at → ⊥) → Head (suc at) (span_of s ∷ ss)
      → Head at (span_of (stretch at (v ∷ s.cells)) ∷ ss)
  head_joined at v s ss q z n (some e l r) =
      let f = first_of (stretch at (v ∷ s.cells)) in
      some (record { differs = differs; right = right e.right }) (λ h. absurd (omega (arith, f, h))) r
    where
      covered : (k : ℕ) → Covers 80 (span_of (stretch at (v ∷ s.cells))) k → (k ≡ at → ⊥) → Covers 80 (span_of s) k
      covered k c i = shorter _ _ k at (length s.cells) (first_of (stretch at (v ∷ s.cells))) (first_of s ∙ q) c.0 c.1 i

      differs : (k : ℕ) → Covers 80 (span_of (stretch at (v ∷ s.cells))) k → Same k → ⊥
      differs k c w = by (eq_or_not k at)
        where
          by : (k ≡ at) ⊎ (k ≡ at → ⊥) → ⊥
          by (inl i) = n (subst Same i w)
          by (inr i) = e.differs k (covered k c i) w

      right : Right (span_of s) → Right (span_of (stretch at (v ∷ s.cells)))
      right (inl w) =
          let c : suc at % 80 ≡ suc (at % 80) = omega (arith, z) in
          let d : suc at % 80 + 1 + length s.cells ≡ 81 = rw q at w in
          inl (omega (arith, c, d))
      right (inr w) =
          let y : after 80 (span_of s)
          ≡ after 80 (span_of (stretch at (v ∷ s.cells))) = omega (arith, first_of (stretch at (v ∷ s.cells)), first_of s, q) in
          inr (subst Same y w)

  -- a first span that begins later, or first in its row, is longest too
  all_of : (at : ℕ) {s : Span} {ss : List Span} → (at < first 80 s) ⊎ (s.column ≡ 1) → Head at (s ∷ ss) → AllLongest (s ∷ ss)
  all_of at (inl h) (some e l r) = each (record { differs = e.differs; left = l h; right = e.right }) r
  all_of at (inr h) (some e l r) = each (record { differs = e.differs; left = inl h; right = e.right }) r

  -- the cell behind one after which no span begins in its row
  next_none : (at : ℕ) → at < 1920 → Run 80 a b (suc at) [] → (suc at % 80 ≡ 0) ⊎ Same (suc at)
  next_none at h (ended l x) = by (either_way (ltb (suc at) 1920))
    where
      by : (ltb (suc at) 1920 ≡ true) ⊎ (ltb (suc at) 1920 ≡ false) → (suc at % 80 ≡ 0) ⊎ Same (suc at)
      by (inl e) = inr (x (suc at) (omega arith) (omega (arith, size, ltb-true (suc at) 1920 e)))
      by (inr e) = let k : suc at ≡ 1920 = omega (arith, h, ltb-false (suc at) 1920 e) in inl (rw k)

  -- where the next span begins
  data Behind (at : ℕ) (s : Stretch) : Type 0 where
    later : suc at < first 80 (span_of s) → Same (suc at) → Behind at s
    turned : suc at % 80 ≡ 0 → (suc at < first 80 (span_of s)) ⊎ ((span_of s).column ≡ 1) → Behind at s

  behind : (at : ℕ) (s : Stretch) (ss : List Span) → both (eqb s.start (suc at)) (not (ends_row at)) ≡ false → Run 80 a b (suc at) (span_of s ∷ ss)
      → Behind at s
  behind at s ss t (more f l x r) = by (either_way (eqb s.start (suc at))) (either_way (ends_row at))
    where
      by : (eqb s.start (suc at) ≡ true) ⊎ (eqb s.start (suc at) ≡ false) → (ends_row at ≡ true) ⊎ (ends_row at ≡ false) → Behind at s
      by (inr n) z =
          let k : suc at < first 80 (span_of s) = omega (arith, first_of s, l, eqb-false s.start (suc at) n) in
          later k (x (suc at) (omega arith) k)
      by (inl n) (inl z) =
          let c : suc at % 80 ≡ 0 = eqb-true (suc at % 80) 0 z in
          let q : s.start ≡ suc at = eqb-true s.start (suc at) n in
          let d : s.start % 80 ≡ 0 = ap (λ (k : ℕ). k % 80) q ∙ c in
          turned c (inr (omega (arith, d)))
      by (inl n) (inr z) = absurd (false≢true (sym t ∙ rw (n, z)))

  head_apart : (at v : ℕ) (s : Stretch) (ss : List Span) → (Same at → ⊥) → Behind at s → Head (suc at) (span_of s ∷ ss)
      → Head at (span_of (stretch at (v ∷ [])) ∷ span_of s ∷ ss)
  head_apart at v s ss n (later h e) r = head_alone at v (span_of s ∷ ss) n (inr e) (all_of (suc at) (inl h) r)
  head_apart at v s ss n (turned z w) r = head_alone at v (span_of s ∷ ss) n (inl z) (all_of (suc at) w r)

  head_lengthened : (at v : ℕ) (t : List Stretch) → at < 1920 → (Same at → ⊥) → Run 80 a b (suc at) (map span_of t) → Head (suc at) (map span_of t)
      → Head at (map span_of (lengthened at v t))
  unfolding lengthened
  head_lengthened at v [] h n u r = head_alone at v [] n (next_none at h u) nothing
  head_lengthened at v (s ∷ l) h n u r =
      pick_if (λ (t : List Stretch). Head at (map span_of t)) (both (eqb s.start (suc at)) (not (ends_row at)))
      (λ t.
      let k = both_parts (eqb s.start (suc at)) _ t in
      head_joined at v s (map span_of l) (eqb-true s.start (suc at) k.0) (eqb-false (suc at % 80) 0 (not-true _ k.1)) n r)
      (λ t. head_apart at v s (map span_of l) n (behind at s (map span_of l) t u) r)

  head_cell : (at : ℕ) (t : List Stretch) → at < 1920 → Run 80 a b (suc at) (map span_of t) → Head (suc at) (map span_of t)
      → Head at (map span_of (pick (eqb (get_or a at 0) (get_or b at 0)) t (lengthened at (get_or b at 0) t)))
  head_cell at t h u r =
      pick_if (λ (t : List Stretch). Head at (map span_of t)) (eqb (get_or a at 0) (get_or b at 0)) (λ e. head_back at (eqb-true _ _ e) r)
      (λ e. head_lengthened at (get_or b at 0) t h (eqb-false _ _ e) u r)

  module _ (alike : length a ≡ length b) where
    differing_head : (n at : ℕ) → at + n ≡ 1920 → Head at (map span_of (differing at (drop at a) (drop at b)))
    differing_head zero at e = subst (λ (t : List Stretch). Head at (map span_of t)) (sym (none_differing a b size alike at (omega arith))) none
    differing_head (suc n) at e =
        let r = differing_head n (suc at) (omega arith) in
        let u = differing_run a b size alike n (suc at) (omega arith) in
        subst (λ (t : List Stretch). Head at (map span_of t)) (sym (cell_differing a b size alike at (omega arith)))
        (head_cell at (differing (suc at) (drop (suc at) a) (drop (suc at) b)) (omega arith) u r)

    all_first : (ss : List Span) → Run 80 a b 0 ss → Head 0 ss → AllLongest ss
    all_first [] u none = nothing
    all_first (s ∷ ss) (more f l x q) r = all_of 0 (by (eq_or_not (first 80 s) 0)) r
      where
        by : (first 80 s ≡ 0) ⊎ (first 80 s ≡ 0 → ⊥) → (0 < first 80 s) ⊎ (s.column ≡ 1)
        by (inl z) = inr (omega (arith, z, f.left))
        by (inr z) = inl (omega (arith, z))

    at_index : (ss : List Span) (i : ℕ) → i < length ss → AllLongest ss → Longest a b (span_at ss i)
    at_index [] i h r = absurd (omega arith)
    at_index (s ∷ ss) zero h (each x r) = x
    at_index (s ∷ ss) (suc i) h (each x r) = at_index ss i (omega arith) r

    pub longest_spans : (i : ℕ) → i < length (map span_of (differing 0 a b)) → Longest a b (span_at (map span_of (differing 0 a b)) i)
    longest_spans i h = at_index (map span_of (differing 0 a b)) i h
        (all_first _ (differing_run a b size alike 1920 0 refl) (differing_head 1920 0 refl))
