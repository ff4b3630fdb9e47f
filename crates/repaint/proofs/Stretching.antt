-- The proposer's spans: the judge of spans accepts them, and how many there can be, with their bytes.
--     differing_run     the pass of the judge goes through
--     few               at most so many spans and bytes from a cell on
-- Assumes nothing.
use Rattle.std.specs.Prelude.{◌≡◌, ℕ, zero, suc, ◌+◌, ◌-◌, ◌*◌, ◌/◌, ◌%◌, ◌<◌, ◌≤◌, Bool, true, false, not, eqb, ltb, ◌⊎◌, List, [], ◌∷◌, ◌++◌, map, length, get_or, drop}
use mathlib.Core.Path.{refl, sym, subst, ◌∙◌}
use mathlib.Core.Bool.{false≢true}
use mathlib.Core.Logic.{inl, inr}
use native.Mathlib.Omega.{arith}
use lib.ListN.{drop_of_length-le, length-append}
use lib.Seq.{drop-cons}
use borrow.Author.Tests.{ltb-true, ltb-false, eqb-true, eqb-false, eq-eqb, not-true}
use Rattle.rules.specs.Cell.{pick, both}
use Rattle.rules.proofs.Tests.{pick_if, both_parts, either_way}
use Rattle.repaint.specs.declared.Span.{Span}
use Rattle.repaint.specs.Spans.{first, after}
use Rattle.repaint.specs.Proposal.{Stretch, stretch, ends_row, lengthened, differing, span_of, shown_as, cell_bytes, cells_bytes, last_shown}
use Rattle.repaint.specs.Proposal.{start_bytes, stretch_bytes, stretches_bytes}
use Rattle.repaint.proofs.Passing.{Fits, eq_or_not}
use Rattle.repaint.proofs.Verdicts.{Alike, Run, ended, more}

-- a place's row and column lead back to it
pub first_of : (s : Stretch) → first 80 (span_of s) ≡ s.start
first_of s = omega arith

single_fits : (at v : ℕ) → at < 1920 → Fits 80 (span_of (stretch at (v ∷ [])))
single_fits at v h = record { top = omega arith; bottom = omega arith; left = omega arith; some = omega arith; right = omega arith }

-- ---- the pass goes through

module _ (a b : List ℕ) (size : length a ≡ 1920) where
  alike_back : (k e : ℕ) → get_or a k 0 ≡ get_or b k 0 → Alike a b (suc k) e → Alike a b k e
  alike_back k e q x j l m = by (eq_or_not k j)
    where
      by : (k ≡ j) ⊎ (k ≡ j → ⊥) → get_or a j 0 ≡ get_or b j 0
      by (inl z) = rw z at q
      by (inr n) = x j (omega arith) m

  run_back : (k : ℕ) {ss : List Span} → k < 1920 → get_or a k 0 ≡ get_or b k 0 → Run 80 a b (suc k) ss → Run 80 a b k ss
  run_back k h e (ended l x) = ended {k = k} (omega (arith, size)) (alike_back k (length a) e x)
  run_back k h e (more {s = s} f l x r) = more {k = k} {s = s} f (omega arith) (alike_back k (first 80 s) e x) r

  run_alone : (at v : ℕ) (ss : List Span) → at < 1920 → Run 80 a b (suc at) ss → Run 80 a b at (span_of (stretch at (v ∷ [])) ∷ ss)
  run_alone at v ss h r =
      let f = first_of (stretch at (v ∷ [])) in
      let e : after 80 (span_of (stretch at (v ∷ []))) ≡ suc at = omega (arith, f) in
      more {k = at} {s = span_of (stretch at (v ∷ []))} (single_fits at v h) (omega (arith, f)) (λ j x y. absurd (omega (arith, f, x, y)))
      (subst (λ (k : ℕ). Run 80 a b k ss) (sym e) r)

  run_joined : (at v : ℕ) (s : Stretch) (ss : List Span) → s.start ≡ suc at → (suc at % 80 ≡ 0 → ⊥) → Run 80 a b (suc at) (span_of s ∷ ss)
      → Run 80 a b at (span_of (stretch at (v ∷ s.cells)) ∷ ss)
  run_joined at v s ss q n (more f l x r) =
      let z = first_of (stretch at (v ∷ s.cells)) in
      let y = first_of s in
      let e : after 80 (span_of (stretch at (v ∷ s.cells))) ≡ after 80 (span_of s) = omega (arith, z, y, q) in
      let row : suc at / 80 ≡ at / 80 = omega (arith, n) in
      let column : suc at % 80 ≡ suc (at % 80) = omega (arith, n) in
      let low : suc at / 80 + 1 ≤ 24 = rw q at f.bottom in
      let right : suc at % 80 + 1 + length s.cells ≤ 81 = rw q at f.right in
      more {k = at} {s = span_of (stretch at (v ∷ s.cells))}
      (record {
        top = omega arith;
        bottom = omega (arith, low, row);
        left = omega arith;
        some = omega arith;
        right = omega
            (arith, right, column);
      })
      (omega (arith, z)) (λ j u w. absurd (omega (arith, z, u, w))) (subst (λ (k : ℕ). Run 80 a b k ss) (sym e) r)

  run_lengthened : (at v : ℕ) (t : List Stretch) → at < 1920 → Run 80 a b (suc at) (map span_of t) → Run 80 a b at (map span_of (lengthened at v t))
  unfolding lengthened
  run_lengthened at v [] h r = run_alone at v [] h r
  run_lengthened at v (s ∷ l) h r =
      pick_if (λ (t : List Stretch). Run 80 a b at (map span_of t)) (both (eqb s.start (suc at)) (not (ends_row at)))
      (λ t.
      let k = both_parts (eqb s.start (suc at)) _ t in
      run_joined at v s (map span_of l) (eqb-true s.start (suc at) k.0) (eqb-false (suc at % 80) 0 (not-true _ k.1)) r)
      (λ t. run_alone at v (map span_of (s ∷ l)) h r)

  run_cell : (at x y : ℕ) (t : List Stretch) → at < 1920 → x ≡ get_or a at 0 → y ≡ get_or b at 0 → Run 80 a b (suc at) (map span_of t)
      → Run 80 a b at (map span_of (pick (eqb x y) t (lengthened at y t)))
  run_cell at x y t h ex ey r =
      pick_if (λ (t : List Stretch). Run 80 a b at (map span_of t)) (eqb x y) (λ e. run_back at h (sym ex ∙ (eqb-true x y e ∙ ey)) r)
      (λ e. run_lengthened at y t h r)

  module _ (alike : length a ≡ length b) where
    pub cell_differing : (at : ℕ) → at < 1920 → differing at (drop at a) (drop at b)
        ≡ pick (eqb (get_or a at 0) (get_or b at 0)) (differing (suc at) (drop (suc at) a) (drop (suc at) b))
        (lengthened at (get_or b at 0) (differing (suc at) (drop (suc at) a) (drop (suc at) b)))
    unfolding differing
    cell_differing at h = rw (drop-cons a at 0 (omega (arith, size)), drop-cons b at 0 (omega (arith, size, alike)))

    pub none_differing : (at : ℕ) → 1920 ≤ at → differing at (drop at a) (drop at b) ≡ []
    unfolding differing
    none_differing at h = rw (drop_of_length-le a {i = at} (omega (arith, size)))

    pub differing_run : (n at : ℕ) → at + n ≡ 1920 → Run 80 a b at (map span_of (differing at (drop at a) (drop at b)))
    differing_run zero at e =
        subst (λ (t : List Stretch). Run 80 a b at (map span_of t)) (sym (none_differing at (omega arith)))
        (ended {k = at} (omega (arith, size)) (λ j x y. absurd (omega (arith, size, x, y))))
    differing_run (suc n) at e =
        let r = differing_run n (suc at) (omega arith) in
        subst (λ (t : List Stretch). Run 80 a b at (map span_of t)) (sym (cell_differing at (omega arith)))
        (run_cell at (get_or a at 0) (get_or b at 0) (differing (suc at) (drop (suc at) a) (drop (suc at) b)) (omega arith) refl refl r)

-- ---- how many

cell_few : (a v : ℕ) → length (cell_bytes a v) ≤ 4
unfolding cell_bytes
cell_few a v = pick_if (λ (l : List ℕ). length l ≤ 4) (eqb (shown_as v) a) (λ e. omega arith) (λ e. omega arith)

bytes_joined : (a at v : ℕ) (s : Stretch) (l : List Stretch)
    → length (stretches_bytes a (stretch at (v ∷ s.cells) ∷ l)) ≡ length (cell_bytes a v) + length (stretches_bytes (shown_as v) (s ∷ l))
unfolding stretches_bytes stretch_bytes start_bytes cells_bytes last_shown
bytes_joined a at v s l =
    let c = cell_bytes a v in
    let d = cells_bytes (shown_as v) s.cells in
    let r = stretches_bytes (last_shown (shown_as v) s.cells) l in
    omega (arith, length-append (c ++ d) r, length-append c d, length-append d r)

bytes_apart : (a at v : ℕ) (t : List Stretch)
    → length (stretches_bytes a (stretch at (v ∷ []) ∷ t)) ≡ 4 + length (cell_bytes a v) + length (stretches_bytes (shown_as v) t)
unfolding stretches_bytes stretch_bytes start_bytes cells_bytes last_shown
bytes_apart a at v t =
    let c = cell_bytes a v in
    let r = stretches_bytes (shown_as v) t in
    omega (arith, length-append (c ++ []) r, length-append {A = ℕ} c [])

-- the bytes that the cells from a place on can want: 4 for each, 4 more for each row, and 4 less in all, for the last cell is equal
abbrev pub limit : ℕ → ℕ
limit at = 324 * (23 - at / 80) + 4 * (80 - at % 80)

limit_next : (at : ℕ) → suc at < 1920 → limit (suc at) + 4 ≤ limit at
limit_next at h = by (either_way (ltb (at % 80) 79))
  where
    by : (ltb (at % 80) 79 ≡ true) ⊎ (ltb (at % 80) 79 ≡ false) → limit (suc at) + 4 ≤ limit at
    by (inl e) =
        let k = ltb-true (at % 80) 79 e in
        let r : suc at / 80 ≡ at / 80 = omega arith in
        let c : suc at % 80 ≡ suc (at % 80) = omega arith in
        rw (r, c) (omega arith)
    by (inr e) =
        let k = ltb-false (at % 80) 79 e in
        let r : suc at / 80 ≡ suc (at / 80) = omega arith in
        let c : suc at % 80 ≡ 0 = omega arith in
        let d : at % 80 ≡ 79 = omega arith in
        rw (r, c, d) (omega arith)

limit_turn : (at : ℕ) → suc at < 1920 → suc at % 80 ≡ 0 → limit (suc at) + 8 ≤ limit at
limit_turn at h c =
    let r : suc at / 80 ≡ suc (at / 80) = omega arith in
    let d : at % 80 ≡ 79 = omega arith in
    rw (r, c, d) (omega arith)

limit_some : (at : ℕ) → suc at < 1920 → 8 ≤ limit at
limit_some at h = omega arith

-- a stretch begins at the cell
unfoldable pub begins : ℕ → List Stretch → Bool
begins at [] = false
begins at (s ∷ l) = eqb s.start at

pub record Few (at : ℕ) (t : List Stretch) : Type 0 where
  pub all : 2 * length t ≤ 1920 - at + (1920 - at) % 2
  pub later : begins at t ≡ false → 2 * length t ≤ 1920 - suc at + (1920 - suc at) % 2
  pub bytes : (a : ℕ) → length (stretches_bytes a t) ≤ limit at
  pub less : begins at t ≡ false → (a : ℕ) → length (stretches_bytes a t) + 4 ≤ limit at

few_none : (at : ℕ) → at < 1920 → Few at []
unfolding stretches_bytes
few_none at h = record { all = omega arith; later = λ e. omega arith; bytes = λ a. omega arith; less = λ e a. omega arith }

few_equal : (at : ℕ) (t : List Stretch) → suc at < 1920 → Few (suc at) t → Few at t
few_equal at t h f = record {
  all = omega (arith, f.all);
  later = λ e. f.all;
  bytes = λ a. omega (arith, f.bytes a, limit_next at h);
  less = λ e a. omega (arith, f.bytes a, limit_next at h);
}

few_begun : (at : ℕ) (t : List Stretch) → begins at t ≡ true → 2 * length t ≤ 1920 - at + (1920 - at) % 2
    → ((a : ℕ) → length (stretches_bytes a t) ≤ limit at)
    → Few at t
few_begun at t b n w = record { all = n; later = λ e. absurd (false≢true (sym e ∙ b)); bytes = w; less = λ e. absurd (false≢true (sym e ∙ b)) }

few_alone : (at v : ℕ) → suc at < 1920 → Few at (stretch at (v ∷ []) ∷ [])
few_alone at v h =
    few_begun at _ (unfold begins in eq-eqb at at refl) (omega arith)
    (λ a. omega (arith, bytes_apart a at v [], empty (shown_as v), cell_few a v, limit_some at h))
  where
    empty : (a : ℕ) → length (stretches_bytes a []) ≡ 0
    empty a = unfold stretches_bytes in refl

few_joined : (at v : ℕ) (s : Stretch) (l : List Stretch) → suc at < 1920 → Few (suc at) (s ∷ l) → Few at (stretch at (v ∷ s.cells) ∷ l)
few_joined at v s l h f =
    few_begun at _ (unfold begins in eq-eqb at at refl) (omega (arith, f.all))
    (λ a. omega (arith, f.bytes (shown_as v), bytes_joined a at v s l, cell_few a v, limit_next at h))

few_apart : (at v : ℕ) (s : Stretch) (l : List Stretch) → suc at < 1920 → both (eqb s.start (suc at)) (not (ends_row at)) ≡ false
    → Few (suc at) (s ∷ l)
    → Few at (stretch at (v ∷ []) ∷ (s ∷ l))
few_apart at v s l h e f = by (either_way (eqb s.start (suc at))) (either_way (ends_row at))
  where
    by : (eqb s.start (suc at) ≡ true) ⊎ (eqb s.start (suc at) ≡ false) → (ends_row at ≡ true) ⊎ (ends_row at ≡ false)
        → Few at (stretch at (v ∷ []) ∷ (s ∷ l))
    by (inr n) z =
        few_begun at _ (unfold begins in eq-eqb at at refl) (omega (arith, f.later (unfold begins in n)))
        (λ a. omega (arith, f.less (unfold begins in n) (shown_as v), bytes_apart a at v (s ∷ l), cell_few a v, limit_next at h))
    by (inl n) (inl z) =
        let c : suc at % 80 ≡ 0 = eqb-true (suc at % 80) 0 z in
        few_begun at _ (unfold begins in eq-eqb at at refl) (omega (arith, f.all))
        (λ a. omega (arith, f.bytes (shown_as v), bytes_apart a at v (s ∷ l), cell_few a v, limit_turn at h c))
    by (inl n) (inr z) = absurd (false≢true (sym e ∙ rw (n, z)))

few_lengthened : (at v : ℕ) (t : List Stretch) → suc at < 1920 → Few (suc at) t → Few at (lengthened at v t)
unfolding lengthened
few_lengthened at v [] h f = few_alone at v h
few_lengthened at v (s ∷ l) h f =
    pick_if (Few at) (both (eqb s.start (suc at)) (not (ends_row at))) (λ e. few_joined at v s l h f) (λ e. few_apart at v s l h e f)

-- a list of cells that ends before the page does
pub few : (at : ℕ) (a b : List ℕ) → at + length a < 1920 → Few at (differing at a b)
unfolding differing
few at [] b h = few_none at (omega arith)
few at (x ∷ a) [] h = few_none at (omega arith)
few at (x ∷ a) (y ∷ b) h =
    let f = few (suc at) a b (omega arith) in
    pick_if (Few at) (eqb x y) (λ e. few_equal at _ (omega arith) f) (λ e. few_lengthened at y _ (omega arith) f)
