-- Laws of the one pass, over plain values.
-- Assumes nothing.
use Rattle.std.specs.Prelude.{◌≡◌, ℕ, zero, suc, ◌+◌, ◌-◌, ◌*◌, ◌<◌, ◌≤◌, Bool, true, false, eqb, leb, ◌⊎◌, List, length, get_or, take, drop, nat_eq, ◌&&◌}
use lib.Pointwise.{pointwise}
use lib.Seq.{drop-cons}
use mathlib.Core.Path.{refl, sym, ◌∙◌}
use mathlib.Core.Logic.{inl, inr}
use native.Mathlib.Omega.{arith}
use borrow.Author.Tests.{leb-true, eqb-true, eqb-false, ne_eqb, eq-eqb, le-leb, lt-leb}
use Rattle.rules.specs.Cell.{both}
use Rattle.rules.specs.Fields.{page_width}
use Rattle.rules.specs.Row.{columns}
use Rattle.rules.proofs.Tests.{both_parts}
use Rattle.repaint.specs.declared.Span.{Span}
use Rattle.repaint.specs.declared.Verdict.{Verdict}
use Rattle.repaint.specs.Spans.{first, after, Pages}
use Rattle.repaint.specs.Pass.{pages_width, alike, equal, fits, turned, finished}

-- ---- the width
pub width_unlike : (a b : List ℕ) → (length a ≡ length b → ⊥) → 0 ≡ pages_width a b
unfolding pages_width page_width
width_unlike a b n = rw (ne_eqb (length a) (length b) n)

pub some_columns : (wide : Bool) → columns wide ≡ 0 → ⊥
unfolding columns
some_columns true e = absurd (omega (arith, e))
some_columns false e = absurd (omega (arith, e))

pub width_alike : (a b : List ℕ) → length a ≡ length b → page_width (length a) ≡ pages_width a b
unfolding pages_width
width_alike a b e = rw (eq-eqb (length a) (length b) e)

pub width_80 : (a b : List ℕ) → length a ≡ length b → length a ≡ 1920 → 80 ≡ pages_width a b
unfolding pages_width page_width
width_80 a b e f = rw (eq-eqb (length a) (length b) e, eq-eqb (length a) 1920 f)

pub width_132 : (a b : List ℕ) → length a ≡ length b → length a ≡ 3168 → 132 ≡ pages_width a b
unfolding pages_width page_width
width_132 a b e f = rw (eq-eqb (length a) (length b) e, ne_eqb (length a) 1920 (λ g. omega arith), eq-eqb (length a) 3168 f)

pub width_none : (a b : List ℕ) → length a ≡ length b → (length a ≡ 1920 → ⊥) → (length a ≡ 3168 → ⊥) → 0 ≡ pages_width a b
unfolding pages_width page_width
width_none a b e f g = rw (eq-eqb (length a) (length b) e, ne_eqb (length a) 1920 f, ne_eqb (length a) 3168 g)

-- ---- equal cells
pub same_beyond : (a b : List ℕ) (k e : ℕ) → e < k → false ≡ equal a b k e
unfolding equal
same_beyond a b k e l = rw (lt-leb k e l)

pub same_alike : (a b : List ℕ) (k e : ℕ) → k ≤ e → alike a b k (e - k) ≡ equal a b k e
unfolding equal
same_alike a b k e l = rw (le-leb k e l)

pub and_both : (t : Bool) {x y : Bool} → x ≡ y → (t && x) ≡ both t y
and_both true e = e
and_both false e = refl

alike_parts : (a b : List ℕ) (k n : ℕ) → k + n ≤ length a → k + n ≤ length b
    → pointwise nat_eq (take n (drop k a)) (take n (drop k b)) ≡ alike a b k n
unfolding alike
alike_parts a b k zero h i = refl
alike_parts a b k (suc n) h i =
    rw (drop-cons a k 0 (omega arith), drop-cons b k 0 (omega arith))
    (and_both (eqb (get_or a k 0) (get_or b k 0)) (alike_parts a b (suc k) n (omega arith) (omega arith)))

-- the cells as two parts of the pages
pub same_parts : (a b : List ℕ) (k e : ℕ) {r : Bool} → k ≤ e → e ≤ length a → length a ≡ length b
    → r ≡ pointwise nat_eq (take (e - k) (drop k a)) (take (e - k) (drop k b)) → r ≡ equal a b k e
same_parts a b k e l h z f = f ∙ (alike_parts a b k (e - k) (omega arith) (omega arith) ∙ same_alike a b k e l)

-- ---- a span that fits
all_not : {p q r s t : Bool} {P Q R S T : Type 0} → (p ≡ true → P) → (q ≡ true → Q) → (r ≡ true → R) → (s ≡ true → S) → (t ≡ true → T)
    → (P → Q → R → S → T → ⊥) → false ≡ both p (both q (both r (both s t)))
all_not {p = false} f g h i j n = refl
all_not {p = true} {q = false} f g h i j n = refl
all_not {p = true} {q = true} {r = false} f g h i j n = refl
all_not {p = true} {q = true} {r = true} {s = false} f g h i j n = refl
all_not {p = true} {q = true} {r = true} {s = true} {t = false} f g h i j n = refl
all_not {p = true} {q = true} {r = true} {s = true} {t = true} f g h i j n = absurd (n (f refl) (g refl) (h refl) (i refl) (j refl))

module _ (w : ℕ) (s : Span) where
  pub fits_not : (1 ≤ s.row → s.row ≤ 24 → 1 ≤ s.column → 1 ≤ s.size → s.column + s.size ≤ w + 1 → ⊥) → false ≡ fits w s
  unfolding fits
  fits_not n = all_not (leb-true 1 s.row) (leb-true s.row 24) (leb-true 1 s.column) (leb-true 1 s.size)
      (leb-true (s.column + s.size) (w + 1)) n

  pub fits_is : 1 ≤ s.row → s.row ≤ 24 → 1 ≤ s.column → 1 ≤ s.size → leb (s.column + s.size) (w + 1) ≡ fits w s
  unfolding fits
  fits_is f g h i = rw (le-leb 1 s.row f, le-leb s.row 24 g, le-leb 1 s.column h, le-leb 1 s.size i)

pub record Fits (w : ℕ) (s : Span) : Type 0 where
  pub top : 1 ≤ s.row
  pub bottom : s.row ≤ 24
  pub left : 1 ≤ s.column
  pub some : 1 ≤ s.size
  pub right : s.column + s.size ≤ w + 1

pub fits_parts : (w : ℕ) (s : Span) → fits w s ≡ true → Fits w s
unfolding fits
fits_parts w s e =
    let p = both_parts (leb 1 s.row) _ e in
    let q = both_parts (leb s.row 24) _ p.1 in
    let r = both_parts (leb 1 s.column) _ q.1 in
    let t = both_parts (leb 1 s.size) _ r.1 in
    record {
      top = leb-true _ _ p.0;
      bottom = leb-true _ _ q.0;
      left = leb-true _ _ r.0;
      some = leb-true _ _ t.0;
      right = leb-true _ _
          t.1;
    }

pub fits_whole : (w : ℕ) (s : Span) → Fits w s → true ≡ fits w s
fits_whole w s f = sym (le-leb (s.column + s.size) (w + 1) f.right) ∙ fits_is w s f.top f.bottom f.left f.some

-- ---- which width
pub eq_or_not : (m n : ℕ) → (m ≡ n) ⊎ (m ≡ n → ⊥)
eq_or_not m n = by_test (eqb m n) refl
  where
    by_test : (t : Bool) → eqb m n ≡ t → (m ≡ n) ⊎ (m ≡ n → ⊥)
    by_test true e = inl (eqb-true m n e)
    by_test false e = inr (eqb-false m n e)

pub pages_width_lem : (w : ℕ) (a b : List ℕ) → Pages w a b → w ≡ pages_width a b
pages_width_lem w a b p = by_case p.width
  where
    by_case : ((w ≡ 80) × (length a ≡ 1920)) ⊎ ((w ≡ 132) × (length a ≡ 3168)) → w ≡ pages_width a b
    by_case (inl x) = x.0 ∙ width_80 a b p.alike x.1
    by_case (inr x) = x.0 ∙ width_132 a b p.alike x.1

pub widths : (a b : List ℕ) → ((pages_width a b ≡ 0) × ((w : ℕ) → Pages w a b → ⊥)) ⊎ Pages (pages_width a b) a b
widths a b = by_length (eq_or_not (length a) (length b))
  where
    no_page : pages_width a b ≡ 0 → (w : ℕ) → Pages w a b → ⊥
    no_page z w p = by_case p.width
      where
        by_case : ((w ≡ 80) × (length a ≡ 1920)) ⊎ ((w ≡ 132) × (length a ≡ 3168)) → ⊥
        by_case (inl x) = omega (arith, pages_width_lem w a b p, x.0)
        by_case (inr x) = omega (arith, pages_width_lem w a b p, x.0)

    by_wide : length a ≡ length b → (length a ≡ 1920 → ⊥) → (length a ≡ 3168) ⊎ (length a ≡ 3168 → ⊥)
        → ((pages_width a b ≡ 0) × ((w : ℕ) → Pages w a b → ⊥)) ⊎ Pages (pages_width a b) a b
    by_wide e n (inl x) = inr (record { alike = e; width = inr (sym (width_132 a b e x), x) })
    by_wide e n (inr x) = let z = sym (width_none a b e n x) in inl (z, no_page z)

    by_narrow : length a ≡ length b → (length a ≡ 1920) ⊎ (length a ≡ 1920 → ⊥)
        → ((pages_width a b ≡ 0) × ((w : ℕ) → Pages w a b → ⊥)) ⊎ Pages (pages_width a b) a b
    by_narrow e (inl x) = inr (record { alike = e; width = inl (sym (width_80 a b e x), x) })
    by_narrow e (inr x) = by_wide e x (eq_or_not (length a) 3168)

    by_length : (length a ≡ length b) ⊎ (length a ≡ length b → ⊥) → ((pages_width a b ≡ 0) × ((w : ℕ) → Pages w a b → ⊥)) ⊎ Pages (pages_width a b) a b
    by_length (inl e) = by_narrow e (eq_or_not (length a) 1920)
    by_length (inr n) = let z = sym (width_unlike a b n) in inl (z, no_page z)

pub width_small : (a b : List ℕ) → pages_width a b ≤ 132
width_small a b = by_case (widths a b)
  where
    by_pages : ((pages_width a b ≡ 80) × (length a ≡ 1920)) ⊎ ((pages_width a b ≡ 132) × (length a ≡ 3168)) → pages_width a b ≤ 132
    by_pages (inl x) = omega (arith, x.0)
    by_pages (inr x) = omega (arith, x.0)

    by_case : ((pages_width a b ≡ 0) × ((w : ℕ) → Pages w a b → ⊥)) ⊎ Pages (pages_width a b) a b → pages_width a b ≤ 132
    by_case (inl z) = omega (arith, z.0)
    by_case (inr p) = by_pages p.width

-- where a span lies that fits its row: the numbers that the code computes are small, and its cells are the page's
pub record Lies (m n w r c l : ℕ) : Type 0 where
  pub top : 1 ≤ r
  pub left : 1 ≤ c
  pub before : (r - 1) * w ≤ 3168
  pub column : c ≤ 132
  pub short : l ≤ 132
  pub ends : (r - 1) * w + (c - 1) + l ≤ m
  pub alike : m ≡ n
  pub most : m ≤ 3168

lies_in : (m n w r c l : ℕ) → ((w ≡ 80) × (m ≡ 1920)) ⊎ ((w ≡ 132) × (m ≡ 3168)) → m ≡ n → 1 ≤ r → r ≤ 24 → 1 ≤ c → 1 ≤ l → c + l ≤ w + 1
    → Lies m n w r c l
lies_in m n w r c l (inl x) e f g h i j = rw x.0
    (record {
      top = f;
      left = h;
      before = omega arith;
      column = omega (arith, x.0);
      short = omega (arith, x.0);
      ends = omega (arith, x.0, x.1);
      alike = e;
      most = omega (arith, x.1);
    })
lies_in m n w r c l (inr x) e f g h i j = rw x.0
    (record {
      top = f;
      left = h;
      before = omega arith;
      column = omega (arith, x.0);
      short = omega (arith, x.0);
      ends = omega (arith, x.0, x.1);
      alike = e;
      most = omega (arith, x.1);
    })

pub lies : (a b : List ℕ) (s : Span) (w r c : ℕ) → w ≡ pages_width a b → r ≡ s.row → c ≡ s.column → fits w s ≡ true
    → Lies (length a) (length b) w r c s.size
lies a b s w r c ew er ec f = rw (ew, er, ec) (by_case (widths a b))
  where
    fit : Fits (pages_width a b) s
    fit = rw ew at (fits_parts w s f)

    by_case : ((pages_width a b ≡ 0) × ((w : ℕ) → Pages w a b → ⊥)) ⊎ Pages (pages_width a b) a b
        → Lies (length a) (length b) (pages_width a b) s.row s.column s.size
    by_case (inl z) = absurd (omega (arith, z.0, fit.right, fit.left, fit.some))
    by_case (inr p) = lies_in _ _ _ _ _ _ p.width p.alike fit.top fit.bottom fit.left fit.some fit.right

-- ---- a turn
module _ (a b : List ℕ) (next : ℕ) (s : Span) where
  pub turn_misfit : fits (pages_width a b) s ≡ false → 4000 ≡ turned a b next s
  unfolding turned
  turn_misfit f = rw f

  pub turn_differs : fits (pages_width a b) s ≡ true → equal a b next (first (pages_width a b) s) ≡ false → 4000 ≡ turned a b next s
  unfolding turned
  turn_differs f g = rw (f, g)

  pub turn_moves : fits (pages_width a b) s ≡ true → equal a b next (first (pages_width a b) s) ≡ true → after (pages_width a b) s ≡ turned a b next s
  unfolding turned
  turn_moves f g = rw (f, g)

-- the equal by what the code computes on the way
module _ (a b : List ℕ) (next : ℕ) (s : Span) (w r c : ℕ) (f g : Bool) (ew : w ≡ pages_width a b) (er : r ≡ s.row) (ec : c ≡ s.column)
    (ef : f ≡ fits w s) (ft : f ≡ true) (eg : g ≡ equal a b next ((r - 1) * w + (c - 1))) where
  pub turn_stops : g ≡ false → 4000 ≡ turned a b next s
  turn_stops gf = turn_differs a b next s (rw ew at (sym ef ∙ ft)) (rw (ew, er, ec) at (sym eg ∙ gf))

  pub turn_goes : (l : ℕ) → l ≡ s.size → g ≡ true → (r - 1) * w + (c - 1) + l ≡ turned a b next s
  turn_goes l el gt = rw (ew, er, ec, el) (turn_moves a b next s (rw ew at (sym ef ∙ ft)) (rw (ew, er, ec) at (sym eg ∙ gt)))

-- ---- the end
module _ (a b : List ℕ) (next : ℕ) where
  pub finish_wrong : pages_width a b ≡ 0 → Verdict.WrongLength ≡ finished a b next
  unfolding finished
  finish_wrong z = rw (eq-eqb (pages_width a b) 0 z)

  pub finish_accepted : (pages_width a b ≡ 0 → ⊥) → equal a b next (length a) ≡ true → Verdict.Accepted ≡ finished a b next
  unfolding finished
  finish_accepted n e = rw (ne_eqb (pages_width a b) 0 n, e)

  pub finish_refused : (pages_width a b ≡ 0 → ⊥) → equal a b next (length a) ≡ false → Verdict.NotAccepted ≡ finished a b next
  unfolding finished
  finish_refused n e = rw (ne_eqb (pages_width a b) 0 n, e)

pub page_lengths : (a b : List ℕ) (w : ℕ) → w ≡ pages_width a b → (w ≡ 0 → ⊥) → (length a ≡ length b) × (length a ≤ 3168)
page_lengths a b w ew n = by_case (widths a b)
  where
    by_pages : length a ≡ length b → ((pages_width a b ≡ 80) × (length a ≡ 1920)) ⊎ ((pages_width a b ≡ 132) × (length a ≡ 3168))
        → (length a ≡ length b) × (length a ≤ 3168)
    by_pages e (inl x) = (e, omega (arith, x.1))
    by_pages e (inr x) = (e, omega (arith, x.1))

    by_case : ((pages_width a b ≡ 0) × ((w : ℕ) → Pages w a b → ⊥)) ⊎ Pages (pages_width a b) a b → (length a ≡ length b) × (length a ≤ 3168)
    by_case (inl z) = absurd (n (ew ∙ z.0))
    by_case (inr p) = by_pages p.alike p.width

pub no_width : (a b : List ℕ) → ((pages_width a b ≡ 0 → ⊥) → ⊥) → pages_width a b ≡ 0
no_width a b h = by (eq_or_not (pages_width a b) 0)
  where
    by : (pages_width a b ≡ 0) ⊎ (pages_width a b ≡ 0 → ⊥) → pages_width a b ≡ 0
    by (inl e) = e
    by (inr n) = absurd (h n)
