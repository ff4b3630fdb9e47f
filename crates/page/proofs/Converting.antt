-- A page at the other width: the loops.
--     narrow_cell, null_cell, wide_cell     the cell that comes to a place
--     put_next, put_all     the target so far
--     lost-next, lost_here, lost_none, wide_loses     whether a cell is lost
-- Assumes nothing.
use mathlib.Core.Path.{◌≡◌, refl, sym, ap, ◌∙◌}
use mathlib.Core.Bool.{Bool, true, false, not}
use mathlib.Core.List.{List, [], ◌∷◌, ◌++◌, append-nil}
use Prim.Native.Nat.{ℕ, zero, suc, ◌+◌, ◌*◌, ◌/◌, ◌%◌, ◌<◌, ◌≤◌}
use native.Mathlib.Numerals.{add-one}
use native.Mathlib.Omega.{arith}
use lib.Dec.{eqb, leb}
use lib.ListN.{length, get_or, drop, set, drop_of_length-le}
use lib.Seq.{drop-cons, set_at, append_snoc}
use borrow.Author.Tests.{lt-ltb, le-ltb, lt-leb}
use Rattle.rules.specs.Cell.{both, either, null}
use Rattle.rules.specs.Row.{columns}
use Rattle.rules.specs.Convert.{tabulated, cell_for, other_width, converted, loses}
use Rattle.rules.proofs.Convert.{listed_length}

-- ---- a cell

pub narrow_cell : (p : List ℕ) (wide : Bool) (i : ℕ) → wide ≡ true → get_or p (i / 80 * 132 + i % 80) 0 ≡ cell_for (columns wide) (other_width wide) p i
unfolding cell_for columns
narrow_cell p wide i e = rw (e, lt-ltb (i % 80) 132 (omega arith))

pub null_cell : (p : List ℕ) (wide : Bool) (i : ℕ) → wide ≡ false → 80 ≤ i % 132 → null ≡ cell_for (columns wide) (other_width wide) p i
unfolding cell_for columns
null_cell p wide i e h = rw (e, le-ltb (i % 132) 80 h)

pub wide_cell : (p : List ℕ) (wide : Bool) (i : ℕ) → wide ≡ false → i % 132 < 80
    → get_or p (i / 132 * 80 + i % 132) 0 ≡ cell_for (columns wide) (other_width wide) p i
unfolding cell_for columns
wide_cell p wide i e h = rw (e, lt-ltb (i % 132) 80 h)

pub narrow_place : (p : List ℕ) (wide : Bool) (i : ℕ) → wide ≡ true → length p ≡ 24 * columns wide → i < 24 * other_width wide
    → i / 80 * 132 + i % 80 < length p
unfolding columns
narrow_place p wide i e n h = let a : length p ≡ 3168 = n ∙ rw e in let b : i < 1920 = rw e at h in omega arith

pub wide_place : (p : List ℕ) (wide : Bool) (i : ℕ) → wide ≡ false → length p ≡ 24 * columns wide → i < 24 * other_width wide → i % 132 < 80
    → i / 132 * 80 + i % 132 < length p
unfolding columns
wide_place p wide i e n h k = let a : length p ≡ 1920 = n ∙ rw e in let b : i < 3168 = rw e at h in omega arith

-- ---- the target

listed_snoc : (f : ℕ → ℕ) (a n : ℕ) → tabulated f a (suc n) ≡ tabulated f a n ++ (f (a + n) ∷ [])
unfolding tabulated
listed_snoc f a zero = let e : a + 0 ≡ a = omega arith in rw e
listed_snoc f a (suc n) = let e : a + suc n ≡ suc a + n = omega arith in rw e (ap (λ (l : List ℕ). f a ∷ l) (listed_snoc f (suc a) n))

-- i cells are put, the others are as they were
abbrev pub put_to : (ℕ → ℕ) → ℕ → List ℕ → List ℕ
put_to f i t = tabulated f 0 i ++ drop i t

pub put_none : (f : ℕ → ℕ) (t : List ℕ) → t ≡ put_to f 0 t
unfolding tabulated
put_none f t = refl

pub put_next : (f : ℕ → ℕ) (i : ℕ) (t : List ℕ) {v : ℕ} → i < length t → v ≡ f i → set (put_to f i t) i v ≡ put_to f (i + 1) t
put_next f i t {v} h e =
    let z : 0 + i ≡ i = omega arith in
    ap (λ (l : List ℕ). set (tabulated f 0 i ++ l) i v) (drop-cons t i 0 h)
    ∙ set_at (tabulated f 0 i) (get_or t i 0) (drop (suc i) t) v i (listed_length f 0 i)
    ∙ (ap (λ (x : ℕ). tabulated f 0 i ++ (x ∷ drop (suc i) t)) (e ∙ ap f (sym z)) ∙ sym (append_snoc (tabulated f 0 i) (f (0 + i)) (drop (suc i) t)))
    ∙ ap (λ (l : List ℕ). l ++ drop (suc i) t) (sym (listed_snoc f 0 i)) ∙ rw (add-one i)

pub put_all : (wide : Bool) (p : List ℕ) (i : ℕ) (t : List ℕ) → length t ≡ 24 * other_width wide → length t ≤ i → i ≤ length t
    → put_to (cell_for (columns wide) (other_width wide) p) i t ≡ converted wide p
unfolding converted
put_all wide p i t n h k =
    let e : i ≡ 24 * other_width wide = omega arith in
    ap (λ (l : List ℕ). tabulated (cell_for (columns wide) (other_width wide) p) 0 i ++ l) (drop_of_length-le t h)
    ∙ append-nil _ ∙ ap (tabulated (cell_for (columns wide) (other_width wide) p) 0) e

-- ---- whether a cell is lost

wide_none : (l : List ℕ) (i : ℕ) → loses 80 132 i l ≡ false
unfolding loses
wide_none [] i = refl
wide_none (x ∷ l) i = let e : leb 132 (i % 80) ≡ false = lt-leb 132 (i % 80) (omega arith) in rw (e, wide_none l (suc i))

pub wide_loses : (p : List ℕ) (wide : Bool) → wide ≡ false → false ≡ loses (columns wide) (other_width wide) 0 p
unfolding columns
wide_loses p wide e = rw e (sym (wide_none p 0))

-- the cells looked at are not lost
abbrev pub LostFrom : Bool → List ℕ → ℕ → Type 0
LostFrom wide p i = loses (columns wide) (other_width wide) 0 p ≡ loses 132 80 i (drop i p)

pub lost_begins : (p : List ℕ) (wide : Bool) → wide ≡ true → LostFrom wide p 0
unfolding columns
lost_begins p wide e = rw e

module _ (p : List ℕ) (i : ℕ) (h : i < length p) where
  next : loses 132 80 i (drop i p) ≡ either (both (leb 80 (i % 132)) (not (eqb (get_or p i 0) 0))) (loses 132 80 (suc i) (drop (suc i) p))
  unfolding loses
  next = ap (loses 132 80 i) (drop-cons p i 0 h)

  pub lost_here : both (leb 80 (i % 132)) (not (eqb (get_or p i 0) 0)) ≡ true → loses 132 80 i (drop i p) ≡ true
  lost_here e = next ∙ rw e

  pub lost_later : both (leb 80 (i % 132)) (not (eqb (get_or p i 0) 0)) ≡ false → loses 132 80 i (drop i p) ≡ loses 132 80 (i + 1) (drop (i + 1) p)
  lost_later e = next ∙ rw (e, add-one i)

pub lost_none : (p : List ℕ) (i : ℕ) → length p ≤ i → loses 132 80 i (drop i p) ≡ false
unfolding loses
lost_none p i h = rw (drop_of_length-le p h)

-- a cell's number is small
pub below : (wide : Bool) (i : ℕ) → i < 24 * other_width wide → i < 3168
unfolding columns
below true i h = omega arith
below false i h = omega arith
