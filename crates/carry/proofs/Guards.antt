-- Which cells are guarded, after a write.
--     guards_set         one cell is stored
--     kept_guards, mode_kept     a write that leaves them; and the mode after it
-- Assumes nothing.
use Rattle.std.specs.Prelude.{◌≡◌, ℕ, zero, suc, ◌+◌, ◌-◌, ◌*◌, Bool, true, false, List, [], ◌∷◌, ◌++◌, length, get_or, take, drop, set, replicate}
use mathlib.Core.Path.{refl, sym, ap, ap₂, ◌∙◌}
use mathlib.Core.Bool.{not, false≢true, beq}
use native.Mathlib.Nat.{sub-zero, suc_inj, suc-ne-zero}
use native.Mathlib.Numerals.{add-one}
use native.Mathlib.Omega.{arith}
use lib.ListN.{length-replicate, replicate-append-replicate, take-append-drop}
use lib.Seq.{take-nil}
use borrow.Author.Tests.{not-true}
use Rattle.rules.specs.declared.Write.{Write}
use Rattle.rules.specs.Cell.{pick, both, guarded}
use Rattle.rules.specs.Row.{row_end}
use Rattle.rules.specs.Search.{guarded_at, which_cells, first_true, first_in, edit_end}
use Rattle.rules.specs.Change.{within, fill_cell, filled, shift_left, shift_right, shifted, edit_shifted, column_filled}
use Rattle.rules.specs.Carry.{applied}
use Rattle.rules.proofs.Tests.{both_parts}
use Rattle.rules.proofs.Searching.{length_guards}
use Rattle.rules.proofs.Lengths.{length_applied}
use Rattle.page.proofs.RowList.{guards_take, guards_drop, guards_part}
use Rattle.carry.specs.Rows.{keeps_guards}

-- with protect mode off none is
off_guards : (p q : List ℕ) → length p ≡ length q → guarded_at false p ≡ guarded_at false q
unfolding which_cells
off_guards [] [] e = refl
off_guards [] (v ∷ q) e = absurd (suc-ne-zero (length q) (sym e))
off_guards (v ∷ p) [] e = absurd (suc-ne-zero (length p) e)
off_guards (v ∷ p) (u ∷ q) e = ap (λ (t : List Bool). false ∷ t) (off_guards p q (suc_inj e))

pub guards_set : (on : Bool) (p : List ℕ) (i v : ℕ) → guarded on v ≡ guarded on (get_or p i 0) → guarded_at on (set p i v) ≡ guarded_at on p
unfolding which_cells
guards_set on [] i v e = refl
guards_set on (x ∷ p) zero v e = ap (λ (b : Bool). b ∷ guarded_at on p) e
guards_set on (x ∷ p) (suc i) v e = ap (λ (t : List Bool). guarded on x ∷ t) (guards_set on p i v e)

module _ (on : Bool) where
  guards_append : (x y : List ℕ) → guarded_at on (x ++ y) ≡ guarded_at on x ++ guarded_at on y
  unfolding which_cells
  guards_append [] y = refl
  guards_append (v ∷ x) y = ap (λ (t : List Bool). guarded on v ∷ t) (guards_append x y)

  -- a change of a part that leaves those of the part
  guards_within : (a e : ℕ) (f : List ℕ → List ℕ) (p : List ℕ)
      → guarded_at on (f (take (e - a) (drop a p))) ≡ guarded_at on (take (e - a) (drop a p)) → guarded_at on (within a e f p) ≡ guarded_at on p
  unfolding within
  guards_within a e f p h =
      let x = take (e - a) (drop a p) in
      let z = drop (e - a) (drop a p) in
      let back : x ++ z ≡ drop a p = take-append-drop (e - a) (drop a p) in
      guards_append (take a p) (f x ++ z) ∙ ap (λ (t : List Bool). guarded_at on (take a p) ++ t)
      (guards_append (f x) z ∙ ap (λ (t : List Bool). t ++ guarded_at on z) h ∙ sym (guards_append x z) ∙ ap (guarded_at on) back)
      ∙ sym (guards_append (take a p) (drop a p)) ∙ ap (guarded_at on) (take-append-drop a p)

  module _ (v : ℕ) (free : guarded on v ≡ false) where
    guards_fill : (x : ℕ) → guarded on (fill_cell on v x) ≡ guarded on x
    guards_fill x = by (guarded on x) refl
      where
        by : (t : Bool) → guarded on x ≡ t → guarded on (pick t x v) ≡ t
        by true e = e
        by false e = free

    guards_filled : (p : List ℕ) → guarded_at on (filled on v p) ≡ guarded_at on p
    unfolding which_cells filled
    guards_filled [] = refl
    guards_filled (x ∷ p) = ap₂ (λ (b : Bool) (t : List Bool). b ∷ t) (guards_fill x) (guards_filled p)

    guards_column : (w c n row : ℕ) (p : List ℕ) → guarded_at on (column_filled w on v c n row p) ≡ guarded_at on p
    unfolding column_filled
    guards_column w c zero row p = refl
    guards_column w c (suc n) row p =
        guards_column w c n (suc row) _ ∙ guards_within (row * w + c) (row * w + c + 1) (filled on v) p (guards_filled _)

    -- ---- the edit run

    more_open : (n : ℕ) → take n (replicate (suc n) false) ≡ replicate n false
    more_open zero = refl
    more_open (suc n) = ap (λ (t : List Bool). false ∷ t) (more_open n)

    guards_shifted : (right : Bool) (l : List ℕ) (n : ℕ) → guarded_at on l ≡ replicate n false → guarded_at on (shifted right 1 v l) ≡ guarded_at on l
    unfolding which_cells shift_left shift_right
    guards_shifted true l n e =
        let size : length l ≡ n = sym (length_guards on l) ∙ ap length e ∙ length-replicate n false in
        guards_take on (length l) (v ∷ l) ∙ ap₂ take size (ap₂ (λ (b : Bool) (t : List Bool). b ∷ t) free e) ∙ more_open n ∙ sym e
    guards_shifted false l n e =
        guards_drop on 1 (l ++ v ∷ []) ∙ ap (drop 1)
        (guards_append l (v ∷ []) ∙ ap₂ (λ (x y : List Bool). x ++ y) e (ap (λ (b : Bool). b ∷ []) free) ∙ replicate-append-replicate n 1 false
        ∙ ap (λ (k : ℕ). replicate k false) (add-one n))
        ∙ sym e

-- how many come before the first cell sought
abbrev before : List Bool → ℕ
before [] = 0
before (true ∷ m) = 0
before (false ∷ m) = suc (before m)

before_is : (at : ℕ) (m : List Bool) → first_true at m ≡ at + before m
before_is at [] = omega arith
before_is at (true ∷ m) = omega arith
before_is at (false ∷ m) = omega (arith, before_is (suc at) m)

before_open : (k : ℕ) (m : List Bool) → take (before (take k m)) m ≡ replicate (before (take k m)) false
before_open zero m = refl
before_open (suc k) [] = refl
before_open (suc k) (true ∷ m) = refl
before_open (suc k) (false ∷ m) = ap (λ (t : List Bool). false ∷ t) (before_open k m)

drop_take : (a e : ℕ) (l : List Bool) → drop a (take e l) ≡ take (e - a) (drop a l)
drop_take zero e l = rw sub-zero
drop_take (suc a) zero l = let z : 0 - suc a ≡ 0 = omega arith in rw z
drop_take (suc a) (suc e) [] = sym (take-nil (suc e - suc a))
drop_take (suc a) (suc e) (b ∷ l) = let z : suc e - suc a ≡ e - a = omega arith in rw z (drop_take a e l)

-- no cell of the edit run is guarded
run_open : (on : Bool) (w at : ℕ) (p : List ℕ) → let n = edit_end w (guarded_at on p) at - at in guarded_at on (take n (drop at p)) ≡ replicate n false
unfolding first_in
run_open on w at p =
    let g = guarded_at on p in
    let run = drop at (take (row_end w at) g) in
    let k = row_end w at - at in
    let n : edit_end w g at - at ≡ before (take k (drop at g)) = omega (arith, before_is at run, ap before (drop_take at (row_end w at) g)) in
    guards_part on at (edit_end w g at - at) p ∙ rw n (before_open k (drop at g))

-- ---- a write

on_guards : (w : ℕ) (x : Write) (p : List ℕ) → keeps_guards true x ≡ true → guarded_at true (applied w true x p) ≡ guarded_at true p
unfolding applied keeps_guards edit_shifted
on_guards w Write.Nothing p e = refl
on_guards w (Write.Fill a z v) p e = guards_within true a z (filled true v) p (guards_filled true v (not-true _ e) _)
on_guards w (Write.FillAll a z v) p e = absurd (false≢true e)
on_guards w (Write.Column top bottom c v) p e = guards_column true v (not-true _ e) w c (bottom - top) top p
on_guards w (Write.Edit right at v) p e =
    let n = edit_end w (guarded_at true p) at - at in
    guards_within true at (edit_end w (guarded_at true p) at) (shifted right 1 v) p
    (guards_shifted true v (not-true _ e) right (take n (drop at p)) n (run_open true w at p))
on_guards w (Write.Rows down top bottom) p e = absurd (false≢true e)

pub kept_guards : (w : ℕ) (on : Bool) (x : Write) (p : List ℕ) → keeps_guards on x ≡ true → guarded_at on (applied w on x p) ≡ guarded_at on p
kept_guards w true x p e = on_guards w x p e
kept_guards w false x p e = off_guards (applied w false x p) p (length_applied w false x p)

-- two modes that are the same
pub same_mode : (a b : Bool) → beq a b ≡ true → a ≡ b
same_mode true true e = refl
same_mode true false e = absurd (false≢true e)
same_mode false true e = absurd (false≢true e)
same_mode false false e = refl

pub both_hold : (a b : Bool) → not a ≡ false → b ≡ true → both a b ≡ true
both_hold true b h e = e
both_hold false b h e = absurd (false≢true (sym h))

-- a write and the mode after it
pub mode_kept : (w : ℕ) (on after : Bool) (x : Write) (p : List ℕ) → both (beq on after) (keeps_guards on x) ≡ true
    → guarded_at after (applied w on x p) ≡ guarded_at on p
mode_kept w on after x p e =
    let r = both_parts (beq on after) (keeps_guards on x) e in
    ap (λ (b : Bool). guarded_at b (applied w on x p)) (sym (same_mode on after r.0)) ∙ kept_guards w on x p r.1
