-- The statement of specs/Theorems: what request A13 of document 02 says of mending.
-- Assumes nothing.
use mathlib.Core.Path.{◌≡◌, refl, sym, ap, ◌∙◌}
use mathlib.Core.Bool.{Bool, true, false}
use mathlib.Core.List.{List, [], ◌∷◌, ◌++◌}
use Prim.Native.Nat.{ℕ, zero, suc, ◌*◌, ◌/◌}
use native.Mathlib.Omega.{arith}
use lib.Dec.{leb}
use lib.ListN.{length, get_or, length-append, length-map}
use lib.Seq.{append_snoc, set-append_seam}
use borrow.Author.Tests.{le-leb}
use Rattle.rules.specs.declared.Personality.{Personality}
use Rattle.rules.specs.declared.State.{State}
use Rattle.rules.specs.Cell.{pick, null}
use Rattle.rules.specs.Row.{height, columns}
use Rattle.rules.specs.Room.{over}
use Rattle.rules.specs.Fields.{page_width, is_page}
use Rattle.rules.specs.Writable.{writable, AllWritable, none, more}
use Rattle.rules.specs.Theorems.CellReach.{Reached}
use Rattle.rules.proofs.Tests.{pick_if}
use Rattle.rules.proofs.Kept.{good_parts}
use Rattle.rules.proofs.Numbers.{null_ok}
use Rattle.rules.proofs.CellReach.{cell_reach}
use Rattle.mend.specs.Mend.{mended_cell, mended, damaged, entries, Outcome, outcome, mend_rule}
use Rattle.mend.specs.Theorems.{put_back, Mending}

-- ---- the cells

mended_writable : (m : Personality) (p : List ℕ) → AllWritable m (mended m p)
unfolding mended
mended_writable m [] = none
mended_writable m (v ∷ p) = more (pick_if (λ (x : ℕ). writable m x ≡ true) (writable m v) (λ e. e) (λ e. null_ok m)) (mended_writable m p)

mended_at : (m : Personality) (p : List ℕ) (at : ℕ) → get_or (mended m p) at 0 ≡ mended_cell m (get_or p at 0)
unfolding mended
mended_at m [] at = rw (null_ok m)
mended_at m (v ∷ p) zero = refl
mended_at m (v ∷ p) (suc at) = mended_at m p at

mended_length : (m : Personality) (p : List ℕ) → length (mended m p) ≡ length p
unfolding mended
mended_length m p = length-map p (mended_cell m)

-- a page of writable cells
none_damaged : {m : Personality} {p : List ℕ} (at : ℕ) → AllWritable m p → damaged m at p ≡ []
unfolding damaged
none_damaged at none = refl
none_damaged at (more e h) = rw e (none_damaged (suc at) h)

mended_same : {m : Personality} {p : List ℕ} → AllWritable m p → mended m p ≡ p
unfolding mended
mended_same none = refl
mended_same (more {v} e h) = rw (e, mended_same h)

unchanged : (m : Personality) (p l : List ℕ) → is_page (length p) ≡ true → AllWritable m p → mend_rule m p l ≡ outcome 0 0 p l
unfolding mend_rule entries over
unchanged m p l e h = rw (e, none_damaged 0 h, mended_same h, le-leb 0 (length l / 4) (omega arith))

-- ---- the ways of the rule

data Way (m : Personality) (p l : List ℕ) : Type 0 where
  is_done : is_page (length p) ≡ true
      → mend_rule m p l ≡ outcome 0 (length (damaged m 0 p)) (mended m p) (over (entries (page_width (length p)) (damaged m 0 p)) l)
      → Way m p l
  is_short : is_page (length p) ≡ true → mend_rule m p l ≡ outcome 6 (length (damaged m 0 p)) p l → Way m p l
  is_no_page : is_page (length p) ≡ false → mend_rule m p l ≡ outcome 7 0 p l → Way m p l

way : (m : Personality) (p l : List ℕ) → Way m p l
way m p l = by (is_page (length p)) (leb (length (damaged m 0 p)) (length l / 4)) refl refl
  where
    by : (s t : Bool) → is_page (length p) ≡ s → leb (length (damaged m 0 p)) (length l / 4) ≡ t → Way m p l
    by true true e f = is_done e (unfold mend_rule in rw (e, f))
    by true false e f = is_short e (unfold mend_rule in rw (e, f))
    by false t e f = is_no_page e (unfold mend_rule in rw e)

-- where it answers 0
record Done (m : Personality) (p l : List ℕ) : Type 0 where
  page_is : is_page (length p) ≡ true
  is : (mend_rule m p l).page ≡ mended m p

done : (m : Personality) (p l : List ℕ) → (mend_rule m p l).answer ≡ 0 → Done m p l
done m p l z = by (way m p l)
  where
    by : Way m p l → Done m p l
    by (is_done e f) = record { page_is = e; is = ap (λ (r : Outcome). r.page) f }
    by (is_short e f) = absurd (omega (arith, sym z ∙ ap (λ (r : Outcome). r.answer) f))
    by (is_no_page e f) = absurd (omega (arith, sym z ∙ ap (λ (r : Outcome). r.answer) f))

all_writable : (m : Personality) (p l : List ℕ) → (mend_rule m p l).answer ≡ 0 → AllWritable m (mend_rule m p l).page
all_writable m p l z = rw (done m p l z).is (mended_writable m p)

twice : (m : Personality) (p l k : List ℕ) → (mend_rule m p l).answer ≡ 0 → mend_rule m (mend_rule m p l).page k ≡ outcome 0 0 (mend_rule m p l).page k
twice m p l k z =
    let d = done m p l z in
    rw d.is (unchanged m (mended m p) k (rw (mended_length m p) d.page_is) (mended_writable m p))

kept : (m : Personality) (p l : List ℕ) (at : ℕ) → writable m (get_or p at 0) ≡ true → get_or (mend_rule m p l).page at 0 ≡ get_or p at 0
kept m p l at w = by (way m p l)
  where
    by : Way m p l → get_or (mend_rule m p l).page at 0 ≡ get_or p at 0
    by (is_done e f) = rw f (mended_at m p at ∙ rw w)
    by (is_short e f) = rw f
    by (is_no_page e f) = rw f

cleared : (m : Personality) (p l : List ℕ) (at : ℕ) → (mend_rule m p l).answer ≡ 0 → writable m (get_or p at 0) ≡ false
    → get_or (mend_rule m p l).page at 0 ≡ null
cleared m p l at z w = rw (done m p l z).is (mended_at m p at ∙ rw w)

refused : (m : Personality) (p l : List ℕ) → ((mend_rule m p l).answer ≡ 0 → ⊥)
    → mend_rule m p l ≡ outcome (mend_rule m p l).answer (mend_rule m p l).needed p l
refused m p l z = by (way m p l)
  where
    by : Way m p l → mend_rule m p l ≡ outcome (mend_rule m p l).answer (mend_rule m p l).needed p l
    by (is_done e f) = absurd (z (ap (λ (r : Outcome). r.answer) f))
    by (is_short e f) = rw f
    by (is_no_page e f) = rw f

-- how many entries a page needs
needs_of : (m : Personality) (p l : List ℕ) → (mend_rule m p l).needed ≡ pick (is_page (length p)) (length (damaged m 0 p)) 0
needs_of m p l = by (way m p l)
  where
    by : Way m p l → (mend_rule m p l).needed ≡ pick (is_page (length p)) (length (damaged m 0 p)) 0
    by (is_done e f) = rw (f, e)
    by (is_short e f) = rw (f, e)
    by (is_no_page e f) = rw (f, e)

-- the pages that a terminal leaves
page_of_width : (wide : Bool) (n : ℕ) → n ≡ height * columns wide → is_page n ≡ true
unfolding columns page_width
page_of_width true n e = rw e
page_of_width false n e = rw e

sound : (m : Personality) (p l : List ℕ) (s : State) → Reached m p s → mend_rule m p l ≡ outcome 0 0 p l
sound m p l s x =
    unchanged m p l (page_of_width s.core.screen.wide (length p) (good_parts p s (cell_reach.left_good m p s x)).0)
    (cell_reach.left_writable m p s x)

-- the cells of v and p behind those of a, those of p being back
back_next : (m : Personality) (a : List ℕ) (v : ℕ) (p : List ℕ)
    → put_back (damaged m (length (a ++ v ∷ [])) p) ((a ++ v ∷ []) ++ mended m p) ≡ (a ++ v ∷ []) ++ p
    → put_back (damaged m (length a) (v ∷ p)) (a ++ mended m (v ∷ p)) ≡ a ++ v ∷ p
unfolding damaged mended put_back
back_next m a v p h = by (writable m v)
  where
    more_cells : put_back (damaged m (suc (length a)) p) (a ++ v ∷ mended m p) ≡ a ++ v ∷ p
    more_cells =
        let n : length (a ++ v ∷ []) ≡ suc (length a) = length-append a (v ∷ []) ∙ omega arith in
        rw (append_snoc a v (mended m p), append_snoc a v p, n) at h

    by : (t : Bool)
        → put_back (pick t (damaged m (suc (length a)) p) ((length a, v) ∷ damaged m (suc (length a)) p)) (a ++ pick t v null ∷ mended m p) ≡ a ++ v
        ∷ p
    by true = more_cells
    by false = ap (put_back (damaged m (suc (length a)) p)) (set-append_seam a null (mended m p) v) ∙ more_cells

put_back_lem : (m : Personality) (a p : List ℕ) → put_back (damaged m (length a) p) (a ++ mended m p) ≡ a ++ p
unfolding damaged mended put_back
put_back_lem m a [] = refl
put_back_lem m a (v ∷ p) = back_next m a v p (put_back_lem m (a ++ v ∷ []) p)

pub mending : Mending
mending = record {
  all_writable = all_writable;
  kept = kept;
  cleared = cleared;
  twice = twice;
  sound = sound;
  refused = refused;
  undone = λ m p. put_back_lem m [] p;
  needed = λ m p l k. needs_of m p l ∙ sym (needs_of m p k);
}
