-- The row list beside the fast path.
--     path_behind     what is known of it after the path
--     moved_behind    the core after a path has the modes and the width of the core before it
--     followed, behind_length     it is right, or has its length
-- Assumes nothing.
use Rattle.std.specs.Prelude.{◌≡◌, ℕ, ◌+◌, ◌*◌, ◌/◌, ◌%◌, ◌≤◌, Bool, true, false, not, eqb, List, length, get_or}
use mathlib.Core.Path.{refl, sym, ap, ◌∙◌}
use mathlib.Core.Bool.{false≢true}
use mathlib.Core.Logic.{inl, inr}
use native.Mathlib.Omega.{arith}
use borrow.Author.Tests.{eqb-true, ne_eqb, not-true}
use Rattle.rules.specs.declared.Contents.TheVariants as Contents
use Rattle.rules.specs.declared.Core.{Core}
use Rattle.rules.specs.Cell.{pick, both, guarded, written}
use Rattle.rules.specs.Search.{guarded_at}
use Rattle.rules.specs.State.{width_of, with_cursor}
use Rattle.rules.specs.Possible.{screen_ok}
use Rattle.rules.specs.RowList.{row_list, Beside}
use Rattle.rules.proofs.Screens.{screen_inside}
use Rattle.rules.proofs.RowSteps.{length_list}
use Rattle.rules.specs.declared.Write.{Write}
use Rattle.carry.specs.Rows.{keeps_guards}
use Rattle.carry.proofs.Guards.{kept_guards}
use Rattle.terminal.specs.Rows.{closed_none, Behind}
use Rattle.terminal.specs.declared.fast.Ground.{Ground}
use Rattle.terminal.specs.FastPath.{ground_of, ground_width, Edits, edits_cell, edits_row, reverses, clears_row, clears_rest, clears_all, Acts}
use Rattle.terminal.specs.FastPath.{stores, inserts, places, goes, rolls, edits, Passes, none, acted, refused, FastPath, still, passing, core_at}
use Rattle.terminal.proofs.FastSteps.{rolls_off, blank_free}
use Rattle.terminal.proofs.FastPaths.{passes_same}

-- a text cell that is stored is open, but for write-protect mode with protect mode on
text_open : (on writes : Bool) (a b : ℕ) → b ≤ 0x7e → both on writes ≡ false → guarded on (written (Contents.Text 0) writes a + b) ≡ false
text_open true true a b h f = absurd (false≢true (sym f))
text_open true false a b h f = ne_eqb ((0 + 0 + 256 * 0 + 1024 * a + b) / 128 % 2) 1 (λ e. omega arith)
text_open false writes a b h f = refl

-- what an act writes leaves which cells are guarded, if the text of a run guards none
module _ (z : Ground) (free : (b : ℕ) → b ≤ 0x7e → guarded z.protect (z.base + b) ≡ false) (off : z.rolls ≡ true → z.protect ≡ false) where
  edits_keep : {p : List ℕ} {at b k : ℕ} {w : Write} → Edits z p at b w k → keeps_guards z.protect w ≡ true
  unfolding keeps_guards
  edits_keep (edits_cell right e g) = ap not (blank_free z.protect true)
  edits_keep (edits_row down e o) = ap not o
  edits_keep (reverses e o t) = ap not o
  edits_keep (clears_row s e) = ap not (blank_free z.protect s)
  edits_keep (clears_rest s e) = ap not (blank_free z.protect s)
  edits_keep (clears_all s e g) = ap not (blank_free z.protect s)

  acts_keep : {l : List ℕ} {i : ℕ} {p : List ℕ} {at n k : ℕ} {w : Write} → Acts z l i p at n w k → keeps_guards z.protect w ≡ true
  unfolding keeps_guards
  acts_keep {l} {i} (stores m s e) = ap not (ap (guarded z.protect) e ∙ free (get_or l i 0) s.high)
  acts_keep (inserts m s e f) = ap not f
  acts_keep (places a o) = refl
  acts_keep (goes g o) = refl
  acts_keep (rolls r) = ap not (off r.mode)
  acts_keep (edits e d) = edits_keep d

  typed_guards : {l : List ℕ} {at₀ i₀ : ℕ} {p₀ : List ℕ} {at i f : ℕ} {p : List ℕ} → Passes z l at₀ i₀ p₀ at i p f
      → guarded_at z.protect p ≡ guarded_at z.protect p₀
  typed_guards none = refl
  typed_guards (acted {w = w} {p = p} u a h k e) =
      ap (guarded_at z.protect) e ∙ kept_guards (ground_width z) z.protect w p (acts_keep a) ∙ typed_guards u
  typed_guards (refused u o k e) = typed_guards u

-- none was closed
not_both : (on writes : Bool) → not (both on writes) ≡ true → both on writes ≡ false
not_both on writes e = not-true (both on writes) e

text_guards : (c : Core) {l : List ℕ} {i₀ : ℕ} {p₀ : List ℕ} {at i r : ℕ} {p : List ℕ} → screen_ok c.screen ≡ true
    → i₀ ≤ length l → FastPath c l i₀ p₀ at i p r → closed_none (eqb i i₀) c.modes.protect c.modes.writeprotect ≡ true
    → guarded_at c.modes.protect p ≡ guarded_at c.modes.protect p₀
text_guards c ok h still f = refl
text_guards c {i₀ = i₀} {p₀ = p₀} {i = i} {p = p} ok h (passing quiet t) f = by (eqb i i₀) refl f
  where
    by : (t : Bool) → eqb i i₀ ≡ t → closed_none t c.modes.protect c.modes.writeprotect ≡ true
        → guarded_at c.modes.protect p ≡ guarded_at c.modes.protect p₀
    by true u f = ap (guarded_at c.modes.protect) (passes_same t h (screen_inside c.screen ok).below (eqb-true i i₀ u)).1.0
    by false u f =
        typed_guards (ground_of c)
        (λ b k. text_open c.modes.protect c.modes.writeprotect c.attribute b k
        (not_both c.modes.protect c.modes.writeprotect f)) (rolls_off c.modes) t

pub path_behind : (c : Core) {l : List ℕ} {i₀ : ℕ} {p₀ : List ℕ} {at i r : ℕ} {p : List ℕ} {rows : List ℕ} → screen_ok c.screen ≡ true
    → i₀ ≤ length l → FastPath c l i₀ p₀ at i p r
    → Beside (width_of c.screen) (guarded_at c.modes.protect p₀) rows
    → Behind (closed_none (eqb i i₀) c.modes.protect c.modes.writeprotect) (width_of c.screen) (guarded_at c.modes.protect p) rows
path_behind c {p₀ = p₀} ok h t (inl e) = inl e
path_behind c {p₀ = p₀} ok h t (inr e) =
    let w = width_of c.screen in
    inr (ap length e ∙ length_list w (guarded_at c.modes.protect p₀), λ f. e ∙ ap (row_list w) (sym (text_guards c ok h t f)))

-- with the core after the run, whose modes and width are those before it
pub moved_behind : (c : Core) (t : Bool) (at : ℕ) (same : Bool) {d : Core} (p : List ℕ) {rows : List ℕ} → d ≡ pick t c (core_at c at)
    → Behind (closed_none same c.modes.protect c.modes.writeprotect) (width_of c.screen) (guarded_at c.modes.protect p) rows
    → Behind (closed_none same d.modes.protect d.modes.writeprotect) (width_of d.screen) (guarded_at d.modes.protect p) rows
unfolding with_cursor
moved_behind c true at same p e b = rw e b
moved_behind c false at same p e b = rw e b

-- ---- it follows

pub followed : {t : Bool} (w : ℕ) (g : List Bool) {l : List ℕ} → Behind t w g l → t ≡ true → Beside w g l
followed w g (inl e) h = inl e
followed w g (inr x) h = inr (x.1 h)

pub behind_length : {t : Bool} (w : ℕ) (g : List Bool) {l : List ℕ} → Behind t w g l → (length l ≡ 0 → ⊥) → length l ≡ 48
behind_length w g (inl e) n = absurd (n e)
behind_length w g (inr x) n = x.0
