-- Searches for an open cell, by eights and with protect mode off.
--     past               a stretch without an open cell is passed
--     none_open          no guarded cell is an open one
--     around_from        a search that wraps begins anywhere before the first cell sought
--     off_here, off_end  with protect mode off every cell is open
-- Assumes nothing.
use mathlib.Core.Path.{◌≡◌, refl, sym, ap, ◌∙◌}
use mathlib.Core.Bool.{Bool, true, false, not}
use mathlib.Core.List.{List}
use mathlib.Core.Logic.{⊎_elim}
use Prim.Native.Nat.{ℕ, zero, suc, ◌+◌, ◌≤◌, ◌<◌}
use native.Mathlib.Nat.{add-zero, eq-or-lt_of_le}
use native.Mathlib.Omega.{arith}
use lib.ListN.{length, get_or}
use Rattle.rules.specs.Search.{guarded_at, others, first_in, around}
use Rattle.rules.proofs.Searching.{hit, miss, first_none, around_here, around_wrapped, around_none, guard_at, open_at, length_guards, length_others}

pub past : (m : List Bool) (n a e : ℕ) → a + n ≤ e → e ≤ length m → ((j : ℕ) → j < n → get_or m (a + j) false ≡ false)
    → first_in m a e ≡ first_in m (a + n) e
past m zero a e h k none = rw add-zero
past m (suc n) a e h k none =
    let next : a + n + 1 ≡ a + suc n = omega arith in
    past m n a e (omega arith) k (λ j b. none j (omega arith))
    ∙ miss m (a + n) e (omega arith) k (sym (none n (omega arith))) refl
    ∙ ap (λ (i : ℕ). first_in m i e) next

pub around_from : (m : List Bool) (first end from near : ℕ) → first_in m from end ≡ first_in m near end
    → around m first end near ≡ around m first end from
unfolding around
around_from m first end from near e = rw e

-- the cells a up to a + n of a page are guarded, so none is open
pub none_open : (g : List Bool) (a n : ℕ) → a + n ≤ length g → ((j : ℕ) → j < n → get_or g (a + j) false ≡ true)
    → (j : ℕ) → j < n → get_or (others g) (a + j) false ≡ false
none_open g a n h all j b = open_at g (a + j) (omega arith) ∙ ap not (all j b)

module _ (p : List ℕ) (end : ℕ) (k : end ≤ length p) where
  open_off : (a : ℕ) → a < end → first_in (others (guarded_at false p)) a end ≡ a
  open_off a h =
      let g = guarded_at false p in
      hit (others g) a end h (omega (arith, length_others g, length_guards false p))
      (sym (open_at g a (omega (arith, length_guards false p)) ∙ ap not (guard_at false p a (omega arith)))) refl

  pub off_here : (first from : ℕ) → from < end → from ≡ around (others (guarded_at false p)) first end from
  off_here first from h = around_here (others (guarded_at false p)) first end from (sym (open_off from h)) h

  pub off_end : (first from : ℕ) → first ≤ end → from ≤ end → end ≤ from → first ≡ around (others (guarded_at false p)) first end from
  off_end first from h b n =
      let m = others (guarded_at false p) in
      let e : from ≡ end = omega arith in
      let none : end ≡ first_in m from end = sym (ap (λ (i : ℕ). first_in m i end) e ∙ first_none m end) in
      ⊎_elim
      (λ s. around_none m first end from none (omega arith) (sym (ap (λ (i : ℕ). first_in m i end) s ∙ first_none m end)) (omega arith))
      (λ s. around_wrapped m first end from none (omega arith) (sym (open_off first s)) s)
      (eq-or-lt_of_le {n = first} {m = end} h)
