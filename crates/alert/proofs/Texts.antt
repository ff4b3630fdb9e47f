-- Laws of what is told of the guarded cells.
--     place_small                         a place in numbers of the machine
--     guarded_on, guarded_off             the line
--     cells_counted                       how many cells are guarded
--     keeps, changes, none_changes, change_steps     the loop over the cells
-- Assumes nothing.
use Rattle.std.proofs.Common.{◌≡◌, ℕ, suc, ◌+◌, ◌*◌, ◌/◌, ◌%◌, ◌<◌, ◌≤◌, Bool, true, false, List, length, get_or, drop, add-one, arith, drop_of_length-le, drop-cons, cond, refl}
use Rattle.std.specs.List.{count_by}
use Rattle.std.proofs.lemmas.List.Recursion.{is_count_by}
use Rattle.rules.specs.Cell.{pick, guarded}
use Rattle.rules.specs.Row.{columns}
use Rattle.rules.proofs.Rows.{by_width, columns_width}
use Rattle.counter.specs.Words.{words}
use Rattle.alert.specs.Room.{count_of, Puts}
use Rattle.alert.specs.Guarded.{guarded_cells, kept, first_change, change_of, guarded_line}
use Rattle.alert.proofs.Puts.{none, and}

-- a place in numbers of the machine
pub place_small : (wide : Bool) {at : ℕ} → at < 24 * columns wide → (at / columns wide ≤ 23) × (at % columns wide ≤ 131)
place_small wide {at} h =
    by_width (λ (w : ℕ). at < 24 * w → (at / w ≤ 23) × (at % w ≤ 131)) (λ h. omega arith) (λ h. omega arith) (columns_width wide) h

-- ---- guarded cells

module _ (w : ℕ) (was is : List ℕ) where
  pub guarded_on : (on : Bool) {c at n n1 n2 n3 : ℕ} {r r1 r2 r3 : List ℕ} → on ≡ true → c ≡ guarded_cells on is → at ≡ first_change on 0 was is
      → Puts (words "Guarded   ") n r n1 r1 → Puts (count_of c (words "cell")) n1 r1 n2 r2 → Puts (change_of w at (length is)) n2 r2 n3 r3
      → Puts (guarded_line w on was is) n r n3 r3
  unfolding guarded_line
  guarded_on true e ec ea x y z = and (and x (rw ec at y)) (rw ea at z)
  guarded_on false e ec ea x y z = let z : ◌≡◌ {A = ℕ} 0 1 = cc in absurd (omega arith)

  pub guarded_off : (on : Bool) {n : ℕ} {r : List ℕ} → on ≡ false → Puts (guarded_line w on was is) n r n r
  unfolding guarded_line
  guarded_off false e = none
  guarded_off true e = let z : ◌≡◌ {A = ℕ} 0 1 = cc in absurd (omega arith)

cell_more : (t : Bool) (n : ℕ) → pick t (suc n) n ≡ cond t (1 + n) n
cell_more true n = omega arith
cell_more false n = refl

pub cells_counted : (on : Bool) (p : List ℕ) → guarded_cells on p ≡ count_by (guarded on) p
unfolding guarded_cells
cells_counted on p = is_count_by (guarded_cells on) (guarded on) refl (λ v l. cell_more (guarded on v) (guarded_cells on l)) p

module _ (on : Bool) (was is : List ℕ) (i : ℕ) (same : length is ≡ length was) where
  -- cell i is as it was
  pub keeps : i < length is → kept on (get_or was i 0) (get_or is i 0) ≡ true
      → first_change on i (drop i was) (drop i is) ≡ first_change on (i + 1) (drop (i + 1) was) (drop (i + 1) is)
  unfolding first_change
  keeps h e = rw (drop-cons was i 0 (omega arith), drop-cons is i 0 h, e, add-one)

  pub changes : i < length is → kept on (get_or was i 0) (get_or is i 0) ≡ false → first_change on i (drop i was) (drop i is) ≡ i
  unfolding first_change
  changes h e = rw (drop-cons was i 0 (omega arith), drop-cons is i 0 h, e)

  pub none_changes : length is ≤ i → first_change on i (drop i was) (drop i is) ≡ i
  unfolding first_change
  none_changes h = rw (drop_of_length-le was {i = i} (omega arith))

pub ruleset change_steps = (keeps, changes, none_changes)
