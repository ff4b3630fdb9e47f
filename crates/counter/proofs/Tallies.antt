-- Laws of the walk over a text.
--     within_more, within_character                  how large its numbers are
--     walk_mark, walk_refused, walk_on, walk_end     one turn of its loop
--     walk_steps                                     all of these
-- Assumes nothing.
use mathlib.Core.Path.{◌≡◌, refl}
use mathlib.Core.Bool.{Bool, true, false}
use mathlib.Core.List.{List}
use Prim.Native.Nat.{ℕ, ◌+◌, ◌≤◌, ◌<◌}
use native.Mathlib.Numerals.{add-one}
use native.Mathlib.Omega.{arith}
use lib.Dec.{leb}
use lib.ListN.{length, get_or, drop, drop_of_length-le}
use lib.Seq.{drop-cons}
use borrow.Author.Tests.{leb-true}
use Rattle.rules.specs.Cell.{pick}
use Rattle.std.specs.Prelude.{Err}
use Rattle.counter.specs.declared.Refusal.{Refusal}
use Rattle.counter.specs.declared.text.Tally.{Tally}
use Rattle.counter.specs.Alphabet.{in_alphabet, cost}
use Rattle.counter.specs.Parts.{of_several}
use Rattle.counter.specs.Count.{of_units}
use Rattle.counter.specs.Walk.{tallied, tally_parts, Within, cuts, refuses, advanced, walked}
use Rattle.counter.proofs.Fewest.{cost_small}

-- ---- how large the numbers are

pub within_more : {t : Tally} {n m : ℕ} → Within t n → n ≤ m → Within t m
within_more g h = record { place = omega arith; parts = omega arith; held = g.held }

held_small : (t : Tally) (n : ℕ) (s : Bool) → leb (t.held + n) of_several ≡ s → n ≤ 2 → pick s (t.held + n) n ≤ of_several
held_small t n true e h = leb-true _ _ e
held_small t n false e h = omega arith

parts_small : (p : ℕ) (s : Bool) → pick s p (p + 1) ≤ p + 1
parts_small p true = omega arith
parts_small p false = omega arith

pub within_character : (t : Tally) (b n : ℕ) → Within t n → Within (tallied t (cost b)) (n + 1)
unfolding tallied
within_character t b n g = record {
  place = omega arith;
  parts = omega (arith, parts_small t.parts (leb (t.held + cost b) of_several), g.parts);
  held = held_small t (cost b) (leb (t.held + cost b) of_several) refl (cost_small b);
}

-- ---- one turn

module _ (cut : Bool) (t : Tally) (l : List ℕ) (i : ℕ) (h : i < length l) where
  pub walk_mark : cuts cut (get_or l i 0) ≡ true → walked cut t (drop i l) ≡ walked cut t (drop (i + 1) l)
  unfolding walked refuses advanced
  walk_mark e = rw (drop-cons l i 0 h, e, add-one)

  pub walk_refused : cuts cut (get_or l i 0) ≡ false → in_alphabet (get_or l i 0) ≡ false → walked cut t (drop i l) ≡ Err (Refusal.BadByte t.place)
  unfolding walked refuses
  walk_refused e f = rw (drop-cons l i 0 h, e, f)

  pub walk_on : cuts cut (get_or l i 0) ≡ false → in_alphabet (get_or l i 0) ≡ true
      → walked cut t (drop i l) ≡ walked cut (tallied t (cost (get_or l i 0))) (drop (i + 1) l)
  unfolding walked refuses advanced
  walk_on e f = rw (drop-cons l i 0 h, e, f, add-one)

pub walk_end : (cut : Bool) (t : Tally) (l : List ℕ) (i : ℕ) → length l ≤ i → walked cut t (drop i l) ≡ of_units t.units (tally_parts t)
unfolding walked
walk_end cut t l i h = rw (drop_of_length-le l h)

pub ruleset walk_steps = (within_more, within_character, walk_mark, walk_refused, walk_on, walk_end)
