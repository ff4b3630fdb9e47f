-- Laws of tests.
-- Assumes nothing.
use Rattle.std.specs.Prelude.{◌≡◌, Bool, true, false, T}
use mathlib.Core.Path.{refl, sym, subst}
use Rattle.rules.specs.Cell.{both}

pub both_left : (a b : Bool) → both a b ≡ true → a ≡ true
both_left true b h = refl
both_left false b h = h

pub both_right : (a b : Bool) → both a b ≡ true → b ≡ true
both_right true b h = h
both_right false b h = absurd (subst T (sym h) tt)

pub both_true : (a : Bool) → both a true ≡ a
both_true true = refl
both_true false = refl
