-- What is known where a test gave an Option, and what the test of two equal structs says.
--     none_is     nothing: the test fails
--     some_is     a value: the test holds, and it is that value
--     tests     both, for `using`
--     some_and     and a test of the value
--     three, four     as many tests, joined
-- Assumes nothing.
use Rattle.std.specs.Prelude.{◌≡◌, Bool, true, false, ◌&&◌, Option, None, Some, MatchOption}
use Rattle.std.specs.Bool.{then_some}
use Rattle.rules.specs.Cell.{both}
use mathlib.Core.Path.{refl}

pub none_is : {A : Type 0} (t : Bool) (v : A) → None ≡ then_some t v → t ≡ false
none_is true v h = cc
none_is false v h = refl

pub some_is : {A : Type 0} (t : Bool) {v w : A} → Some w ≡ then_some t v → (t ≡ true) × (w ≡ v)
some_is true h = (refl, cc)
some_is false h = cc

pub ruleset tests = (none_is, some_is)

pub some_and : {A : Type 0} (t : Bool) (v : A) (f : A → Bool) {o : Option A} {r : Bool} → o ≡ then_some t v
    → MatchOption o (r ≡ false) (λ x. r ≡ f x) → r ≡ both t (f v)
some_and true v f e h = rw e at h
some_and false v f e h = rw e at h

pub three : (a b c : Bool) → (a && (b && c)) ≡ both a (both b c)
three true true c = refl
three true false c = refl
three false b c = refl

pub four : (a b c d : Bool) → (a && (b && (c && d))) ≡ both a (both b (both c d))
four true b c d = three b c d
four false b c d = refl
