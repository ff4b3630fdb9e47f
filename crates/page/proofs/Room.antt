-- Laws of the room.
--     stored_over     bytes put one after the other at the front
-- Assumes nothing.
use mathlib.Core.Path.{◌≡◌, refl, ap, ◌∙◌}
use mathlib.Core.List.{List, [], ◌∷◌}
use Prim.Native.Nat.{ℕ, suc, ◌+◌, ◌≤◌}
use native.Mathlib.Nat.{le_of_suc-le-suc, not-suc-le-zero}
use native.Mathlib.Omega.{arith}
use lib.ListN.{length, set}
use Rattle.page.specs.Room.{stored}
use Rattle.rules.specs.Room.{over}

pub stored_cons : (r : List ℕ) (n y : ℕ) (w : List ℕ) → stored (n + 1) r (y ∷ w) ≡ y ∷ stored n r w
unfolding stored
stored_cons [] n y w = refl
stored_cons (x ∷ r) n y w =
    let e : n + 1 ≡ suc n = omega arith in
    rw e (stored_cons r (suc n) y (set w n x))

pub stored_over : (r w : List ℕ) → length r ≤ length w → stored 0 r w ≡ over r w
unfolding stored over
stored_over [] w h = refl
stored_over (x ∷ r) [] h = absurd (not-suc-le-zero h)
stored_over (x ∷ r) (y ∷ w) h = stored_cons r 0 x w ∙ ap {B = List ℕ} (λ l. x ∷ l) (stored_over r w (le_of_suc-le-suc h))
