-- Laws of the call, of each of its ways: no page, a list too short, and a page mended.
-- Assumes nothing.
use mathlib.Core.Path.{◌≡◌, refl, subst, ◌∙◌}
use mathlib.Core.Bool.{Bool, true, false}
use native.Mathlib.Omega.{arith}
use mathlib.Core.List.{List}
use Prim.Native.Nat.{ℕ, ◌/◌, ◌≤◌, ◌<◌}
use lib.ListN.{length}
use borrow.Author.Tests.{le-leb, lt-leb, ne_eqb}
use Rattle.rules.specs.declared.Personality.{Personality}
use Rattle.rules.specs.Row.{columns}
use Rattle.rules.specs.Room.{over}
use Rattle.rules.specs.Fields.{page_width}
use Rattle.std.specs.Prelude.{Ok, Err}
use Rattle.mend.specs.declared.Refusal.{Refusal}
use Rattle.mend.specs.declared.MendResult.{MendResult}
use Rattle.mend.specs.Mend.{mended, damaged, entries, Outcome, outcome, mend_rule, mend_given, Gives}

pub some_columns : (wide : Bool) → columns wide ≡ 0 → ⊥
unfolding columns
some_columns true e = omega (arith, e)
some_columns false e = omega (arith, e)

gives_as : {o o' : Outcome} {r : MendResult} {p l : List ℕ} → o ≡ o' → Gives o r p l → Gives o' r p l
gives_as {r = r} {p = p} {l = l} e x = subst (λ (o : Outcome). Gives o r p l) e x

-- w is the width that the page's length says, n the number of cells that are not writable
module _ (m : Personality) (p l : List ℕ) {w : ℕ} (e : page_width (length p) ≡ w) where
  pub gives_no_page : w ≡ 0 → Gives (mend_rule m p l) (mend_given (Err Refusal.BadCall)) p l
  unfolding mend_rule mend_given
  gives_no_page z =
      let o : outcome 7 0 p l ≡ mend_rule m p l = rw (e ∙ z) in
      gives_as o (record { answer = refl; needed = refl; page = refl; list = refl })

  module _ (z : w ≡ 0 → ⊥) {n : ℕ} (f : n ≡ length (damaged m 0 p)) where
    pub gives_short : length l / 4 < n → Gives (mend_rule m p l) (mend_given (Err (Refusal.NoRoom n))) p l
    unfolding mend_rule mend_given
    gives_short h =
        let o : outcome 6 n p l ≡ mend_rule m p l = rw (e, ne_eqb w 0 z, ← f, lt-leb n (length l / 4) h) in
        gives_as o (record { answer = refl; needed = refl; page = refl; list = refl })

    pub gives_mended : {q k : List ℕ} → n ≤ length l / 4 → q ≡ mended m p → k ≡ over (entries w (damaged m 0 p)) l
        → Gives (mend_rule m p l) (mend_given (Ok n)) q k
    unfolding mend_rule mend_given
    gives_mended h c d =
        let o : outcome 0 n (mended m p) (over (entries w (damaged m 0 p)) l)
        ≡ mend_rule m p l = rw (e, ne_eqb w 0 z, ← f, le-leb n (length l / 4) h) in
        gives_as o (record { answer = refl; needed = refl; page = c; list = d })
