-- The exported mending, from the promise of the crate `mend`.
-- Assumes nothing.
use mathlib.Core.Path.{◌≡◌, refl, subst}
use mathlib.Core.Bool.{true, false}
use mathlib.Core.List.{List}
use Prim.Native.Nat.{ℕ}
use Rattle.rules.specs.declared.Personality.{Personality}
use Rattle.mend.specs.declared.MendResult.{MendResult}
use Rattle.mend.specs.Mend.{mend_rule, Gives}
use Rattle.wy50.specs.Raw.{is_personality, personality_at}
use Rattle.wy50.specs.Mending.{raw_mend}

module _ (v : ℕ) (p l : List ℕ) where
  pub mend_unnamed : is_personality v ≡ false → Gives (raw_mend v p l) (record { answer = 7; needed = 0 }) p l
  unfolding raw_mend
  mend_unnamed off = rw off (record { answer = refl; needed = refl; page = refl; list = refl })

  pub mend_named : {m : Personality} {r : MendResult} {q k : List ℕ} → is_personality v ≡ true → m ≡ personality_at v → Gives (mend_rule m p l) r q k
      → Gives (raw_mend v p l) r q k
  unfolding raw_mend
  mend_named {m} {r} {q} {k} on e h = rw on (subst (λ (x : Personality). Gives (mend_rule x p l) r q k) e h)
