-- Demand 3 at its extremes.
--     uses     the facts
-- Assumes nothing.
use mathlib.Core.Path.{◌≡◌, refl, sym, ◌∙◌}
use mathlib.Core.Bool.{Bool, true, false, false≢true}
use mathlib.Core.List.{List, [], ◌∷◌}
use Prim.Native.Nat.{ℕ, zero, suc, ◌<◌}
use lib.Dec.{eqb}
use lib.ListN.{length, get_or}
use Rattle.rules.specs.declared.State.{State}
use Rattle.rules.specs.Cell.{both, either, protected}
use Rattle.rules.specs.State.{with_cursor}
use Rattle.rules.specs.Possible.{power_on}
use Rattle.rules.specs.Calls.{Call}
use Rattle.rules.specs.Theorems.Noninterference.{AlikePages, after_escape, any_of, excluded_bytes, completes, call_completes, any_completed}
use Rattle.rules.specs.Theorems.Noninterference.{revealing}
use Rattle.rules.specs.Cases.Inputs.{cursor_at, protect_at}
use Rattle.rules.specs.Cases.PersonalityCases.{as60}
use Rattle.rules.specs.Cases.Wide.{wide_at, wide_protect_at}
use Rattle.rules.specs.Theorems.Uses.{Unseen, some_calls, Uses}
use Rattle.rules.proofs.Noninterference.{noninterference}

alike_first : (v w : ℕ) (l : List ℕ) → protected v ≡ true → protected w ≡ true → AlikePages (v ∷ l) (w ∷ l)
alike_first v w l a b = record { size = refl; bits = bits; cells = cells }
  where
    bits : (i : ℕ) → i < length (v ∷ l) → protected (get_or (v ∷ l) i 0) ≡ protected (get_or (w ∷ l) i 0)
    bits zero h = a ∙ sym b
    bits (suc i) h = refl

    cells : (i : ℕ) → i < length (v ∷ l) → protected (get_or (v ∷ l) i 0) ≡ false → get_or (v ∷ l) i 0 ≡ get_or (w ∷ l) i 0
    cells zero h e = absurd (false≢true (sym e ∙ a))
    cells (suc i) h e = refl

-- none of these bytes completes one of the six
not_six : (t x : Bool) → both (both t false) x ≡ false
not_six true x = refl
not_six false x = refl

step_none : (s : State) (b a : ℕ) → any_of excluded_bytes b ≡ false → completes s b a ≡ false
unfolding completes
step_none s b a e = rw e (not_six (after_escape s.core.pending) (eqb a 0))

neither : {a b : Bool} → a ≡ false → b ≡ false → either a b ≡ false
neither h k = rw (h, k)

calls_none : (p : List ℕ) (s : State) → any_completed some_calls p s ≡ false
unfolding any_completed call_completes
calls_none p s = neither (step_none _ 0xff _ refl) (neither (step_none _ 0x41 _ refl) refl)

no_calls_none : (p : List ℕ) (s : State) → any_completed [] p s ≡ false
unfolding any_completed
no_calls_none p s = refl

unseen : (l : List ℕ) (s : State) (calls : List Call) → s.core.modes.protect ≡ true → revealing s.sending ≡ false
    → ((p : List ℕ) → any_completed calls p s ≡ false) → Unseen l s calls
unseen l s calls on conceals e v w a b =
    noninterference (v ∷ l) (w ∷ l) s s calls on conceals record { state = refl; pages = alike_first v w l a b } (e (v ∷ l))

pub uses : Uses
unfolding protect_at cursor_at with_cursor as60 wide_protect_at wide_at power_on
uses = record {
  narrow = unseen _ _ some_calls refl refl (λ p. calls_none p _);
  wide = unseen _ _ some_calls refl refl (λ p. calls_none p _);
  wy60 = unseen _ _ some_calls refl refl (λ p. calls_none p _);
  short = unseen _ _ some_calls refl refl (λ p. calls_none p _);
  impossible = unseen _ _ some_calls refl refl (λ p. calls_none p _);
  sending = unseen _ _ some_calls refl refl (λ p. calls_none p _);
  no_calls = unseen _ _ [] refl refl (λ p. no_calls_none p _);
}
