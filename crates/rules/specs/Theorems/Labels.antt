-- What request A7 of document 02 is for: in every state, with protect mode on or off, the reply of ESC 4 and ESC 5 does not depend on the
-- contents of any cell that is marked protected.
use Rattle.std.specs.Prelude.{◌≡◌, Bool, false, ◌⊎◌, List, ℕ}
use Rattle.rules.specs.declared.State.{State}
use Rattle.rules.specs.declared.Pending.TheVariants as Pending
use Rattle.rules.specs.declared.Place.{Place}
use Rattle.rules.specs.declared.Sending.TheVariants as Sending
use Rattle.rules.specs.Step.{Outcome, step_rule}
use Rattle.rules.specs.Theorems.Noninterference.{Alike}

-- two steps on the pages p and q give the same and leave their pages
pub record Agreeing (p q : List ℕ) (a b : Outcome) : Type 0 where
  pub reply : a.reply ≡ b.reply
  pub answer : a.answer ≡ b.answer
  pub taken : a.taken ≡ b.taken
  pub state : a.state ≡ b.state
  pub first : a.page ≡ p
  pub second : b.page ≡ q

-- the byte 4 or 5 after ESC, in any state and with any room, on pages that differ only in the contents of protected cells; and such a send that
-- goes on, whatever the byte
pub record LabelsStayIn : Type 0 where
  pub begins : (p q : List ℕ) (s t : State) (b room : ℕ) → Alike p q s t → s.core.pending ≡ Pending.Escape → (b ≡ 0x34) ⊎ (b ≡ 0x35)
      → Agreeing p q (step_rule p s b room) (step_rule q t b room)
  pub goes_on_lem : (p q : List ℕ) (s t : State) (b room : ℕ) (segment : Bool) (k : Place) → Alike p q s t → s.sending ≡ Sending.Text false segment k
      → Agreeing p q (step_rule p s b room) (step_rule q t b room)
