-- What each answer of a step leaves (document 01, "Numbers that come back").
use Rattle.std.specs.Prelude.{◌≡◌, List, [], false, ℕ, ◌≤◌}
use Rattle.rules.specs.declared.State.{State}
use Rattle.rules.specs.Cell.{pick, between}
use Rattle.rules.specs.State.{idle, sends}
use Rattle.rules.specs.Possible.{good}
use Rattle.rules.specs.Step.{Outcome, step_rule}

-- pending cleared, rest same
abbrev pub cleared : State → State
cleared s = record { core = idle s.core; sending = s.sending; gathered = s.gathered; setup = s.setup }

-- the column "leaves" for the answers other than 0: 2 to 4 clear the sequence, all others change nothing
abbrev pub leaves : ℕ → State → State
leaves n s = pick (between 2 4 n) (cleared s) s

-- a step o on a page p and a state s left what its answer says, and replied nothing
pub record Left (p : List ℕ) (s : State) (o : Outcome) : Type 0 where
  pub page : o.page ≡ p
  pub state : o.state ≡ leaves o.answer s
  pub reply : o.reply ≡ []

-- a step that answers n and changes nothing
pub record Unchanged (n : ℕ) (p : List ℕ) (s : State) (o : Outcome) : Type 0 where
  pub answer : o.answer ≡ n
  pub page : o.page ≡ p
  pub state : o.state ≡ s
  pub reply : o.reply ≡ []

-- an answer other than 0 leaves what the table says
abbrev pub StepLeft : Type 0
StepLeft = (p : List ℕ) (s : State) (b room : ℕ) → ((step_rule p s b room).answer ≡ 0 → ⊥) → Left p s (step_rule p s b room)

-- a byte of 80h or above changes nothing, whatever sequence is under way; inside a send it waits as any byte does
abbrev pub StepHigh : Type 0
StepHigh =
    (p : List ℕ) (s : State) (b room : ℕ) → 128 ≤ b → sends s.sending ≡ false → Unchanged (pick (good p s) 1 7) p s (step_rule p s b room)
