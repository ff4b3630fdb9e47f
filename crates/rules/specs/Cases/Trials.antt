-- Trials of what a command changes: a byte after others, from a page whose first cells are given, and a state.
use Rattle.std.specs.Prelude.{List, [], ◌∷◌, ℕ}
use Rattle.rules.specs.declared.State.{State}

pub record Trial : Type 0 where
  pub cells : List ℕ
  pub state : State
  pub before : List ℕ
  pub byte : ℕ

abbrev pub trial : List ℕ → State → List ℕ → ℕ → Trial
trial p s l b = record { cells = p; state = s; before = l; byte = b }

-- a command that one trial shows
abbrev pub one : List ℕ → State → List ℕ → ℕ → List Trial
one p s l b = trial p s l b ∷ []
