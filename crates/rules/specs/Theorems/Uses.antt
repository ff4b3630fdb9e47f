-- Demand 3 at its extremes: what a narrower statement would leave out stands here as a fact of its own.
use Rattle.std.specs.Prelude.{◌≡◌, true, false, List, [], ◌∷◌, ℕ, replicate}
use Rattle.rules.specs.declared.State.{State}
use Rattle.rules.specs.declared.Place.TheVariants as Place
use Rattle.rules.specs.declared.Sending.TheVariants as Sending
use Rattle.rules.specs.Cell.{protected}
use Rattle.rules.specs.State.{with_sending}
use Rattle.rules.specs.Calls.{Call, Step, Press, play}
use Rattle.rules.specs.Theorems.Noninterference.{Indistinguishable}
use Rattle.rules.specs.Cases.Inputs.{protect_at}
use Rattle.rules.specs.Cases.PersonalityCases.{as60}
use Rattle.rules.specs.Cases.Wide.{wide_protect_at}

-- two pages whose first cells are protected, whatever they hold, and whose other cells are l: the calls tell nothing of the first cell, and leave it
abbrev pub Unseen : List ℕ → State → List Call → Type 0
Unseen l s calls =
    (v w : ℕ) → protected v ≡ true → protected w ≡ true → Indistinguishable (v ∷ l) (w ∷ l) (play calls (v ∷ l) s) (play calls (w ∷ l) s)

-- a key, a byte that answers 1, a letter
abbrev pub some_calls : List Call
some_calls = Press 0x40 3 ∷ Step 0xff 1 ∷ Step 0x41 0 ∷ []

pub record Uses : Type 0 where
  pub narrow : Unseen (replicate 1919 0) (protect_at 5) some_calls
  pub wide : Unseen (replicate 3167 0) (wide_protect_at 5) some_calls
  pub wy60 : Unseen (replicate 1919 0) (as60 (protect_at 5)) some_calls
  -- a page of one cell, a cursor outside the page: every call answers 7
  pub short : Unseen [] (protect_at 5) some_calls
  pub impossible : Unseen (replicate 1919 0) (protect_at 1920) some_calls
  -- inside an ESC 5 send
  pub sending : Unseen (replicate 1919 0) (with_sending (protect_at 5) (Sending.Text false true (Place.Cell 0))) some_calls
  pub no_calls : Unseen (replicate 1919 0) (protect_at 5) []
