-- What the loop over host bytes promises on a good page and state.
use Rattle.std.specs.Prelude.{ℕ, Bool, true, false, not, List}
use Rattle.rules.specs.declared.Core.{Core}
use Rattle.rules.specs.declared.Setup.{Setup}
use Rattle.rules.specs.declared.State.{State}
use Rattle.rules.specs.declared.Sending.{Sending}
use Rattle.rules.specs.declared.Change.{Change}
use Rattle.rules.specs.declared.SetupChange.{SetupChange}
use Rattle.rules.specs.State.{sends}
use Rattle.rules.specs.Calls.{Ran, repeated, run_rule}
use Rattle.rules.specs.Next.{to_event, next_rule}

-- nothing changes beside the core
abbrev pub keeps_setup : SetupChange → Bool
keeps_setup SetupChange.Nothing = true
keeps_setup (SetupChange.Tab c b) = false
keeps_setup SetupChange.ClearTabs = false
keeps_setup (SetupChange.Attribute n a) = false
keeps_setup (SetupChange.Feature n f) = false
keeps_setup SetupChange.HideLine = false
keeps_setup (SetupChange.Wish b) = false

abbrev pub is_nothing : Change → Bool
is_nothing (Change.Gather n b) = false
is_nothing (Change.Take x n) = false
is_nothing (Change.Set x) = keeps_setup x
is_nothing (Change.Send x) = not (sends x)

-- a state by its parts, and one with no send under way
abbrev pub state_with : Core → Sending → List ℕ → Setup → State
state_with c x g u = record { core = c; sending = x; gathered = g; setup = u }

abbrev pub state_of : Core → List ℕ → Setup → State
state_of c g u = state_with c Sending.Nothing g u

-- the run, or the run to the first event
abbrev pub ran_to : Bool → List ℕ → List ℕ → State → ℕ → Ran
ran_to true l p s room = to_event l p s room
ran_to false l p s room = repeated l p s room

-- the call
abbrev pub call_to : Bool → List ℕ → State → List ℕ → ℕ → Ran
call_to true p s l room = next_rule p s l room
call_to false p s l room = run_rule p s l room
