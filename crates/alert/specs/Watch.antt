-- Where a stream starts, on a narrow or a wide page; the bytes of a host, one by one: the page and the state that they leave, and the page as it was
-- when
-- protect mode last went on.
use Rattle.std.specs.Prelude.{◌≡◌, ℕ, zero, suc, ◌<◌, Bool, true, false, not, List, [], ◌∷◌, replicate}
use Rattle.rules.specs.declared.Personality.{Personality}
use Rattle.rules.specs.declared.State.{State}
use Rattle.rules.specs.Cell.{pick, both}
use Rattle.rules.specs.Row.{columns, wide_cells}
use Rattle.rules.specs.State.{width_of, sends}
use Rattle.rules.specs.Possible.{power_on, blank, good}
use Rattle.rules.specs.Step.{Outcome, step_rule}
use Rattle.rules.specs.Calls.{Ran, run_rule}
use Rattle.rules.specs.Convert.{Turned, unturned, convert_rule}

-- the page and the state after the power-on of a personality, or after the conversion of these to a wide page
unfoldable pub start_on : Bool → Personality → Turned
start_on wide m = pick wide (convert_rule blank (power_on m) (replicate wide_cells 0)) (unturned 0 blank (power_on m))

-- it is never refused, and leaves a page and a state of that width, with no send under way
pub record Starts (wide : Bool) (m : Personality) : Type 0 where
  pub answer : (start_on wide m).answer ≡ 0
  pub fine : good (start_on wide m).target (start_on wide m).state ≡ true
  pub width : width_of (start_on wide m).state.core.screen ≡ columns wide
  pub quiet : sends (start_on wide m).state.sending ≡ false

-- the page and the state after a step are those of its outcome
pub record Took (o : Outcome) (s : State) (p : List ℕ) : Type 0 where
  pub state : s ≡ o.state
  pub page : p ≡ o.page

-- so are those after a run
pub record Ended (o : Ran) (s : State) (p : List ℕ) : Type 0 where
  pub state : s ≡ o.state
  pub page : p ≡ o.page

-- protect mode was off and is on
abbrev pub goes_on : Bool → Bool → Bool
goes_on was is = both (not was) is

-- what is watched: the page, the page as it was when protect mode last went on, and the state
pub record Watch : Type 0 where
  pub page : List ℕ
  pub drawn : List ℕ
  pub state : State

abbrev pub watch : List ℕ → List ℕ → State → Watch
watch p d s = record { page = p; drawn = d; state = s }

-- the step on a byte, with a reply room of n bytes; where protect mode goes on, the page that it leaves is kept
abbrev pub watched_as : Outcome → Watch → Watch
watched_as o x =
    watch o.page (pick (goes_on x.state.core.modes.protect o.state.core.modes.protect) o.page x.drawn) o.state

unfoldable pub stepped : ℕ → Watch → ℕ → Watch
stepped n x b = watched_as (step_rule x.page x.state b n) x

-- a send under way goes on: a run over no bytes
unfoldable pub resumed : ℕ → Watch → Watch
resumed n x = let r = run_rule x.page x.state [] n in watch r.page x.drawn r.state

-- it goes on until it is over, k times at the most
unfoldable pub finished : ℕ → ℕ → Watch → Watch
finished n zero x = x
finished n (suc k) x = let r = finished n k (resumed n x) in pick (sends x.state.sending) r x

-- no reply is longer, and each time at least a byte is sent
abbrev pub most_times : ℕ
most_times = 3192

-- one byte, and all that it has the terminal send
unfoldable pub watched : ℕ → Watch → ℕ → Watch
watched n x b = finished n most_times (stepped n x b)

-- many bytes
unfoldable pub watched_all : ℕ → Watch → List ℕ → Watch
watched_all n x [] = x
watched_all n x (b ∷ l) = watched_all n (watched n x b) l

-- the bytes l bring x to y; some bytes do
pub record FedBy (l : List ℕ) (n : ℕ) (x y : Watch) : Type 0 where
  pub is : y ≡ watched_all n x l

pub record Fed (n : ℕ) (x y : Watch) : Type 0 where
  pub bytes : List ℕ
  pub is : y ≡ watched_all n x bytes

-- no byte has come yet
abbrev pub starting : Bool → Personality → List ℕ → Watch
starting wide m drawn = watch (start_on wide m).target drawn (start_on wide m).state

-- some bytes from the start of a personality at a width leave this page and this state, and `drawn` is the page as it was when protect mode last went
-- on
pub record Came (page drawn : List ℕ) (s : State) : Type 0 where
  pub wide : Bool
  pub personality : Personality
  pub kept : List ℕ
  pub room : ℕ
  pub fed : Fed room (starting wide personality kept) (watch page drawn s)

-- every byte is taken: whatever bytes came before it from the start, with any reply room but 0, no send is under way when it comes
abbrev pub EachTaken : Type 0
EachTaken =
    (wide : Bool) (m : Personality) (drawn bytes : List ℕ) (b n : ℕ) → 0 < n
    → (step_rule (watched_all n (starting wide m drawn) bytes).page (watched_all n (starting wide m drawn) bytes).state b n).taken ≡ true
