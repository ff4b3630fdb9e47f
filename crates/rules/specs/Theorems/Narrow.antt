-- Replies through a narrow line (document 02, A9): what a caller relies on who lends small rooms.
use Rattle.std.specs.Prelude.{◌≡◌, true, false, ◌⊎◌, List, [], ◌∷◌, ◌++◌, ℕ, ◌+◌, ◌<◌, ◌≤◌, length}
use Rattle.rules.specs.declared.State.{State}
use Rattle.rules.specs.State.{sends}
use Rattle.rules.specs.Possible.{good}
use Rattle.rules.specs.Send.{sent_from}
use Rattle.rules.specs.Step.{step_rule}
use Rattle.rules.specs.Calls.{Ran, run_rule}
use Rattle.rules.specs.Theorems.Steps.{preceded}
use Rattle.rules.specs.Theorems.Bound.{longest, left_over}

unfoldable pub sum : List ℕ → ℕ
sum [] = 0
sum (n ∷ l) = n + sum l

-- run after run over one stream, the first with a room, the others with the rooms listed: each on the page and the state that the last left, over
-- the bytes that it handed back; their counts and their replies joined
unfoldable pub fed : List ℕ → List ℕ → State → List ℕ → ℕ → Ran
fed [] p s bytes room = run_rule p s bytes room
fed (n ∷ rooms) p s bytes room =
    let r = run_rule p s bytes room in preceded r.taken r.refused r.reply (fed rooms r.page r.state r.rest n)

-- two runs that took and sent the same and stand at the same place
pub record Same (a b : Ran) : Type 0 where
  pub taken : a.taken ≡ b.taken
  pub refused : a.refused ≡ b.refused
  pub reply : a.reply ≡ b.reply
  pub rest : a.rest ≡ b.rest
  pub page : a.page ≡ b.page
  pub state : a.state ≡ b.state

-- nothing is left to do: no byte, and no send under way
pub record Over (r : Ran) : Type 0 where
  pub taken : r.rest ≡ []
  pub sent : sends r.state.sending ≡ false

pub record InRooms : Type 0 where
  -- a stream through rooms of any sizes comes to what one run with their sum gives
  pub as_one : (rooms p : List ℕ) (s : State) (bytes : List ℕ) (room : ℕ) → good p s ≡ true
      → Same (fed rooms p s bytes room) (run_rule p s bytes (room + sum rooms))
  -- where nothing is left to do, any greater room gives the same: they come to what one run with room enough gives
  pub enough : (rooms p : List ℕ) (s : State) (bytes : List ℕ) (room more : ℕ) → good p s ≡ true → Over (fed rooms p s bytes room)
      → Same (fed rooms p s bytes room) (run_rule p s bytes (room + sum rooms + more))
  -- inside a send, runs over no bytes send what is left of it, as one room with their sum would
  pub sent : (rooms p : List ℕ) (s : State) (room : ℕ) → good p s ≡ true → sends s.sending ≡ true
      → (fed rooms p s [] room).reply ≡ sent_from p s.core s.sending (room + sum rooms)
  -- and a step sends what a run over no bytes does
  pub step : (p : List ℕ) (s : State) (b room : ℕ) → good p s ≡ true → sends s.sending ≡ true
      → ((step_rule p s b room).reply ≡ (run_rule p s [] room).reply) × ((step_rule p s b room).state ≡ (run_rule p s [] room).state)

-- with any room a step takes its byte or sends one, and a run takes one of its bytes or sends one, where it has bytes or a send is under way
pub record Progress : Type 0 where
  pub step : (p : List ℕ) (s : State) (b room : ℕ) → good p s ≡ true → 0 < room
      → ((step_rule p s b room).taken ≡ true) ⊎ (0 < length (step_rule p s b room).reply)
  pub run : (p : List ℕ) (s : State) (bytes : List ℕ) (room : ℕ) → good p s ≡ true → 0 < room → (0 < length bytes) ⊎ (sends s.sending ≡ true)
      → (0 < (run_rule p s bytes room).taken) ⊎ (0 < length (run_rule p s bytes room).reply)
  -- a run that stops with 0 before its last byte is inside a send, and has used its room up
  pub stops : (p : List ℕ) (s : State) (bytes : List ℕ) (room : ℕ) → good p s ≡ true → (run_rule p s bytes room).answer ≡ 0
      → 0 < length (run_rule p s bytes room).rest
      → (sends (run_rule p s bytes room).state.sending ≡ true) × (length (run_rule p s bytes room).reply ≡ room)

-- when a run over some bytes takes at least one, on a good page and state
pub record EnoughRoom : Type 0 where
  -- outside a send, with any room
  pub outside : (p : List ℕ) (s : State) (bytes : List ℕ) (room : ℕ) → good p s ≡ true → 0 < length bytes → sends s.sending ≡ false → 0 < room
      → 0 < (run_rule p s bytes room).taken
  -- inside one, with more room than the send wants
  pub inside : (p : List ℕ) (s : State) (bytes : List ℕ) (room : ℕ) → good p s ≡ true → 0 < length bytes → sends s.sending ≡ true
      → length (left_over p s) < room → 0 < (run_rule p s bytes room).taken
  -- "so with that room a non-empty run on a good page and state takes at least one byte"
  pub takes : (p : List ℕ) (s : State) (bytes : List ℕ) (room : ℕ) → good p s ≡ true → 0 < length bytes → longest s.core.screen.wide ≤ room
      → 0 < (run_rule p s bytes room).taken
  -- a step inside a send ends it, with as much room as it wants
  pub ends : (p : List ℕ) (s : State) (b room : ℕ) → good p s ≡ true → sends s.sending ≡ true → length (left_over p s) ≤ room
      → sends (step_rule p s b room).state.sending ≡ false
