-- What `next` tells, and that a loop of it is the run.
use Rattle.std.specs.Prelude.{◌≡◌, true, ◌⊎◌, List, [], ◌∷◌, ℕ, ◌+◌, ◌-◌, ◌<◌, length}
use Rattle.rules.specs.declared.State.{State}
use Rattle.rules.specs.declared.Sending.{Sending}
use Rattle.rules.specs.State.{sends}
use Rattle.rules.specs.Possible.{good}
use Rattle.rules.specs.Send.{command_of, sent_from}
use Rattle.rules.specs.Step.{step_rule}
use Rattle.rules.specs.Calls.{Ran, run_rule}
use Rattle.rules.specs.Theorems.Steps.{preceded}
use Rattle.rules.specs.Theorems.Narrow.{sum, Same, Over}
use Rattle.rules.specs.Next.{is_event, at_event, next_rule, reply_command}

-- next after next over one stream, the first with a room, the others with the rooms listed: each on the page and the state that the last left,
-- over the bytes that it handed back
unfoldable pub fed_next : List ℕ → List ℕ → State → List ℕ → ℕ → Ran
fed_next [] p s bytes room = next_rule p s bytes room
fed_next (n ∷ rooms) p s bytes room =
    let r = next_rule p s bytes room in preceded r.taken r.refused r.reply (fed_next rooms r.page r.state r.rest n)

-- the reply of a send x, whose command is told
pub record Answers (s : State) (bytes : List ℕ) (room : ℕ) (r : Ran) : Type 0 where
  pub sending : Sending
  pub under : sends sending ≡ true
  pub command : command_of sending ≡ reply_command s.sending bytes r.taken (length r.reply)
  pub reply : r.reply ≡ sent_from r.page r.state.core sending room

pub record NextTells : Type 0 where
  -- the run is next, and then the run over the rest with what is left of the room
  pub first : (p : List ℕ) (s : State) (bytes : List ℕ) (room : ℕ) → good p s ≡ true
      → let r = next_rule p s bytes room in
      Same (preceded r.taken r.refused r.reply (run_rule r.page r.state r.rest (room - length r.reply))) (run_rule p s bytes room)
  -- a loop of next through rooms of any sizes, where nothing is left to do, comes to what one run with room enough gives
  pub loop : (rooms p : List ℕ) (s : State) (bytes : List ℕ) (room more : ℕ) → good p s ≡ true → Over (fed_next rooms p s bytes room)
      → Same (fed_next rooms p s bytes room) (run_rule p s bytes (room + sum rooms + more))
  -- bytes are left only behind an event, inside a send or without room for a reply
  pub stops : (p : List ℕ) (s : State) (bytes : List ℕ) (room : ℕ) → good p s ≡ true → 0 < length (next_rule p s bytes room).rest
      → let r = next_rule p s bytes room in (is_event r.answer (length r.reply) ≡ true)
  -- over one byte it is the single step
  pub step : (p : List ℕ) (s : State) (b room : ℕ) → next_rule p s (b ∷ []) room ≡ at_event (step_rule p s b room) b []
  -- one event at the most: what is refused replies nothing
  pub one : (p : List ℕ) (s : State) (bytes : List ℕ) (room : ℕ) → let r = next_rule p s bytes room in (r.answer ≡ 0) ⊎ (r.reply ≡ [])
  -- a reply is that of the command told
  pub replies : (p : List ℕ) (s : State) (bytes : List ℕ) (room : ℕ) → good p s ≡ true → 0 < length (next_rule p s bytes room).reply
      → Answers s bytes room (next_rule p s bytes room)
