-- The run over many bytes as the single step repeated: the steps that it takes, and what it gives by them.
use Rattle.std.specs.Prelude.{◌≡◌, Bool, true, false, List, [], ◌∷◌, ◌++◌, ℕ, ◌+◌, ◌-◌, ◌<◌, ◌≤◌, leb, eqb, length, get_or, take, drop}
use Rattle.rules.specs.declared.State.{State}
use Rattle.rules.specs.Cell.{pick, both}
use Rattle.rules.specs.State.{sends}
use Rattle.rules.specs.Possible.{good}
use Rattle.rules.specs.Step.{Outcome, goes_on, step_rule}
use Rattle.rules.specs.Calls.{Ran, ended, behind, repeated, run_rule}

-- the step on each byte in turn, on the page and the state that the last left, with the room that is left, up to the first that answers 6 or
-- finds a send under way
unfoldable pub steps : List ℕ → List ℕ → State → ℕ → List Outcome
steps [] p s room = []
steps (b ∷ bs) p s room =
    let o = step_rule p s b room in
    let l = o ∷ steps bs o.page o.state (room - length o.reply) in
    let q = pick (eqb o.answer 6) [] l in
    pick (sends s.sending) [] q

-- an answer from 1 to 4
abbrev pub is_refusal : ℕ → Bool
is_refusal n = both (leb 1 n) (leb n 4)

-- how many steps answered 1 to 4
unfoldable pub refusals : List Outcome → ℕ
refusals [] = 0
refusals (o ∷ l) = pick (is_refusal o.answer) 1 0 + refusals l

-- their replies joined
unfoldable pub replies_of : List Outcome → List ℕ
replies_of [] = []
replies_of (o ∷ l) = o.reply ++ replies_of l

-- what the last of them left; with no step, the start
unfoldable pub last_page : List ℕ → List Outcome → List ℕ
last_page p [] = p
last_page p (o ∷ l) = last_page o.page l

unfoldable pub last_state : State → List Outcome → State
last_state s [] = s
last_state s (o ∷ l) = last_state o.state l

-- a run that stopped: 0, inside a send, and no room is left; or 6, and so does the step on the first byte not taken, where the run stands and
-- with the room that is left
pub data Stopped (bytes : List ℕ) (room : ℕ) (r : Ran) : Type 0 where
  in_send_lem : r.answer ≡ 0 → sends r.state.sending ≡ true → length r.reply ≡ room → Stopped bytes room r
  no_room : r.answer ≡ 6 → (step_rule r.page r.state (get_or bytes r.taken 0) (room - length r.reply)).answer ≡ 6
      → Stopped bytes room r

-- what a run r over the bytes gives, from a page p and a state s, l being its steps
pub record Repeats (p : List ℕ) (s : State) (bytes : List ℕ) (room : ℕ) (l : List Outcome) (r : Ran) : Type 0 where
  pub taken : r.taken ≡ length l
  pub refused : r.refused ≡ refusals l
  pub reply : r.reply ≡ replies_of l
  pub page : r.page ≡ last_page p l
  pub state : r.state ≡ last_state s l
  -- the bytes not taken are that part of the input: nothing is lost
  pub most : r.taken ≤ length bytes
  pub rest : r.rest ≡ drop r.taken bytes
  pub whole : take r.taken bytes ++ r.rest ≡ bytes
  -- 0 if all bytes are taken
  pub all : r.taken ≡ length bytes → r.answer ≡ 0
  pub some : r.taken < length bytes → Stopped bytes room r

-- what a run r inside a send gives: the send goes on with the room, and then the bytes with what is left of it
pub record Resumes (p : List ℕ) (s : State) (bytes : List ℕ) (room : ℕ) (r : Ran) : Type 0 where
  pub bytes_run : Ran
  pub repeats : Repeats p (goes_on p s room).state bytes (room - length (goes_on p s room).reply)
      (steps bytes p (goes_on p s room).state (room - length (goes_on p s room).reply)) bytes_run
  pub whole : r ≡ behind (goes_on p s room).reply bytes_run

-- a run that was refused: 7, zeros, no reply, the whole input back, nothing changed
pub record Refused (p : List ℕ) (s : State) (bytes : List ℕ) (r : Ran) : Type 0 where
  pub answer : r.answer ≡ 7
  pub taken : r.taken ≡ 0
  pub refused : r.refused ≡ 0
  pub reply : r.reply ≡ []
  pub rest : r.rest ≡ bytes
  pub page : r.page ≡ p
  pub state : r.state ≡ s

-- "a run over many bytes is the single step repeated, replies joined", on a good page and state
abbrev pub RunRepeats : Type 0
RunRepeats =
    (p : List ℕ) (s : State) (bytes : List ℕ) (room : ℕ) → good p s ≡ true → sends s.sending ≡ false
    → Repeats p s bytes room (steps bytes p s room) (run_rule p s bytes room)

-- inside a send (document 02, A9): with room the send goes on first; without, 6, or 0 over no bytes, and nothing has changed
abbrev pub RunResumes : Type 0
RunResumes =
    (p : List ℕ) (s : State) (bytes : List ℕ) (room : ℕ) → good p s ≡ true → sends s.sending ≡ true → 0 < room
    → Resumes p s bytes room (run_rule p s bytes room)

abbrev pub RunUnheard : Type 0
RunUnheard =
    (p : List ℕ) (s : State) (bytes : List ℕ) → good p s ≡ true → sends s.sending ≡ true
    → run_rule p s bytes 0 ≡ ended p s (pick (eqb (length bytes) 0) 0 6) bytes

-- on any other page or state it is refused
abbrev pub RunRefused : Type 0
RunRefused = (p : List ℕ) (s : State) (bytes : List ℕ) (room : ℕ) → good p s ≡ false → Refused p s bytes (run_rule p s bytes room)

-- a run after another that took i bytes, of which f were refused, and replied a
abbrev pub preceded : ℕ → ℕ → List ℕ → Ran → Ran
preceded i f a r = record {
  answer = r.answer;
  taken = i + r.taken;
  refused = f + r.refused;
  reply = a ++ r.reply;
  rest = r.rest;
  state = r.state;
  page = r.page;
}

-- a run r, and then a run over more bytes from where it stands, with what it left of the room
abbrev pub continued : ℕ → List ℕ → Ran → Ran
continued room more r =
    preceded r.taken r.refused r.reply (repeated more r.page r.state (room - length r.reply))
