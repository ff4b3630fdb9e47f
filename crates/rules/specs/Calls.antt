-- The public calls: power-on, the run over many bytes, the key press; and lists of calls.
use Rattle.std.specs.Prelude.{Bool, true, false, List, [], ◌∷◌, ◌++◌, ℕ, suc, ◌+◌, ◌-◌, leb, eqb, length, get_or}
use Rattle.rules.specs.declared.State.{State}
use Rattle.rules.specs.declared.Text.{Text}
use Rattle.rules.specs.declared.Personality.{Personality}
use Rattle.rules.specs.Cell.{pick, between}
use Rattle.rules.specs.Row.{narrow_cells}
use Rattle.rules.specs.State.{short_bytes, key_place, sends}
use Rattle.rules.specs.Possible.{power_on, blank, good}
use Rattle.rules.specs.Arguments.{is_key}
use Rattle.rules.specs.Step.{Outcome, goes_on, step_rule}

-- power-on with a personality: a narrow page, all cells 0. A wrong page length answers 7 and leaves the page
unfoldable pub power_on_rule : Personality → List ℕ → Outcome
power_on_rule m p =
    pick (eqb (length p) narrow_cells) (record { answer = 0; taken = false; state = power_on m; page = blank; reply = [] })
    (record { answer = 7; taken = false; state = power_on m; page = p; reply = [] })

-- a run: its answer, bytes taken, how many of these answered 1 to 4, the reply, the bytes not taken
pub record Ran : Type 0 where
  pub answer : ℕ
  pub taken : ℕ
  pub refused : ℕ
  pub reply : List ℕ
  pub rest : List ℕ
  pub state : State
  pub page : List ℕ

abbrev pub ended : List ℕ → State → ℕ → List ℕ → Ran
ended p s n rest = record { answer = n; taken = 0; refused = 0; reply = []; rest = rest; state = s; page = p }

-- 1 for an answer from 1 to 4
abbrev pub refusal : ℕ → ℕ
refusal n = pick (between 1 4 n) 1 0

-- a step that took its byte, and then the rest of the run
unfoldable pub joined : Outcome → Ran → Ran
joined o r = record {
  answer = r.answer;
  taken = suc r.taken;
  refused = refusal o.answer + r.refused;
  reply = o.reply ++ r.reply;
  rest = r.rest;
  state = r.state;
  page = r.page;
}

-- the single step repeated, each with the room that is left; it stops with 6 before the first byte that answers 6, and with 0 where the room
-- ended inside a send
unfoldable pub repeated : List ℕ → List ℕ → State → ℕ → Ran
repeated [] p s room = ended p s 0 []
repeated (b ∷ bs) p s room =
    let o = step_rule p s b room in
    let r = joined o (repeated bs o.page o.state (room - length o.reply)) in
    let q = pick (eqb o.answer 6) (ended p s 6 (b ∷ bs)) r in
    pick (sends s.sending) (ended p s 0 (b ∷ bs)) q

-- a run r behind a reply
unfoldable pub behind : List ℕ → Ran → Ran
behind a r = record {
  answer = r.answer;
  taken = r.taken;
  refused = r.refused;
  reply = a ++ r.reply;
  rest = r.rest;
  state = r.state;
  page = r.page;
}

-- inside a send: as much of it as fits, and then the bytes; without room 6, or 0 over no bytes
unfoldable pub run_inside : List ℕ → State → List ℕ → ℕ → Ran
run_inside p s bytes room =
    let o = goes_on p s room in
    let r = behind o.reply (repeated bytes p o.state (room - length o.reply)) in
    pick (eqb room 0) (ended p s (pick (eqb (length bytes) 0) 0 6) bytes) r

-- on 7: zeros, the whole input back
unfoldable pub run_rule : List ℕ → State → List ℕ → ℕ → Ran
run_rule p s bytes room =
    let r = repeated bytes p s room in
    let i = run_inside p s bytes room in
    pick (good p s) (pick (sends s.sending) i r) (ended p s 7 bytes)

-- a key press: 7, 8, 3, 6 inside a send or where they do not fit, else the key's bytes; an unprogrammed key sends 01h value 0Dh
pub record Pressed : Type 0 where
  pub answer : ℕ
  pub reply : List ℕ

abbrev pub pressed : ℕ → List ℕ → Pressed
pressed n r = record { answer = n; reply = r }

unfoldable pub key_sends : Text 8 → ℕ → List ℕ
key_sends k v = pick (eqb k.len 0) (0x01 ∷ v ∷ 0x0d ∷ []) (short_bytes k)

abbrev pub key_at : State → ℕ → Text 8
key_at s v = get_or s.setup.keys (key_place v) record { len = 0; bytes = [] }

unfoldable pub press_rule : List ℕ → State → ℕ → ℕ → Pressed
press_rule p s v room =
    pick (good p s)
    (pick s.core.modes.locked (pressed 8 [])
    (pick (is_key v)
    (pick (sends s.sending) (pressed 6 [])
    (pick (leb (length (key_sends (key_at s v) v)) room) (pressed 0 (key_sends (key_at s v) v)) (pressed 6 [])))
    (pressed 3 [])))
    (pressed 7 [])

-- a call: a host byte, host bytes or a key, each with the length of its reply room
pub data Call : Type 0 where
  Step : ℕ → ℕ → Call
  Run : List ℕ → ℕ → Call
  Press : ℕ → ℕ → Call

-- what a call gives back, with the state after it. Counts: of a run bytes taken, reply bytes and bytes that answered 1 to 4; of a step bytes taken,
-- 1 or 0, and reply bytes; of a press reply bytes
pub record Given : Type 0 where
  pub answer : ℕ
  pub counts : List ℕ
  pub reply : List ℕ
  pub rest : List ℕ
  pub state : State

pub record Called : Type 0 where
  pub given : Given
  pub page : List ℕ

unfoldable pub of_step : Outcome → Called
of_step o = record {
  given = record { answer = o.answer; counts = pick o.taken 1 0 ∷ length o.reply ∷ []; reply = o.reply; rest = []; state = o.state };
  page = o.page;
}

unfoldable pub of_run : Ran → Called
of_run o = record {
  given = record { answer = o.answer; counts = o.taken ∷ length o.reply ∷ o.refused ∷ []; reply = o.reply; rest = o.rest; state = o.state };
  page = o.page;
}

-- a key press changes neither page nor state
unfoldable pub of_press : List ℕ → State → Pressed → Called
of_press p s o = record { given = record { answer = o.answer; counts = length o.reply ∷ []; reply = o.reply; rest = []; state = s }; page = p }

unfoldable pub call_rule : List ℕ → State → Call → Called
call_rule p s (Step b room) = of_step (step_rule p s b room)
call_rule p s (Run bytes room) = of_run (run_rule p s bytes room)
call_rule p s (Press v room) = of_press p s (press_rule p s v room)

-- a list of calls, each on the page and the state that the last one left
pub record Played : Type 0 where
  pub given : List Given
  pub state : State
  pub page : List ℕ

unfoldable pub after : Given → Played → Played
after g r = record { given = g ∷ r.given; state = r.state; page = r.page }

unfoldable pub play : List Call → List ℕ → State → Played
play [] p s = record { given = []; state = s; page = p }
play (c ∷ cs) p s = let r = call_rule p s c in after r.given (play cs r.page r.given.state)
