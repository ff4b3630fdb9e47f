-- The single step: check, decode, plan, carry out. The order of answers is that of the tests here: 7, 1, then 2 or 3 from decoding,
-- 3 or 4 from planning, and 6. Inside a send (document 02, A9) 7, 6, and the send goes on.
use Rattle.std.specs.Prelude.{Bool, true, false, List, [], ◌∷◌, ◌++◌, ℕ, ◌+◌, ltb, eqb}
use Rattle.rules.specs.declared.Core.{Core}
use Rattle.rules.specs.declared.State.{State}
use Rattle.rules.specs.declared.Decoded.{Decoded}
use Rattle.rules.specs.declared.Decoded.TheVariants as Decoded
use Rattle.rules.specs.declared.Change.TheVariants as Change
use Rattle.rules.specs.declared.Pending.TheVariants as Pending
use Rattle.rules.specs.Cell.{pick}
use Rattle.rules.specs.Search.{guarded_at}
use Rattle.rules.specs.State.{number, awaiting, idle, sends, with_sending, sending_after, gathered_after, setup_after}
use Rattle.rules.specs.Possible.{good}
use Rattle.rules.specs.Decode.{decode_rule}
use Rattle.rules.specs.Plan.{plan_rule}
use Rattle.rules.specs.Send.{sent_from, left_from}
use Rattle.rules.specs.Carry.{Effect, effect, quiet, carried}

-- what a byte comes to over the core and the tab stops; what changes beside the core is data
unfoldable pub obeyed : List ℕ → Core → List Bool → Decoded → ℕ → Effect
obeyed p c tabs (Decoded.Wait q) room = quiet 0 (awaiting c q) p
obeyed p c tabs (Decoded.Gather x n b) room = effect 0 (awaiting c (Pending.Text x (n + 1))) (Change.Gather n b) p []
obeyed p c tabs (Decoded.Take x n) room = effect 0 (idle c) (Change.Take x n) p []
obeyed p c tabs (Decoded.Reject a) room = quiet (number a) (idle c) p
obeyed p c tabs (Decoded.Do d) room = carried p c (plan_rule (guarded_at c.modes.protect p) tabs (idle c) d) room

-- a byte on a good page and state; 80h and above answers 1
unfoldable pub inner_rule : List ℕ → Core → List Bool → ℕ → ℕ → Effect
inner_rule p c tabs b room = pick (ltb b 128) (obeyed p c tabs (decode_rule c.pending b) room) (quiet 1 c p)

-- what a step gives and leaves, and whether it took its own byte
pub record Outcome : Type 0 where
  pub answer : ℕ
  pub taken : Bool
  pub state : State
  pub page : List ℕ
  pub reply : List ℕ

-- an answer with which nothing has changed, and the byte is not taken
abbrev pub unheard : ℕ → List ℕ → State → Outcome
unheard n p s = record { answer = n; taken = false; state = s; page = p; reply = [] }

-- the effect with its change made; the byte is taken unless it answers 6
abbrev pub outcome_of : State → Effect → Outcome
outcome_of s e = record {
  answer = e.answer;
  taken = ltb e.answer 6;
  state = record {
    core = e.core;
    sending = sending_after e.change s.sending;
    gathered = gathered_after e.change s.gathered;
    setup = setup_after e.change s.gathered s.setup;
  };
  page = e.page;
  reply = e.reply;
}

-- the send under way goes on, with room
unfoldable pub goes_on : List ℕ → State → ℕ → Outcome
goes_on p s room = record {
  answer = 0;
  taken = false;
  state = with_sending s (left_from p s.core s.sending room);
  page = p;
  reply = sent_from p s.core s.sending room;
}

-- inside a send any byte waits; without room it answers 6
unfoldable pub step_inside : List ℕ → State → ℕ → Outcome
step_inside p s room = pick (eqb room 0) (unheard 6 p s) (goes_on p s room)

-- a page not of the state's own length, or a state not possible, answers 7
unfoldable pub step_rule : List ℕ → State → ℕ → ℕ → Outcome
step_rule p s b room =
    pick (good p s) (pick (sends s.sending) (step_inside p s room) (outcome_of s (inner_rule p s.core s.setup.tabs b room)))
    (unheard 7 p s)
