-- `next`: a run that stops at the first event, so that a caller knows of each reply and of each refusal which byte it answers.
use Rattle.std.specs.Prelude.{Bool, not, List, [], ◌∷◌, ℕ, eqb, length, get_or}
use Rattle.rules.specs.declared.State.{State}
use Rattle.rules.specs.declared.Sending.{Sending}
use Rattle.rules.specs.Cell.{pick, both}
use Rattle.rules.specs.State.{sends}
use Rattle.rules.specs.Possible.{good}
use Rattle.rules.specs.Send.{command_of}
use Rattle.rules.specs.Step.{Outcome, goes_on, step_rule}
use Rattle.rules.specs.Calls.{Ran, ended, refusal, joined, behind}

-- an event: an answer other than 0, or a reply
abbrev pub is_event : ℕ → ℕ → Bool
is_event answer replied = not (both (eqb answer 0) (eqb replied 0))

abbrev pub tells : Outcome → Bool
tells o = is_event o.answer (length o.reply)

-- the run that ends with it: behind its byte, or before one that answers 6
unfoldable pub at_event : Outcome → ℕ → List ℕ → Ran
at_event o b bs = record {
  answer = o.answer;
  taken = pick o.taken 1 0;
  refused = refusal o.answer;
  reply = o.reply;
  rest = pick o.taken bs (b ∷ bs);
  state = o.state;
  page = o.page;
}

-- the single step repeated up to the first event, and its answer
unfoldable pub to_event : List ℕ → List ℕ → State → ℕ → Ran
to_event [] p s room = ended p s 0 []
to_event (b ∷ bs) p s room =
    let o = step_rule p s b room in
    let r = joined o (to_event bs o.page o.state room) in
    pick (tells o) (at_event o b bs) r

-- inside a send that goes on, and all bytes wait; without room as a run
unfoldable pub next_inside : List ℕ → State → List ℕ → ℕ → Ran
next_inside p s bytes room =
    let o = goes_on p s room in
    pick (eqb room 0) (ended p s (pick (eqb (length bytes) 0) 0 6) bytes) (behind o.reply (ended p o.state 0 bytes))

unfoldable pub next_rule : List ℕ → State → List ℕ → ℕ → Ran
next_rule p s bytes room =
    let r = to_event bytes p s room in
    let i = next_inside p s bytes room in
    pick (good p s) (pick (sends s.sending) i r) (ended p s 7 bytes)

-- which command a reply answers: that of the send under way before the call, or the last byte taken. 0 without a reply
unfoldable pub reply_command : Sending → List ℕ → ℕ → ℕ → ℕ
reply_command y bytes taken replied = pick (eqb replied 0) 0 (pick (sends y) (command_of y) (get_or (0 ∷ bytes) taken 0))
