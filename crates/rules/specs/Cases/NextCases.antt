-- Worked cases of `next`.
use Rattle.std.specs.Prelude.{Bool, true, List, [], ◌∷◌, ◌++◌, ℕ, eqb, length}
use Rattle.rules.specs.declared.State.{State}
use Rattle.rules.specs.Cell.{both, same}
use Rattle.rules.specs.Possible.{blank}
use Rattle.rules.specs.Calls.{Ran, run_rule}
use Rattle.rules.specs.Next.{next_rule, reply_command}
use Rattle.rules.specs.Cases.Bench.{wy50}
use Rattle.rules.specs.Cases.Inputs.{esc, labelled, protect_at}

-- bytes from power-on, with a room; then `next` over some bytes, with a room: its answer, the bytes taken, how many were refused, the bytes left,
-- the command and the reply
pub data NextCase : Type 0 where
  behind : List ℕ → ℕ → List ℕ → ℕ → ℕ → ℕ → ℕ → List ℕ → ℕ → List ℕ → NextCase

unfoldable pub next_holds : State → List ℕ → Ran → ℕ → ℕ → ℕ → List ℕ → ℕ → List ℕ → Bool
next_holds s bytes r answer taken refused rest command reply =
    both (both (eqb r.answer answer) (both (eqb r.taken taken) (eqb r.refused refused)))
    (both (same r.rest rest) (both (eqb (reply_command s.sending bytes r.taken (length r.reply)) command) (same r.reply reply)))

unfoldable pub next_cases_hold : List NextCase → Bool
next_cases_hold [] = true
next_cases_hold (behind before n bytes room answer taken refused rest command reply ∷ cs) =
    let r = run_rule blank wy50 before n in
    both (next_holds r.state bytes (next_rule r.page r.state bytes room) answer taken refused rest command reply) (next_cases_hold cs)

-- a reply of 3 bytes, of which 1 went
unfoldable pub in_send : List ℕ → ℕ → ℕ → ℕ → ℕ → List ℕ → NextCase
in_send bytes room answer taken command reply = behind (0x1b ∷ 0x20 ∷ []) 1 bytes room answer taken 0 bytes command reply

unfoldable pub next_cases : List NextCase
next_cases =
    -- no event: all bytes are taken
    behind [] 0 (0x41 ∷ 0x42 ∷ []) 0 0 2 0 [] 0 []
    ∷ behind [] 0 [] 0 0 0 0 [] 0 []
    -- a refusal: it stops behind the byte, with its answer
    ∷ behind [] 0 (0x41 ∷ 0xe9 ∷ 0x42 ∷ []) 9 1 2 1 (0x42 ∷ []) 0 []
    ∷ behind [] 0 (0x1b ∷ 0x03 ∷ 0x42 ∷ []) 9 2 2 1 (0x42 ∷ []) 0 []
    ∷ behind [] 0 (0x1b ∷ 0x7a ∷ 0x20 ∷ 0x42 ∷ []) 9 3 3 1 (0x42 ∷ []) 0 []
    ∷ behind (esc 0x2c ++ esc 0x26) 0 (0x41 ∷ 0x42 ∷ []) 9 4 1 1 (0x42 ∷ []) 0 []
    ∷ behind [] 0 (0xe9 ∷ []) 9 1 1 1 [] 0 []
    -- a reply: it stops behind the byte that asked
    ∷ behind [] 0 (0x41 ∷ 0x05 ∷ 0x42 ∷ []) 1 0 2 0 (0x42 ∷ []) 0x05 (0x06 ∷ [])
    ∷ behind [] 0 (esc 0x20 ++ 0x42 ∷ []) 3 0 2 0 (0x42 ∷ []) 0x20 (0x35 ∷ 0x30 ∷ 0x0d ∷ [])
    ∷ behind [] 0 (esc 0x2f) 9 0 2 0 [] 0x2f (0x30 ∷ 0x20 ∷ 0x20 ∷ 0x0d ∷ [])
    ∷ behind [] 0 (0x41 ∷ [] ++ esc 0x3f) 9 0 3 0 [] 0x3f (0x20 ∷ 0x21 ∷ 0x0d ∷ [])
    ∷ behind [] 0 (esc 0x62) 9 0 2 0 [] 0x62 (0x30 ∷ 0x31 ∷ 0x52 ∷ 0x30 ∷ 0x30 ∷ 0x31 ∷ 0x43 ∷ [])
    ∷ behind (0x41 ∷ 0x08 ∷ []) 0 (esc 0x4d) 9 0 2 0 [] 0x4d (0x41 ∷ [])
    ∷ behind (labelled 0 0 ++ 0x41 ∷ []) 0 (esc 0x34) 9 0 2 0 [] 0x34 (0x1c ∷ 0x41 ∷ 0x20 ∷ 0x0d ∷ [])
    ∷ behind (labelled 0 0 ++ 0x41 ∷ []) 0 (esc 0x35) 9 0 2 0 [] 0x35 (0x1c ∷ 0x41 ∷ 0x20 ∷ 0x0d ∷ [])
    ∷ behind (labelled 0 0 ++ 0x41 ∷ []) 0 (esc 0x36) 9 0 2 0 [] 0x36 (0x4e ∷ 0x41 ∷ 0x20 ∷ 0x0d ∷ [])
    ∷ behind (labelled 0 0 ++ 0x41 ∷ []) 0 (esc 0x37) 9 0 2 0 [] 0x37 (0x4e ∷ 0x41 ∷ 0x20 ∷ 0x0d ∷ [])
    -- one that does not fit begins; without room it stops before the byte, with 6
    ∷ behind [] 0 (esc 0x20 ++ 0x42 ∷ []) 1 0 2 0 (0x42 ∷ []) 0x20 (0x35 ∷ [])
    ∷ behind [] 0 (0x41 ∷ 0x05 ∷ []) 0 6 1 0 (0x05 ∷ []) 0 []
    -- inside a send it goes on, and all bytes wait, where it is over too
    ∷ in_send (0x05 ∷ 0x42 ∷ []) 1 0 0 0x20 (0x30 ∷ [])
    ∷ in_send (0x05 ∷ 0x42 ∷ []) 9 0 0 0x20 (0x30 ∷ 0x0d ∷ [])
    ∷ in_send [] 9 0 0 0x20 (0x30 ∷ 0x0d ∷ [])
    ∷ in_send (0x42 ∷ []) 0 6 0 0 []
    ∷ in_send [] 0 0 0 0 []
    ∷ []

-- on 7: nothing taken, the bytes back
unfoldable pub next_refuses : List ℕ → State → Bool
next_refuses p s = next_holds s (0x05 ∷ []) (next_rule p s (0x05 ∷ []) 9) 7 0 0 (0x05 ∷ []) 0 []

unfoldable pub impossible : State
impossible = protect_at 1920
