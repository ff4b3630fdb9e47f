-- A send under way is possible exactly if some page, bytes and rooms leave it so, in a state otherwise the same (document 02, A9): the bytes, and the
-- statement.
use Rattle.std.specs.Prelude.{◌≡◌, true, List, [], ◌∷◌, ℕ, eqb, replicate}
use Rattle.rules.specs.declared.State.{State}
use Rattle.rules.specs.declared.Sending.{Sending}
use Rattle.rules.specs.declared.Sending.TheVariants as Sending
use Rattle.rules.specs.Cell.{pick}
use Rattle.rules.specs.State.{page_length, sends, with_sending}
use Rattle.rules.specs.Possible.{possible}
use Rattle.rules.specs.Send.{short_command, text_command}
use Rattle.rules.specs.Calls.{Call, run_rule, play}

-- the bytes that a reply answers
abbrev pub command_bytes : ℕ → List ℕ
command_bytes b = pick (eqb b 0x05) (b ∷ []) (0x1b ∷ b ∷ [])

unfoldable pub asked : Sending → List ℕ
asked Sending.Nothing = []
asked (Sending.Short r n) = command_bytes (short_command r)
asked (Sending.Text all segment k) = command_bytes (text_command all segment)

-- the same state with no send under way
abbrev pub unsent : State → State
unsent s = with_sending s Sending.Nothing

-- a page of the state's own length, all cells 0
abbrev pub blank_for : State → List ℕ
blank_for s = replicate (page_length s.core.screen) 0

-- with some room the bytes leave that send under way in that state, and nothing else has changed
pub record LeftBy (s : State) : Type 0 where
  pub room : ℕ
  pub leaves : (run_rule (blank_for s) (unsent s) (asked s.sending) room).state ≡ s

pub record SendReach : Type 0 where
  pub possible_left : (s : State) → possible s ≡ true → sends s.sending ≡ true → LeftBy s
  -- without it the state is possible too
  pub otherwise_same : (s : State) → possible s ≡ true → possible (unsent s) ≡ true
  -- whatever calls on whatever page from a possible state, they leave no other
  pub left_possible : (calls : List Call) (p : List ℕ) (s : State) → possible s ≡ true → possible (play calls p s).state ≡ true
