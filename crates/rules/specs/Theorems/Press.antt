-- What a key press gives: 7, 8, 3, 6 in this order, 6 whatever the room inside a send (document 02, A9), else the key's bytes. It never changes page
-- or state.
use Rattle.std.specs.Prelude.{◌≡◌, true, false, List, [], ◌∷◌, ℕ, ◌<◌, ◌≤◌, length}
use Rattle.rules.specs.declared.State.{State}
use Rattle.rules.specs.State.{short_bytes, sends}
use Rattle.rules.specs.Possible.{good}
use Rattle.rules.specs.Arguments.{is_key}
use Rattle.rules.specs.Calls.{Press, Called, key_sends, key_at, call_rule}

-- what a call gives that answers n, replies r and changes nothing
abbrev pub on_press : List ℕ → State → ℕ → List ℕ → Called
on_press p s n r = record { given = record { answer = n; counts = length r ∷ []; reply = r; rest = []; state = s }; page = p }

-- a key that answers: a page and a state that are good, a keyboard that is not locked, and no send under way
pub record Ready (p : List ℕ) (s : State) (v : ℕ) : Type 0 where
  pub fine : good p s ≡ true
  pub unlocked : s.core.modes.locked ≡ false
  pub key : is_key v ≡ true
  pub quiet : sends s.sending ≡ false

-- the bytes that the key v sends: its own, and 01h value 0Dh if it is not programmed
pub record Sends (s : State) (v : ℕ) (sent : List ℕ) : Type 0 where
  pub own : 0 < (key_at s v).len → sent ≡ short_bytes (key_at s v)
  pub unprogrammed : (key_at s v).len ≡ 0 → sent ≡ 0x01 ∷ v ∷ 0x0d ∷ []

-- what the press of the key v gives, `sent` being the bytes that it sends
pub record PressGives (p : List ℕ) (s : State) (v room : ℕ) (sent : List ℕ) (r : Called) : Type 0 where
  pub bad : good p s ≡ false → r ≡ on_press p s 7 []
  pub locked : good p s ≡ true → s.core.modes.locked ≡ true → r ≡ on_press p s 8 []
  pub unknown : good p s ≡ true → s.core.modes.locked ≡ false → is_key v ≡ false → r ≡ on_press p s 3 []
  pub inside : good p s ≡ true → s.core.modes.locked ≡ false → is_key v ≡ true → sends s.sending ≡ true → r ≡ on_press p s 6 []
  pub full : Ready p s v → room < length sent → r ≡ on_press p s 6 []
  pub fits : Ready p s v → length sent ≤ room → r ≡ on_press p s 0 sent
  pub bytes : Sends s v sent
  -- whatever it answers
  pub page : r.page ≡ p
  pub state : r.given.state ≡ s

-- of every press
abbrev pub PressesGive : Type 0
PressesGive = (p : List ℕ) (s : State) (v room : ℕ) → PressGives p s v room (key_sends (key_at s v) v) (call_rule p s (Press v room))
