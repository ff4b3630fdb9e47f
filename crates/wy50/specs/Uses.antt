-- The statements used where weaker ones would not do: at starts of each kind, right and wrong ones, with whatever calls; and the bounds of the
-- proposer, which its calls reach.
use Rattle.std.specs.Prelude.{◌≡◌, List, [], ◌∷◌, ◌++◌, ℕ, replicate}
use Rattle.rules.specs.Calls.{Call}
use Rattle.rules.specs.RowCalls.{RowCall}
use Rattle.rules.specs.Cases.RowCases.{open_rows}
use Rattle.saved.specs.Cases.{zeros}
use Rattle.session.specs.Sessions.{SessionCall, Act}
use Rattle.session.specs.Uses.{one, other}
use Rattle.repaint.specs.Cases.{shown, nines}
use Rattle.repaint.specs.Uses.{spread, costly}
use Rattle.wy50.specs.declared.raw.RawSending.{RawSending}
use Rattle.wy50.specs.declared.raw.RawState.{RawState}
use Rattle.wy50.specs.Noninterference.{RawGiven, RawCompleted, Performed, RawIndistinguishable}
use Rattle.wy50.specs.RowNoninterference.{RawSession, bare_calls, RowPerformed, RawRowIndistinguishable}
use Rattle.wy50.specs.Sessions.{RawKept, raw_start, RawSessionCompleted, RawSessionGiven, RawSessionPerformed}
use Rattle.wy50.specs.Sessions.{RawSessionIndistinguishable, raw_calls_of, RawStreamPerformed}
use Rattle.wy50.specs.Repainting.{raw_propose, with_rest}
use Rattle.wy50.specs.Cases.{sequence, send, no_key}

-- the numbers of a state with protect mode on: of a personality and a width, the cursor at a cell, and a send under way
abbrev pub guarding : ℕ → ℕ → ℕ → RawSending → RawState
guarding personality wide cursor y = record {
  screen = record { wide = wide; active = 0; split = 0; cursor0 = cursor; cursor1 = 0 };
  modes = record { protect = 1; writeprotect = 0; insert = 0; autoscroll = 1; locked = 0; local = 0 };
  bells = 0;
  personality = personality;
  remembered = 0;
  sequence = sequence 0 0 0 0;
  sending = y;
  gathered = replicate 46 0;
  tabs = replicate 132 0;
  attributes = replicate 4 0x30;
  features = 0x31 ∷ 0x35 ∷ 0x37 ∷ 0x39 ∷ 0x40 ∷ [];
  keys = replicate 32 no_key;
  labels = replicate 16 no_key;
  message = record { len = 0; bytes = replicate 46 0 };
  shifted = 0;
  wish = 0;
}

abbrev pub session : List ℕ → List ℕ → RawState → RawSession
session p l x = record { page = p; rows = l; state = x }

-- the statements at one start, which both have but for the page
pub record At (n : ℕ) (l : List ℕ) (x : RawState) (store : List ℕ) : Type 0 where
  pub calls : (cs : List Call) (gs hs : List RawGiven) (y z : RawState) (a b : List ℕ) → (RawCompleted cs (one n) x → ⊥)
      → Performed (one n) x cs gs y a → Performed (other n) x cs hs z b → RawIndistinguishable (one n) (other n) gs hs y z a b
  pub row_calls : (cs : List RowCall) (gs hs : List RawGiven) (ls ms : List (List ℕ)) (y z : RawSession)
      → (RawCompleted (bare_calls cs (session (one n) l x)) (one n) x → ⊥) → RowPerformed (session (one n) l x) cs gs ls y
      → RowPerformed (session (other n) l x) cs hs ms z → RawRowIndistinguishable (one n) (other n) gs hs ls ms y z
  pub sessions : (cs : List SessionCall) (gs hs : List RawSessionGiven) (y z : RawKept) → (RawSessionCompleted cs (raw_start (one n) l x store) → ⊥)
      → RawSessionPerformed (raw_start (one n) l x store) cs gs y → RawSessionPerformed (raw_start (other n) l x store) cs hs z
      → RawSessionIndistinguishable (one n) (other n) gs hs y z
  pub streams : (bytes : List ℕ) (acts : List Act) (gs hs : List RawSessionGiven) (y z : RawKept) (u v : List ℕ)
      → (RawSessionCompleted (raw_calls_of acts bytes (raw_start (one n) l x store)) (raw_start (one n) l x store) → ⊥)
      → RawStreamPerformed (raw_start (one n) l x store) bytes acts gs y u → RawStreamPerformed (raw_start (other n) l x store) bytes acts hs z v
      → RawSessionIndistinguishable (one n) (other n) gs hs y z × (u ≡ v)

pub record Starts : Type 0 where
  -- a page of each width, with its list and without one; a WY-60
  pub narrow : At 1919 (79 ∷ 2 ∷ open_rows 23) (guarding 50 0 1 (send 0 0 0)) zeros
  pub wide : At 3167 [] (guarding 50 1 3167 (send 0 0 0)) zeros
  pub wy60 : At 1919 [] (guarding 60 0 1919 (send 0 0 0)) zeros
  -- inside an ESC 5 send
  pub sending : At 1919 [] (guarding 50 0 2 (send 0x35 1 1)) zeros
  -- a page of one cell; a cursor beyond the page; a personality, a width and a send that are none; a list of 47 numbers; a store of none
  pub bad_page : At 0 [] (guarding 50 0 1 (send 0 0 0)) zeros
  pub bad_cursor : At 1919 [] (guarding 50 0 1920 (send 0 0 0)) zeros
  pub unnamed : At 1919 [] (guarding 51 2 1 (send 0x33 9 9)) zeros
  pub bad_list : At 1919 (replicate 47 7) (guarding 50 0 1 (send 0 0 0)) zeros
  pub bad_store : At 1919 [] (guarding 50 0 1 (send 0 0 0)) []

-- rooms of just 960 spans and 7,772 bytes
pub record Rooms : Type 0 where
  pub spans : (raw_propose 50 shown spread (nines 2880) (nines 7772)).answer ≡ 0
  pub bytes : (raw_propose 60 shown costly (nines 2880) (nines 7772)).answer ≡ 0
  pub beyond : (v : ℕ) (a b rest out : List ℕ) → raw_propose v a b (nines 2880 ++ rest) out ≡ with_rest rest (raw_propose v a b (nines 2880) out)

pub record Uses : Type 0 where
  pub starts : Starts
  pub rooms : Rooms
