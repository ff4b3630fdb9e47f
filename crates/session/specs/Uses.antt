-- The statements used where weaker ones would not do: at starts of each kind, right and wrong ones, with whatever calls.
use Rattle.std.specs.Prelude.{◌≡◌, Bool, true, false, List, [], ◌∷◌, ℕ, suc, length, get_or, replicate}
use Rattle.rules.specs.declared.State.{State}
use Rattle.rules.specs.declared.Personality.{Personality}
use Rattle.rules.specs.declared.Place.TheVariants as Place
use Rattle.rules.specs.declared.Sending.{Sending}
use Rattle.rules.specs.State.{with_screen, with_modes, with_protect}
use Rattle.rules.specs.Possible.{power_on}
use Rattle.rules.specs.RowCalls.{ListStep}
use Rattle.rules.specs.Cases.RowCases.{open_rows}
use Rattle.saved.specs.Cases.{zeros}
use Rattle.session.specs.Sessions.{SessionCall, Terminal, start, SessionPlayed, session_play, session_completed}
use Rattle.session.specs.Sessions.{Act, StreamPlayed, stream_play, calls_of}
use Rattle.session.specs.Completed.{Completed}
use Rattle.session.specs.CodeSessions.{SessionPerformed, StreamPerformed}

-- two pages of n + 1 cells: the first is a protected letter, A or B, and the others are open
abbrev pub one : ℕ → List ℕ
one n = 0xc1 ∷ replicate n 0

abbrev pub other : ℕ → List ℕ
other n = 0xc2 ∷ replicate n 0

-- a state with protect mode on: of a personality and a width, the cursor at a cell, and a send under way
abbrev pub guarding : Personality → Bool → ℕ → Sending → State
guarding m wide cursor sending = record {
  core = with_modes (with_screen (power_on m).core (record { wide = wide; active = 0; split = 0; cursor0 = cursor; cursor1 = 0 }))
      (with_protect (power_on m).core.modes true);
  sending = sending;
  gathered = (power_on m).gathered;
  setup = (power_on m).setup;
}

-- what the statements say, read out: the letters are as they were, the other cells are the same in both pages
pub record LettersKept (a b : List ℕ) : Type 0 where
  pub size : length a ≡ length b
  pub first : get_or a 0 0 ≡ 0xc1
  pub second : get_or b 0 0 ≡ 0xc2
  pub cells : (i : ℕ) → get_or a (suc i) 0 ≡ get_or b (suc i) 0

-- and all that is given back and kept is the same
pub record Same (a b : SessionPlayed) : Type 0 where
  pub given : a.given ≡ b.given
  pub state : a.kept.terminal.state ≡ b.kept.terminal.state
  pub rows : a.kept.terminal.rows ≡ b.kept.terminal.rows
  pub store : a.kept.store ≡ b.kept.store
  pub pages : LettersKept a.kept.terminal.page b.kept.terminal.page

-- the statements at one start, which both have but for the page
pub record At (n : ℕ) (l : List ℕ) (s : State) (store : List ℕ) : Type 0 where
  pub none : Same (session_play [] (start (one n) l s store)) (session_play [] (start (other n) l s store))
  pub calls : (cs : List SessionCall) → session_completed cs (start (one n) l s store) ≡ false
      → Same (session_play cs (start (one n) l s store)) (session_play cs (start (other n) l s store))
  pub uncompleted : (cs : List SessionCall) → (Completed cs (start (one n) l s store) → ⊥)
      → Same (session_play cs (start (one n) l s store)) (session_play cs (start (other n) l s store))
  pub stream : (bytes : List ℕ) (acts : List Act)
      → session_completed (calls_of acts bytes (start (one n) l s store)) (start (one n) l s store) ≡ false
      → let a = stream_play acts bytes (start (one n) l s store) in
      let b = stream_play acts bytes (start (other n) l s store) in
      Same a.session b.session × (a.left ≡ b.left)
  pub code_calls : (cs : List SessionCall) (a b : SessionPlayed) → session_completed cs (start (one n) l s store) ≡ false
      → SessionPerformed (start (one n) l s store) cs a → SessionPerformed (start (other n) l s store) cs b → Same a b
  pub code_stream : (bytes : List ℕ) (acts : List Act) (a b : StreamPlayed)
      → session_completed (calls_of acts bytes (start (one n) l s store)) (start (one n) l s store) ≡ false
      → StreamPerformed (start (one n) l s store) bytes acts a → StreamPerformed (start (other n) l s store) bytes acts b
      → Same a.session b.session × (a.left ≡ b.left)

pub record Uses : Type 0 where
  -- a page of each width, with its list and without one; a WY-60
  pub narrow : At 1919 (79 ∷ 2 ∷ open_rows 23) (guarding Personality.Wy50 false 1 Sending.Nothing) zeros
  pub wide : At 3167 [] (guarding Personality.Wy50 true 3167 Sending.Nothing) zeros
  pub wy60 : At 1919 [] (guarding Personality.Wy60 false 1919 Sending.Nothing) zeros
  -- inside an ESC 5 send
  pub sending : At 1919 [] (guarding Personality.Wy50 false 2 (Sending.Text false true (Place.Cell 1))) zeros
  -- a page of one cell; a cursor and a send beyond the page; a list of 47 numbers; a store of none
  pub bad_page : At 0 [] (guarding Personality.Wy50 false 1 Sending.Nothing) zeros
  pub bad_cursor : At 1919 [] (guarding Personality.Wy50 false 1920 Sending.Nothing) zeros
  pub bad_send : At 1919 [] (guarding Personality.Wy60 true 1 (Sending.Text false false (Place.Break 4000))) zeros
  pub bad_list : At 1919 (replicate 47 7) (guarding Personality.Wy50 false 1 Sending.Nothing) zeros
  pub bad_store : At 1919 [] (guarding Personality.Wy50 false 1 Sending.Nothing) []
  -- a call that is refused for its list
  pub refused : let s = guarding Personality.Wy50 false 1 Sending.Nothing in
      let cs = Terminal (ListStep 0x41 0) ∷ [] in
      Same (session_play cs (start (one 1919) (replicate 47 7) s zeros)) (session_play cs (start (other 1919) (replicate 47 7) s zeros))
