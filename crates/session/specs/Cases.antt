-- Worked sessions.
use Rattle.std.specs.Prelude.{◌≡◌, true, false, List, [], ◌∷◌, ◌++◌, map, ℕ, replicate}
use Rattle.rules.specs.Possible.{blank}
use Rattle.rules.specs.Calls.{Step, Run, Press}
use Rattle.rules.specs.Cases.Bench.{wy50, wy60}
use Rattle.rules.specs.Cases.Inputs.{esc, page_of, protect_at, placed_on}
use Rattle.rules.specs.RowCalls.{Bare, ListStep, ListRun, Next, Rebuild}
use Rattle.rules.specs.Cases.RowCases.{open_rows}
use Rattle.saved.specs.Store.{last_number}
use Rattle.saved.specs.Cases.{zeros}
use Rattle.session.specs.Sessions.{SessionCall, Terminal, Save, Restore, Kept, start, Told, Heard, Saved, Restored, SessionGiven, session_play}
use Rattle.session.specs.Sessions.{session_completed, HandStep, HandRun, HandNext, PressKey, RebuildRows, SaveSetup, RestoreSetup, stream_play}
use Rattle.session.specs.Sessions.{calls_of}

-- power-on of a WY-50 and of a WY-60, each with the page's list and a store where nothing was saved
abbrev pub on50 : Kept
on50 = start blank (open_rows 24) wy50 zeros

abbrev pub on60 : Kept
on60 = start blank (open_rows 24) wy60 zeros

abbrev pub run : List ℕ → ℕ → SessionCall
run bytes room = Terminal (Bare (Run bytes room))

unfoldable pub told_by : List SessionGiven → List Told
told_by [] = []
told_by (g ∷ gs) = g.told ∷ told_by gs

-- the replies of the terminal's calls, joined
unfoldable pub replies_in : List Told → List ℕ
replies_in [] = []
replies_in (Heard g ∷ ts) = g.reply ++ replies_in ts
replies_in (Saved n m ∷ ts) = replies_in ts
replies_in (Restored n ∷ ts) = replies_in ts

-- and their answers
unfoldable pub answers_in : List Told → List ℕ
answers_in [] = []
answers_in (Heard g ∷ ts) = g.answer ∷ answers_in ts
answers_in (Saved n m ∷ ts) = answers_in ts
answers_in (Restored n ∷ ts) = answers_in ts

-- ESC and a call; and the same with a save before and a restore between them
abbrev pub after_esc : SessionCall → List SessionCall
after_esc c = run (0x1b ∷ []) 0 ∷ c ∷ []

abbrev pub restored_esc : SessionCall → List SessionCall
restored_esc c = Save ∷ run (0x1b ∷ []) 0 ∷ Restore 1 ∷ c ∷ []

-- a page with a label of two protected cells, its list, and protect mode on with the cursor behind the label
abbrev pub form : Kept
form = start (page_of (206 ∷ 239 ∷ [])) (78 ∷ 3 ∷ open_rows 23) (protect_at 2) zeros

-- key 40h
abbrev pub press : SessionCall
press = Terminal (Bare (Press 0x40 8))

abbrev pub step : ℕ → ℕ → SessionCall
step b room = Terminal (Bare (Step b room))

pub record CompletedCases : Type 0 where
  -- each of the six, by its last byte; and by each call over host bytes
  pub six : map (λ b. session_completed (restored_esc (step b 1)) on50) (0x27 ∷ 0x2a ∷ 0x2b ∷ 0x2c ∷ 0x36 ∷ 0x37 ∷ []) ≡ replicate 6 true
  pub each_call : map (λ c. session_completed (restored_esc c) on60)
      (run (0x27 ∷ []) 0 ∷ Terminal (ListStep 0x27 0) ∷ Terminal (ListRun (0x27 ∷ []) 0)
      ∷ Terminal (Next true (0x27 ∷ []) 0) ∷ Terminal (Next false (0x27 ∷ []) 0) ∷ [])
      ≡ replicate 5 true
  -- on a page of 132 columns
  pub wide : session_completed (after_esc (step 0x36 1)) (start (replicate 3168 0) [] (placed_on true 0 0 3167 0) zeros) ≡ true
  -- not another byte, nor without room; no other call
  pub others : map (λ c. session_completed (after_esc c) on50)
      (step 0x26 1 ∷ step 0x35 1 ∷ step 0x36 0 ∷ step 0x37 0 ∷ Terminal (Bare (Press 0x27 8)) ∷ Terminal Rebuild ∷ Save ∷ Restore 0x27 ∷ [])
      ≡ replicate 8 false
  -- texts, keys and ESC 5 between saves and restores
  pub texts : session_completed
      (Save ∷ run (0x27 ∷ 0x36 ∷ []) 0 ∷ Restore 1 ∷ Terminal (ListRun (0x2a ∷ []) 0) ∷ press ∷ Save ∷ run (esc 0x35) 1 ∷ Restore 2
      ∷ Terminal (Next true (0x37 ∷ []) 9) ∷ Terminal Rebuild ∷ []) form ≡ false
  -- refused for the list, of 47 numbers; an impossible state
  pub listed : map (λ c. session_completed (after_esc c) (start blank (replicate 47 7) wy50 zeros))
      (Terminal (ListStep 0x27 0) ∷ Terminal (ListRun (0x27 ∷ []) 0) ∷ Terminal (Next true (0x27 ∷ []) 0) ∷ step 0x27 0 ∷ [])
      ≡ false ∷ false ∷ false ∷ true ∷ []
  pub impossible : session_completed (run (esc 0x27) 0 ∷ []) (start blank (open_rows 24) (protect_at 1920) zeros) ≡ false

pub record GivenCases : Type 0 where
  -- numbers count from 1; one never saved is refused
  pub saves : told_by (session_play (Save ∷ Save ∷ Restore 1 ∷ Restore 3 ∷ []) on50).given
      ≡ Saved 0 1 ∷ Saved 0 2 ∷ Restored 0 ∷ Restored 10 ∷ []
  -- the store after each call, by its last number; the list
  pub stores : map (λ g. last_number g.store) (session_play (step 0x41 0 ∷ Save ∷ Restore 1 ∷ Save ∷ []) on50).given ≡ 0 ∷ 1 ∷ 1 ∷ 2 ∷ []
  pub lists : map (λ g. g.rows) (session_play (Terminal Rebuild ∷ Save ∷ Restore 1 ∷ []) (start blank (replicate 48 7) wy50 zeros)).given
      ≡ replicate 3 (open_rows 24)
  -- a key programmed behind a save is as before once that is restored
  pub key : replies_in (told_by (session_play
      (Save ∷ run (esc 0x7a ++ 0x40 ∷ 0x68 ∷ 0x69 ∷ 0x7f ∷ []) 0 ∷ press ∷ Restore 1 ∷ press ∷ []) on50).given)
      ≡ 0x68 ∷ 0x69 ∷ 0x01 ∷ 0x40 ∷ 0x0d ∷ []
  -- starts from an impossible state, from a store of 8,713 bytes, with a list of 47 numbers
  pub impossible : told_by (session_play (Save ∷ Restore 1 ∷ []) (start blank [] (protect_at 1920) zeros)).given
      ≡ Saved 7 0 ∷ Restored 7 ∷ []
  pub short_store : told_by (session_play (Save ∷ Restore 1 ∷ []) (start blank [] wy50 (replicate 8713 0))).given
      ≡ Saved 9 0 ∷ Restored 9 ∷ []
  pub short_list : answers_in
      (told_by (session_play (Terminal (ListStep 0x41 0) ∷ Save ∷ step 0x41 0 ∷ Terminal Rebuild ∷ [])
      (start blank (replicate 47 7) wy50 zeros)).given)
      ≡ 7 ∷ 0 ∷ 7 ∷ []

-- ESC SPACE asks for three bytes: in a room of 1 the run stops behind it
pub record StreamCases : Type 0 where
  -- what is handed back comes first, whatever is done between; and then what was not handed in
  pub narrow : calls_of (HandRun false 4 1 ∷ SaveSetup ∷ PressKey 0x40 8 ∷ HandRun true 2 8 ∷ HandNext false 9 0 ∷ [])
      (esc 0x20 ++ 0x41 ∷ 0x42 ∷ 0x43 ∷ []) on50
      ≡ run (esc 0x20 ++ 0x41 ∷ 0x42 ∷ []) 1 ∷ Save ∷ press ∷ Terminal (ListRun (0x41 ∷ 0x42 ∷ []) 8) ∷ Terminal (Next false (0x43 ∷ []) 0) ∷ []
  pub left : (stream_play (HandNext true 4 8 ∷ RebuildRows ∷ RestoreSetup 1 ∷ []) (esc 0x20 ++ 0x41 ∷ 0x42 ∷ 0x43 ∷ []) on50).left
      ≡ 0x41 ∷ 0x42 ∷ 0x43 ∷ []
  pub replies : replies_in (told_by (stream_play (HandRun false 4 1 ∷ SaveSetup ∷ HandRun false 2 8 ∷ [])
      (esc 0x20 ++ 0x41 ∷ 0x42 ∷ []) on50).session.given)
      ≡ 0x35 ∷ 0x30 ∷ 0x0d ∷ []
  -- a byte that a step inside a send did not take is the next one's; where nothing is left, a run over no bytes
  pub steps : calls_of (HandRun false 2 1 ∷ HandStep false 8 ∷ HandStep false 8 ∷ HandStep true 8 ∷ HandStep false 8 ∷ [])
      (esc 0x20 ++ 0x41 ∷ 0x42 ∷ []) on60
      ≡ run (esc 0x20) 1 ∷ step 0x41 8 ∷ step 0x41 8 ∷ Terminal (ListStep 0x42 8) ∷ run [] 8 ∷ []

pub record Worked : Type 0 where
  pub completed : CompletedCases
  pub given : GivenCases
  pub stream : StreamCases
