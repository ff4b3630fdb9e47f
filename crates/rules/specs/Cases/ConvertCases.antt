-- Worked cases of the conversion to the other width (document 02, A11): one statement.
use Rattle.std.specs.Prelude.{◌≡◌, Bool, true, false, List, [], ◌∷◌, ◌++◌, ℕ, ◌-◌, replicate, set}
use Rattle.rules.specs.declared.Screen.{Screen}
use Rattle.rules.specs.declared.State.{State}
use Rattle.rules.specs.declared.Personality.TheVariants as Personality
use Rattle.rules.specs.declared.Pending.{Pending}
use Rattle.rules.specs.declared.Pending.TheVariants as Pending
use Rattle.rules.specs.declared.Argument.TheVariants as Argument
use Rattle.rules.specs.declared.Slot.TheVariants as Slot
use Rattle.rules.specs.declared.Short.TheVariants as Short
use Rattle.rules.specs.declared.Place.TheVariants as Place
use Rattle.rules.specs.declared.Sending.TheVariants as Sending
use Rattle.rules.specs.Cell.{both}
use Rattle.rules.specs.State.{with_sending, no_text, short_text, long_text}
use Rattle.rules.specs.Possible.{blank}
use Rattle.rules.specs.Step.{Outcome, step_rule}
use Rattle.rules.specs.Calls.{Call, Step, Run, Given, after, play}
use Rattle.rules.specs.Convert.{Turned, convert_rule}
use Rattle.rules.specs.Cases.Bench.{wy50, Claim, Cell, Cursor, Answers, Segments, Columns, Stands, all_hold}
use Rattle.rules.specs.Cases.Inputs.{page_of, protect_at, placed_on}
use Rattle.rules.specs.Cases.ByteCases.{span}
use Rattle.rules.specs.Cases.PossibleCases.{gathering}
use Rattle.rules.specs.Cases.Wide.{wide_page, wide_at, wide_protect_at}

-- a page and a state converted to a target of n cells, each 7; then calls on the target and the state as they are
pub data ConvertCase : Type 0 where
  converts : List ℕ → State → ℕ → List Call → List Claim → ConvertCase

unfoldable pub given_by : Turned → Given
given_by r = record { answer = r.answer; counts = []; reply = []; rest = []; state = r.state }

unfoldable pub converts_hold : List ConvertCase → Bool
converts_hold [] = true
converts_hold (converts p s n calls claims ∷ cs) =
    let r = convert_rule p s (replicate n 7) in both (all_hold (after (given_by r) (play calls r.target r.state)) claims) (converts_hold cs)

-- refused with an answer: the target is as it was
unfoldable pub refused : List ℕ → State → ℕ → ℕ → ConvertCase
refused p s n answer = converts p s n [] (Answers (answer ∷ []) ∷ Cell 0 7 ∷ Cell (n - 1) 7 ∷ [])

-- with a send under way
abbrev pub in_send : State → State
in_send s = with_sending s (Sending.Short Short.Identity 1)

-- a wide page with one cell that is not 0
unfoldable pub one_at : ℕ → ℕ → List ℕ
one_at i v = wide_page (replicate i 0 ++ v ∷ [])

unfoldable pub convert_cases : List ConvertCase
convert_cases =
    -- widening: rows stay rows, with nulls at the end of each; the cells of this page are 1 to 1,920
    converts (span 1 1920) wy50 3168 []
    (Answers (0 ∷ []) ∷ Columns 132 ∷ Cell 0 1 ∷ Cell 79 80 ∷ Cell 80 0 ∷ Cell 131 0 ∷ Cell 132 81 ∷ Cell 211 160 ∷ Cell 212 0 ∷ Cell 3036 1841
    ∷ Cell 3115 1920 ∷ Cell 3116 0
    ∷ Cell 3167 0 ∷ [])
    -- narrowing: the cells beyond column 80 go
    ∷ converts (wide_page (span 1 80 ++ replicate 52 0 ++ span 81 80)) (wide_at 0) 1920 []
    (Answers (0 ∷ []) ∷ Columns 80 ∷ Cell 0 1 ∷ Cell 79 80 ∷ Cell 80 81 ∷ Cell 159 160 ∷ Cell 160 0 ∷ Cell 1919 0 ∷ [])
    ∷ converts (one_at 3115 65) (wide_at 0) 1920 [] (Answers (0 ∷ []) ∷ Cell 1919 65 ∷ [])
    -- 4 exactly if some cell beyond column 80 is not 0
    ∷ converts (one_at 79 65) (wide_at 0) 1920 [] (Answers (0 ∷ []) ∷ [])
    ∷ refused (one_at 80 32) (wide_at 0) 1920 4
    ∷ refused (one_at 131 128) (wide_at 0) 1920 4
    ∷ converts (one_at 132 65) (wide_at 0) 1920 [] (Answers (0 ∷ []) ∷ [])
    ∷ refused (one_at 212 65) (wide_at 0) 1920 4
    ∷ refused (one_at 3116 1) (wide_at 0) 1920 4
    ∷ refused (one_at 3167 65) (wide_at 0) 1920 4
    -- 7: the page, the state, the target, of its own length too
    ∷ refused (replicate 1919 0) wy50 3168 7
    ∷ refused (replicate 1921 0) wy50 3168 7
    ∷ refused (wide_page []) wy50 3168 7
    ∷ refused (wide_page []) wy50 1920 7
    ∷ refused blank (wide_at 0) 1920 7
    ∷ refused blank (wide_at 0) 3168 7
    ∷ refused (replicate 3167 0) (wide_at 0) 1920 7
    ∷ refused blank (protect_at 1920) 3168 7
    ∷ refused (wide_page []) (wide_at 3168) 1920 7
    ∷ refused blank wy50 3167 7
    ∷ refused blank wy50 3169 7
    ∷ refused blank wy50 1920 7
    ∷ refused (wide_page []) (wide_at 0) 1919 7
    ∷ refused (wide_page []) (wide_at 0) 1921 7
    ∷ refused (wide_page []) (wide_at 0) 3168 7
    -- 6 in a send, either way; 7 before 6 before 4
    ∷ refused blank (in_send wy50) 3168 6
    ∷ refused blank (with_sending wy50 (Sending.Text true true Place.Return)) 3168 6
    ∷ refused (wide_page []) (in_send (wide_at 0)) 1920 6
    ∷ refused blank (in_send wy50) 1920 7
    ∷ refused (replicate 1919 0) (in_send wy50) 3168 7
    ∷ refused (one_at 131 65) (in_send (wide_at 0)) 1920 6
    ∷ refused (one_at 131 65) (wide_at 0) 3168 7
    -- refused, the state is as it was
    ∷ converts blank (in_send (placed_on false 1 13 5 960)) 3168 [] (Stands (Sending.Short Short.Identity 1) ∷ Segments 1 13 5 960 ∷ Columns 80 ∷ [])
    -- unsplit, both cursors home
    ∷ converts blank (placed_on false 1 13 5 1919) 3168 [] (Answers (0 ∷ []) ∷ Segments 0 0 0 0 ∷ [])
    ∷ converts blank (placed_on false 0 0 1919 1000) 3168 [] (Answers (0 ∷ []) ∷ Segments 0 0 0 0 ∷ [])
    ∷ converts (wide_page []) (placed_on true 1 13 5 3167) 1920 [] (Answers (0 ∷ []) ∷ Segments 0 0 0 0 ∷ [])
    -- the active one settles on the new page, with protect on
    ∷ converts (page_of (replicate 81 206)) (protect_at 81) 3168 [] (Answers (0 ∷ []) ∷ Segments 0 0 80 0 ∷ [])
    ∷ converts (wide_page (replicate 80 206 ++ replicate 52 0 ++ 206 ∷ [])) (wide_protect_at 80) 1920 [] (Answers (0 ∷ []) ∷ Segments 0 0 81 0 ∷ [])
    ∷ converts (page_of (replicate 81 206)) (placed_on false 0 0 81 0) 3168 [] (Answers (0 ∷ []) ∷ Segments 0 0 0 0 ∷ [])
    ∷ converts (replicate 1920 206) (protect_at 0) 3168 [] (Answers (0 ∷ []) ∷ Segments 0 0 80 0 ∷ [])
    -- what comes then is on the new page; a sequence under way goes on there: ESC = 37h, and then 6Fh
    ∷ converts blank wy50 3168 (Run (0x0b ∷ 0x58 ∷ []) 0 ∷ []) (Answers (0 ∷ 0 ∷ []) ∷ Cell 3036 0x58 ∷ Cursor 3037 ∷ [])
    ∷ converts blank (gathering (Pending.AddressRow 0x37) (replicate 46 0)) 3168 (Step 0x6f 0 ∷ []) (Answers (0 ∷ 0 ∷ []) ∷ Cursor 3115 ∷ [])
    ∷ []

-- tab stops at these columns, from 0
unfoldable pub stops_at : List ℕ → List Bool
stops_at [] = replicate 132 false
stops_at (c ∷ l) = set (stops_at l) c true

-- a state of which every part is another than at power-on, with a screen, tab stops, a wish and a sequence under way
unfoldable pub busy : Screen → List Bool → Bool → Pending → State
busy x stops wish q = record {
  core = record {
    screen = x;
    modes = record { protect = true; writeprotect = true; insert = true; autoscroll = false; locked = true; local = true };
    bells = 200;
    pending = q;
    personality = Personality.Wy60;
    attribute = 30;
  };
  sending = Sending.Nothing;
  gathered = 0x68 ∷ 0x69 ∷ replicate 44 0x2a;
  setup = record {
    tabs = stops;
    attributes = 0x20 ∷ 0x3f ∷ 0x70 ∷ 0x7e ∷ [];
    features = 0x30 ∷ 0x32 ∷ 0x36 ∷ 0x38 ∷ 0x3c ∷ [];
    keys = set (replicate 32 no_text) 31 (short_text (0x61 ∷ []));
    labels = set (replicate 16 no_text) 15 (short_text (0x62 ∷ []));
    message = long_text (0x63 ∷ []);
    shifted = true;
    wish = wish;
  };
}

-- a narrow and a wide screen, split at row 13, the lower segment active; and at home with the cursor at a cell
abbrev pub narrow_split : Screen
narrow_split = record { wide = false; active = 1; split = 13; cursor0 = 5; cursor1 = 1919 }

abbrev pub wide_split : Screen
wide_split = record { wide = true; active = 1; split = 13; cursor0 = 5; cursor1 = 3167 }

abbrev pub narrow_home : ℕ → Screen
narrow_home n = record { wide = false; active = 0; split = 0; cursor0 = n; cursor1 = 0 }

abbrev pub wide_home : ℕ → Screen
wide_home n = record { wide = true; active = 0; split = 0; cursor0 = n; cursor1 = 0 }

-- a text under way, and the argument of ESC `
abbrev pub text : Pending
text = Pending.Text Slot.Message 2

abbrev pub feature : Pending
feature = Pending.Awaits Argument.Feature

-- a byte that leaves the page and is taken, with no reply
abbrev pub taking : List ℕ → State → Outcome
taking p s = record { answer = 0; taken = true; state = s; page = p; reply = [] }

-- the statement; where it is said of a state, whatever the wish is
pub record ConvertList : Type 0 where
  pub cases : converts_hold convert_cases ≡ true
  -- widening keeps all stops, narrowing clears those beyond column 80; the rest of the state is as it was
  pub widened : (wish : Bool) → (convert_rule (page_of (206 ∷ [])) (busy narrow_split (stops_at (0 ∷ 79 ∷ [])) wish text) (replicate 3168 7)).state
      ≡ busy (wide_home 1) (stops_at (0 ∷ 79 ∷ [])) wish text
  pub narrowed : (wish : Bool)
      → (convert_rule (wide_page (206 ∷ [])) (busy wide_split (stops_at (0 ∷ 79 ∷ 80 ∷ 131 ∷ [])) wish text) (replicate 1920 7)).state
      ≡ busy (narrow_home 1) (stops_at (0 ∷ 79 ∷ [])) wish text
  -- refused: target and state are as they were
  pub kept : (wish : Bool) → convert_rule (one_at 80 32) (busy wide_split (stops_at (131 ∷ [])) wish text) (replicate 1920 7)
      ≡ record { answer = 4; target = replicate 1920 7; state = busy wide_split (stops_at (131 ∷ [])) wish text }
  -- ESC ` 3Bh and 3Ah set the wish and nothing else, in either width
  pub narrow_3b : (wish : Bool) → step_rule blank (busy narrow_split (stops_at (79 ∷ [])) wish feature) 0x3b 0
      ≡ taking blank (busy narrow_split (stops_at (79 ∷ [])) true Pending.Idle)
  pub narrow_3a : (wish : Bool) → step_rule blank (busy narrow_split (stops_at (79 ∷ [])) wish feature) 0x3a 0
      ≡ taking blank (busy narrow_split (stops_at (79 ∷ [])) false Pending.Idle)
  pub wide_3b : (wish : Bool) → step_rule (wide_page []) (busy wide_split (stops_at (131 ∷ [])) wish feature) 0x3b 0
      ≡ taking (wide_page []) (busy wide_split (stops_at (131 ∷ [])) true Pending.Idle)
  pub wide_3a : (wish : Bool) → step_rule (wide_page []) (busy wide_split (stops_at (131 ∷ [])) wish feature) 0x3a 0
      ≡ taking (wide_page []) (busy wide_split (stops_at (131 ∷ [])) false Pending.Idle)
