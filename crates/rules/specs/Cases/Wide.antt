-- Worked cases at 132 columns (document 02, A11): one statement.
use Rattle.std.specs.Prelude.{◌≡◌, Bool, true, false, List, [], ◌∷◌, ◌++◌, ℕ, ◌+◌, ◌-◌, length, take, replicate}
use Rattle.rules.specs.declared.State.{State}
use Rattle.rules.specs.declared.Personality.TheVariants as Personality
use Rattle.rules.specs.declared.Place.TheVariants as Place
use Rattle.rules.specs.declared.Sending.TheVariants as Sending
use Rattle.rules.specs.Row.{wide_cells}
use Rattle.rules.specs.State.{with_modes, with_protect}
use Rattle.rules.specs.Possible.{blank}
use Rattle.rules.specs.Calls.{Step, Run, Press, power_on_rule}
use Rattle.rules.specs.Cases.NextCases.{next_refuses}
use Rattle.rules.specs.RowCalls.{ListStep, ListRun, Rebuild}
use Rattle.rules.specs.Cases.RowCases.{RowCase, from, rows_with, open_rows, row_cases_hold}
use Rattle.rules.specs.Cases.Bench.{wy50, Claim, Cell, Cursor, Replies, Answers, Counts, Rests, Segments, TabStops, Features, Message, Stands}
use Rattle.rules.specs.Cases.Bench.{Columns, Wishes, Case, from_start, from_page, cases_hold, host}
use Rattle.rules.specs.Cases.Inputs.{esc, go_to, placed_on, obeys}

-- a wide page of which the first cells are given and all others 0
unfoldable pub wide_page : List ℕ → List ℕ
wide_page l = take wide_cells (l ++ replicate wide_cells 0)

-- the power_on_lem state but for a wide screen, with the cursor at a cell; and with protect mode on
unfoldable pub wide_at : ℕ → State
wide_at n = placed_on true 0 0 n 0

unfoldable pub wide_protect_at : ℕ → State
wide_protect_at n = record {
  core = with_modes (wide_at n).core (with_protect wy50.core.modes true);
  sending = wy50.sending;
  gathered = wy50.gathered;
  setup = wy50.setup;
}

-- every byte answers 0; every byte but the last, which answers 3
unfoldable pub wide_from : List ℕ → State → List ℕ → List Claim → Case
wide_from cells s bytes claims = from_page (wide_page cells) s (host bytes) (Answers (replicate (length bytes) 0) ∷ claims)

unfoldable pub wide_refuses : ℕ → List ℕ → List Claim → Case
wide_refuses n bytes claims = from_page (wide_page []) (wide_at n) (host bytes) (Answers (replicate (length bytes - 1) 0 ++ 3 ∷ []) ∷ claims)

-- on a blank page, from home
unfoldable pub wide : List ℕ → List Claim → Case
wide bytes claims = wide_from [] (wide_at 0) bytes claims

-- ESC a with a row of two digits and a column of three
unfoldable pub go_decimal : ℕ → ℕ → ℕ → ℕ → ℕ → List ℕ
go_decimal a b c d e = esc 0x61 ++ a ∷ b ∷ 0x52 ∷ c ∷ d ∷ e ∷ 0x43 ∷ []

-- ESC ` and a code
unfoldable pub feature : ℕ → List ℕ
feature f = esc 0x60 ++ f ∷ []

unfoldable pub wide_cases : List Case
wide_cases =
    -- at power_on_lem the page and the wish are narrow
    from_start [] (Columns 80 ∷ Wishes false ∷ [])
    -- ESC ` 3Bh and 3Ah set the wish and no feature, in either width; no feature sets it
    ∷ obeys (feature 0x3b) (Wishes true ∷ Columns 80 ∷ Features (0x31 ∷ 0x35 ∷ 0x37 ∷ 0x39 ∷ 0x40 ∷ []) ∷ [])
    ∷ obeys (feature 0x3a) (Wishes false ∷ Columns 80 ∷ [])
    ∷ obeys (feature 0x3b ++ feature 0x3a) (Wishes false ∷ Columns 80 ∷ Features (0x31 ∷ 0x35 ∷ 0x37 ∷ 0x39 ∷ 0x40 ∷ []) ∷ [])
    ∷ obeys (feature 0x3b ++ feature 0x39 ++ feature 0x3c ++ 0x41 ∷ []) (Wishes true ∷ Columns 80 ∷ Cell 0 0x41 ∷ [])
    ∷ obeys
    (feature 0x3b ++ esc 0x31 ++ esc 0x30 ++ esc 0x41 ++ 0x30 ∷ 0x30 ∷ esc 0x7a ++ 0x40 ∷ 0x61 ∷ 0x7f ∷ esc 0x7a ++ 0x50 ∷ 0x61 ∷ 0x0d ∷ esc 0x46
    ++ 0x61 ∷ 0x0d ∷ esc 0x7a ++ 0x7f ∷ [])
    (Wishes true ∷ Message (0x61 ∷ []) ∷ [])
    ∷ wide (feature 0x3b) (Wishes true ∷ Columns 132 ∷ Features (0x31 ∷ 0x35 ∷ 0x37 ∷ 0x39 ∷ 0x40 ∷ []) ∷ [])
    ∷ wide (feature 0x3b ++ feature 0x3a) (Wishes false ∷ Columns 132 ∷ [])
    -- a page that is not of the state's own length: 7 to each call, and nothing has changed
    ∷ from_page blank (wide_at 131) (Step 0x41 9 ∷ Run (0x41 ∷ []) 9 ∷ Run [] 9 ∷ Press 0x40 9 ∷ [])
    (Answers (7 ∷ 7 ∷ 7 ∷ 7 ∷ []) ∷ Replies [] ∷ Rests (0x41 ∷ []) ∷ Cell 131 0 ∷ Cursor 131 ∷ Columns 132 ∷ [])
    ∷ from_page (wide_page []) wy50 (Step 0x41 9 ∷ Run (0x41 ∷ []) 9 ∷ Run [] 9 ∷ Press 0x40 9 ∷ [])
    (Answers (7 ∷ 7 ∷ 7 ∷ 7 ∷ []) ∷ Replies [] ∷ Rests (0x41 ∷ []) ∷ Cell 0 0 ∷ Cursor 0 ∷ Columns 80 ∷ [])
    ∷ from_page (replicate 3167 0) (wide_at 0) (Step 0x41 9 ∷ Run [] 9 ∷ Press 0x40 9 ∷ []) (Answers (7 ∷ 7 ∷ 7 ∷ []) ∷ [])
    ∷ from_page (replicate 3169 0) (wide_at 0) (Step 0x41 9 ∷ Run [] 9 ∷ Press 0x40 9 ∷ []) (Answers (7 ∷ 7 ∷ 7 ∷ []) ∷ [])
    ∷ from_page (wide_page []) (wide_at 3168) (Step 0x41 9 ∷ Run [] 9 ∷ Press 0x40 9 ∷ []) (Answers (7 ∷ 7 ∷ 7 ∷ []) ∷ [])
    ∷ from_page (wide_page []) (wide_at 3167) (Step 0x0d 9 ∷ Run (0x41 ∷ []) 9 ∷ Press 0x40 9 ∷ []) (Answers (0 ∷ 0 ∷ 0 ∷ []) ∷ Cell 3036 0x41 ∷ [])
    -- ESC a reaches column 132: X in the last cell, and the page scrolls; ESC b tells it
    ∷ wide (go_decimal 0x32 0x34 0x31 0x33 0x32 ++ 0x58 ∷ []) (Cell 3035 0x58 ∷ Cell 3036 32 ∷ Cursor 3036 ∷ [])
    ∷ wide (go_decimal 0x30 0x31 0x31 0x33 0x32 ++ esc 0x62) (Cursor 131 ∷ Replies (0x30 ∷ 0x31 ∷ 0x52 ∷ 0x31 ∷ 0x33 ∷ 0x32 ∷ 0x43 ∷ []) ∷ [])
    ∷ wide (go_decimal 0x32 0x34 0x31 0x33 0x32 ++ esc 0x62) (Cursor 3167 ∷ Replies (0x32 ∷ 0x34 ∷ 0x52 ∷ 0x31 ∷ 0x33 ∷ 0x32 ∷ 0x43 ∷ []) ∷ [])
    ∷ wide_refuses 7 (go_decimal 0x30 0x31 0x31 0x33 0x33) (Cursor 7 ∷ [])
    ∷ wide_refuses 7 (go_decimal 0x32 0x35 0x30 0x30 0x31) (Cursor 7 ∷ [])
    -- ESC = and ESC - reach column 80 and no more
    ∷ wide (go_to 23 79 ++ 0x58 ∷ []) (Cell 3115 0x58 ∷ Cursor 3116 ∷ [])
    ∷ wide_refuses 7 (go_to 0 80) (Cursor 7 ∷ [])
    ∷ wide (esc 0x2d ++ 0x30 ∷ 0x21 ∷ 0x6f ∷ []) (Cursor 211 ∷ [])
    ∷ wide_refuses 7 (esc 0x2d ++ 0x30 ∷ 0x21 ∷ 0x70 ∷ []) (Cursor 7 ∷ [])
    -- ESC ? and ESC / answer 3 wherever the cursor is, and before 6; a narrow page replies
    ∷ wide_refuses 0 (esc 0x3f) (Replies [] ∷ Cursor 0 ∷ Stands Sending.Nothing ∷ [])
    ∷ wide_refuses 79 (esc 0x3f) (Replies [] ∷ [])
    ∷ wide_refuses 3167 (esc 0x3f) (Replies [] ∷ [])
    ∷ wide_refuses 0 (esc 0x2f) (Replies [] ∷ Cursor 0 ∷ Stands Sending.Nothing ∷ [])
    ∷ wide_refuses 79 (esc 0x2f) (Replies [] ∷ [])
    ∷ wide_refuses 3167 (esc 0x2f) (Replies [] ∷ [])
    ∷ from_page (wide_page []) (placed_on true 1 13 0 1584) (Run (esc 0x2f) 9 ∷ []) (Counts (2 ∷ 0 ∷ 1 ∷ []) ∷ Segments 1 13 0 1584 ∷ [])
    ∷ from_page (wide_page []) (wide_at 0) (Step 0x1b 0 ∷ Step 0x3f 0 ∷ Step 0x1b 0 ∷ Step 0x2f 0 ∷ Step 0x1b 0 ∷ Step 0x62 0 ∷ [])
    (Answers (0 ∷ 3 ∷ 0 ∷ 3 ∷ 0 ∷ 6 ∷ []) ∷ [])
    ∷ from_start (Step 0x1b 0 ∷ Step 0x3f 0 ∷ Step 0x3f 3 ∷ Step 0x1b 0 ∷ Step 0x2f 4 ∷ [])
    (Answers (0 ∷ 6 ∷ 0 ∷ 0 ∷ 0 ∷ []) ∷ Replies (0x20 ∷ 0x20 ∷ 0x0d ∷ 0x30 ∷ 0x20 ∷ 0x20 ∷ 0x0d ∷ []) ∷ [])
    ∷ from_page (wide_page []) (wide_at 131) (Run (esc 0x62) 6 ∷ Run [] 1 ∷ [])
    (Replies (0x30 ∷ 0x31 ∷ 0x52 ∷ 0x31 ∷ 0x33 ∷ 0x32 ∷ 0x43 ∷ []) ∷ Stands Sending.Nothing ∷ [])
    -- tab stops over the whole width: set at columns 100 and 132, found both ways, cleared
    ∷ wide_from [] (wide_at 99) (esc 0x31 ++ 0x0d ∷ 0x09 ∷ []) (TabStops (99 ∷ []) ∷ Cursor 99 ∷ [])
    ∷ wide_from [] (wide_at 231) (esc 0x31 ++ 0x1e ∷ 0x09 ∷ []) (TabStops (99 ∷ []) ∷ Cursor 99 ∷ [])
    ∷ wide_from [] (wide_at 99) (esc 0x31 ++ 0x1f ∷ esc 0x69) (Cursor 231 ∷ [])
    ∷ wide_from [] (wide_at 99) (esc 0x31 ++ 0x1f ∷ 0x08 ∷ esc 0x49) (Cursor 99 ∷ [])
    ∷ wide_from [] (wide_at 131) (esc 0x31 ++ 0x0d ∷ 0x09 ∷ []) (TabStops (131 ∷ []) ∷ Cursor 131 ∷ [])
    ∷ wide_from [] (wide_at 131) (esc 0x31 ++ esc 0x32) (TabStops [] ∷ [])
    ∷ wide_from [] (wide_at 99) (esc 0x31 ++ go_to 0 79 ++ esc 0x31 ++ esc 0x30) (TabStops [] ∷ [])
    -- a split at row 13, and of each segment the first cell and the last; up from the top wraps to the bottom; 08h across rows
    ∷ wide (esc 0x78 ++ 0x31 ∷ 0x2c ∷ esc 0x7d ++ 0x58 ∷ []) (Cell 1584 0x58 ∷ Segments 1 13 0 1585 ∷ [])
    ∷ wide_from [] (placed_on true 0 13 0 1584) (0x0b ∷ []) (Cursor 1452 ∷ [])
    ∷ wide_from [] (placed_on true 1 13 0 3167) (0x58 ∷ []) (Cell 3035 0x58 ∷ Cell 1584 0 ∷ Segments 1 13 0 3036 ∷ [])
    ∷ wide_from [] (placed_on true 1 13 0 3167) (esc 0x78 ++ 0x30 ∷ []) (Segments 0 0 0 0 ∷ Columns 132 ∷ [])
    ∷ wide (0x0b ∷ []) (Cursor 3036 ∷ [])
    ∷ wide (0x1f ∷ 0x08 ∷ []) (Cursor 131 ∷ [])
    -- settling across rows, with protect on
    ∷ wide_from (replicate 133 206) (wide_at 0) (esc 0x26) (Cursor 133 ∷ [])
    ∷ wide_from (replicate 3167 206) (wide_at 0) (esc 0x26) (Cursor 3167 ∷ [])
    ∷ wide_from (replicate 130 0 ++ 206 ∷ 206 ∷ 206 ∷ []) (wide_protect_at 129) (0x41 ∷ []) (Cell 129 0x41 ∷ Cursor 133 ∷ [])
    ∷ wide_from (replicate 130 0 ++ 206 ∷ 206 ∷ 206 ∷ []) (wide_protect_at 0) (0x09 ∷ []) (Cursor 133 ∷ [])
    ∷ wide_from (206 ∷ []) (wide_protect_at 3167) (0x41 ∷ []) (Cell 3167 0x41 ∷ Cursor 1 ∷ [])
    -- ESC T to the end of the row, ESC V its column, ESC R a row
    ∷ wide (esc 0x54) (Cell 131 32 ∷ Cell 132 0 ∷ Cursor 0 ∷ [])
    ∷ wide (esc 0x56) (Cell 0 160 ∷ Cell 132 160 ∷ Cell 3036 160 ∷ Cell 80 0 ∷ [])
    ∷ wide (0x1f ∷ 0x41 ∷ 0x1e ∷ esc 0x52) (Cell 0 0x41 ∷ Cell 3035 0 ∷ Cell 3036 32 ∷ Cell 3167 32 ∷ [])
    -- an insert stops at the row's end
    ∷ wide (0x1f ∷ 0x41 ∷ 0x1e ∷ esc 0x51) (Cell 0 32 ∷ Cell 131 0 ∷ Cell 132 0x41 ∷ [])
    -- ESC 7 over a row's end; a place at the US
    ∷ wide (0x41 ∷ 0x1f ∷ 0x42 ∷ esc 0x37) (Replies (0x41 ∷ replicate 131 32 ++ 0x1f ∷ 0x42 ∷ 0x20 ∷ 0x0d ∷ []) ∷ [])
    ∷ from_page (wide_page []) (wide_at 132) (Run (esc 0x35) 132 ∷ []) (Stands (Sending.Text false true (Place.Break 132)) ∷ [])
    -- the longest reply
    ∷ from_page (wide_page []) (wide_at 3167) (Run (esc 0x37) 9999 ∷ []) (Counts (2 ∷ 3192 ∷ 0 ∷ []) ∷ Stands Sending.Nothing ∷ [])
    ∷ from_page (wide_page []) (wide_at 3167) (Run (esc 0x37) 1 ∷ Run (0x05 ∷ []) 3192 ∷ []) (Counts (2 ∷ 1 ∷ 0 ∷ 1 ∷ 3192 ∷ 0 ∷ []) ∷ [])
    ∷ from_page (wide_page []) (wide_at 3167) (Run (esc 0x37) 1 ∷ Run (0x05 ∷ []) 3191 ∷ []) (Counts (2 ∷ 1 ∷ 0 ∷ 0 ∷ 3191 ∷ 0 ∷ []) ∷ [])
    ∷ from_page (wide_page []) (wide_at 3167) (Run (esc 0x35) 3191 ∷ [])
    (Counts (2 ∷ 3191 ∷ 0 ∷ []) ∷ Stands (Sending.Text false true Place.Return) ∷ [])
    -- the sizes of texts are those of a narrow page
    ∷ from_page (wide_page []) (wide_at 0) (Run (esc 0x46 ++ replicate 46 0x61 ++ 0x0d ∷ []) 0 ∷ [])
    (Counts (49 ∷ 0 ∷ 0 ∷ []) ∷ Message (replicate 46 0x61) ∷ [])
    ∷ from_page (wide_page []) (wide_at 0) (Run (esc 0x46 ++ replicate 47 0x61 ++ 0x0d ∷ []) 0 ∷ []) (Counts (50 ∷ 0 ∷ 1 ∷ []) ∷ Message [] ∷ [])
    ∷ []

-- the list of a wide page has 48 numbers too; a page of the other length answers 7
unfoldable pub wide_rows : List RowCase
wide_rows =
    from (wide_page []) (replicate 48 7) (wide_at 0) (Rebuild ∷ ListStep 0x41 0 ∷ ListRun (0x42 ∷ []) 0 ∷ []) (0 ∷ 0 ∷ 0 ∷ []) (rows_with 132 1 24)
    ∷ from (wide_page (replicate 133 206)) (replicate 48 7) (wide_protect_at 133) (Rebuild ∷ []) (0 ∷ []) (0 ∷ 0 ∷ 131 ∷ 2 ∷ rows_with 132 1 22)
    ∷ from (wide_page []) (rows_with 80 1 24) (wide_at 0) (ListStep 0x41 0 ∷ []) (7 ∷ []) (rows_with 80 1 24)
    ∷ from blank (replicate 48 7) (wide_at 0) (Rebuild ∷ []) (7 ∷ []) (replicate 48 7)
    ∷ from (wide_page []) (replicate 48 7) wy50 (Rebuild ∷ []) (7 ∷ []) (replicate 48 7)
    ∷ from blank (open_rows 24) (wide_at 0) (ListStep 0x41 0 ∷ ListRun [] 0 ∷ []) (7 ∷ 7 ∷ []) (open_rows 24)
    ∷ []

-- the statement
pub record WideList : Type 0 where
  pub cases : cases_hold wide_cases ≡ true
  -- power_on_lem takes no wide page
  pub power_on_lem : power_on_rule Personality.Wy50 (replicate 3168 5)
      ≡ record { answer = 7; taken = false; state = wy50; page = replicate 3168 5; reply = [] }
  pub rows : row_cases_hold wide_rows ≡ true
  pub next_narrow : next_refuses blank (wide_at 0) ≡ true
  pub next_wide : next_refuses (wide_page []) wy50 ≡ true
