-- Inputs of worked cases by short names, and the forms of cases.
use Rattle.std.specs.Prelude.{Bool, true, false, List, [], ◌∷◌, ◌++◌, ℕ, ◌+◌, ◌-◌, length, take, replicate}
use Rattle.rules.specs.declared.State.{State}
use Rattle.rules.specs.State.{with_cursor, with_screen, with_modes, with_protect, with_bells, with_keys}
use Rattle.rules.specs.Possible.{blank}
use Rattle.rules.specs.Step.{outcome_of, inner_rule}
use Rattle.rules.specs.Calls.{Played, of_step, after}
use Rattle.rules.specs.Cases.Bench.{wy50, Claim, Answers, Case, from_start, from_page, host}

-- ESC and a byte; ESC = with a row and a column counted from 0
unfoldable pub esc : ℕ → List ℕ
esc b = 0x1b ∷ b ∷ []

unfoldable pub go_to : ℕ → ℕ → List ℕ
go_to row column = 0x1b ∷ 0x3d ∷ (0x20 + row) ∷ (0x20 + column) ∷ []

-- a protected letter N at a row and a column counted from 0
unfoldable pub labelled : ℕ → ℕ → List ℕ
labelled row column = go_to row column ++ esc 0x29 ++ 0x4e ∷ [] ++ esc 0x28

-- a split at row 13: segment 1 is the cells 960 to 1919; and segment 1 active
unfoldable pub halves : List ℕ
halves = esc 0x78 ++ 0x31 ∷ 0x2c ∷ []

unfoldable pub lower : List ℕ
lower = halves ++ esc 0x7d

-- cells: A B, and C at the start of row 2
unfoldable pub three_letters : List ℕ
three_letters = 0x41 ∷ 0x42 ∷ replicate 78 0 ++ 0x43 ∷ []

-- cells: X at home, and at the starts of rows 13 and 14 A and B
unfoldable pub letters_below : List ℕ
letters_below = 0x58 ∷ replicate 959 0 ++ 0x41 ∷ replicate 79 0 ++ 0x42 ∷ []

-- a page of which the first cells are given and all others 0
unfoldable pub page_of : List ℕ → List ℕ
page_of l = take 1920 (l ++ blank)

-- the power-on state, but with the cursor at a cell
unfoldable pub cursor_at : ℕ → State
cursor_at n = record {
  core = with_screen wy50.core (with_cursor wy50.core.screen n);
  sending = wy50.sending;
  gathered = wy50.gathered;
  setup = wy50.setup;
}

-- and with protect mode on
unfoldable pub protect_at : ℕ → State
protect_at n = record {
  core = with_modes (cursor_at n).core (with_protect wy50.core.modes true);
  sending = wy50.sending;
  gathered = wy50.gathered;
  setup = wy50.setup;
}

-- with another screen: of a width, with an active segment, a split row and both cursors
unfoldable pub placed_on : Bool → ℕ → ℕ → ℕ → ℕ → State
placed_on wide a s c d = record {
  core = with_screen wy50.core record { wide = wide; active = a; split = s; cursor0 = c; cursor1 = d };
  sending = wy50.sending;
  gathered = wy50.gathered;
  setup = wy50.setup;
}

-- of a page split at row 13, in segment 0 or in segment 1, the other cursor home
unfoldable pub upper_at : ℕ → State
upper_at n = placed_on false 0 13 n 960

unfoldable pub lower_at : ℕ → State
lower_at n = placed_on false 1 13 0 n

-- the power-on state with some bells counted
unfoldable pub belled : ℕ → State
belled n = record { core = with_bells wy50.core n; sending = wy50.sending; gathered = wy50.gathered; setup = wy50.setup }

-- the power-on state with 8 bytes in every key
unfoldable pub full_keys : State
full_keys = record {
  core = wy50.core;
  sending = wy50.sending;
  gathered = wy50.gathered;
  setup = with_keys wy50.setup (replicate 32 record { len = 8; bytes = replicate 8 0x61 });
}

-- bytes worked by the rule of a byte on a good page, each with a room of 3,192
unfoldable pub typed : List ℕ → List ℕ → State → Played
typed [] p s = record { given = []; state = s; page = p }
typed (b ∷ bytes) p s =
    let o = of_step (outcome_of s (inner_rule p s.core s.setup.tabs b 3192)) in
    after o.given (typed bytes o.page o.given.state)

-- every byte answers 0; every byte but the last, which answers n
unfoldable pub obeys : List ℕ → List Claim → Case
obeys bytes claims = from_start (host bytes) (Answers (replicate (length bytes) 0) ∷ claims)

unfoldable pub refuses : ℕ → List ℕ → List Claim → Case
refuses n bytes claims = from_start (host bytes) (Answers (replicate (length bytes - 1) 0 ++ n ∷ []) ∷ claims)

-- the same from a page of which the first cells are given
unfoldable pub obeys_from : List ℕ → State → List ℕ → List Claim → Case
obeys_from cells s bytes claims = from_page (page_of cells) s (host bytes) (Answers (replicate (length bytes) 0) ∷ claims)

unfoldable pub refuses_from : ℕ → List ℕ → State → List ℕ → List Claim → Case
refuses_from n cells s bytes claims = from_page (page_of cells) s (host bytes) (Answers (replicate (length bytes - 1) 0 ++ n ∷ []) ∷ claims)
