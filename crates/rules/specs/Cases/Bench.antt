-- The bench list's marked cases (document 01, "The bench list"): one table, one statement.
use Rattle.std.specs.Prelude.{◌≡◌, Bool, true, false, not, List, [], ◌∷◌, ◌++◌, map, ℕ, zero, suc, eqb, get_or, take, replicate}
use Rattle.rules.specs.declared.State.{State}
use Rattle.rules.specs.declared.Screen.{Screen}
use Rattle.rules.specs.declared.Modes.{Modes}
use Rattle.rules.specs.declared.Setup.{Setup}
use Rattle.rules.specs.declared.Slot.{Slot}
use Rattle.rules.specs.declared.Slot.TheVariants as Slot
use Rattle.rules.specs.declared.Personality.TheVariants as Personality
use Rattle.rules.specs.declared.Short.{Short}
use Rattle.rules.specs.declared.Short.TheVariants as Short
use Rattle.rules.specs.declared.Place.{Place}
use Rattle.rules.specs.declared.Place.TheVariants as Place
use Rattle.rules.specs.declared.Sending.{Sending}
use Rattle.rules.specs.declared.Sending.TheVariants as Sending
use Rattle.rules.specs.Cell.{pick, both, same}
use Rattle.rules.specs.State.{width_of, cursor_of, short_bytes, key_place, label_place}
use Rattle.rules.specs.Possible.{power_on, blank}
use Rattle.rules.specs.Calls.{Call, Step, Run, Press, Given, Played, play}

-- the power-on states of the two personalities
abbrev pub wy50 : State
wy50 = power_on Personality.Wy50

abbrev pub wy60 : State
wy60 = power_on Personality.Wy60

-- what a case claims once its calls are made: a cell's number, the active cursor's cell, all reply bytes joined, the answer of each call
pub data Claim : Type 0 where
  Cell : ℕ → ℕ → Claim
  Cursor : ℕ → Claim
  Replies : List ℕ → Claim
  Answers : List ℕ → Claim
  -- the counts of each call joined; the input handed back, joined
  Counts : List ℕ → Claim
  Rests : List ℕ → Claim
  -- the active segment, the split row, both cursors
  Segments : ℕ → ℕ → ℕ → ℕ → Claim
  -- 1 for each mode that is on: protect, write-protect, insert, autoscroll, locked, local edit
  InModes : List ℕ → Claim
  -- the columns of the tab stops, from 0
  TabStops : List ℕ → Claim
  FieldAttributes : List ℕ → Claim
  Features : List ℕ → Claim
  Bells : ℕ → Claim
  -- the attribute remembered
  Remembered : ℕ → Claim
  -- the host message, the label of a value of ESC z, whether the shifted line is on
  Message : List ℕ → Claim
  Label : ℕ → List ℕ → Claim
  Shifted : Bool → Claim
  -- the bytes that a text's array holds, those behind the text too
  Held : Slot → List ℕ → Claim
  -- the send under way
  Stands : Sending → Claim
  -- the columns of the page; whether a wide one is wished for
  Columns : ℕ → Claim
  Wishes : Bool → Claim

unfoldable pub replies : List Given → List ℕ
replies [] = []
replies (g ∷ gs) = g.reply ++ replies gs

unfoldable pub answers : List Given → List ℕ
answers [] = []
answers (g ∷ gs) = g.answer ∷ answers gs

unfoldable pub counts_of : List Given → List ℕ
counts_of [] = []
counts_of (g ∷ gs) = g.counts ++ counts_of gs

unfoldable pub rests_of : List Given → List ℕ
rests_of [] = []
rests_of (g ∷ gs) = g.rest ++ rests_of gs

unfoldable pub segments_of : Screen → List ℕ
segments_of x = x.active ∷ x.split ∷ x.cursor0 ∷ x.cursor1 ∷ []

abbrev pub bit : Bool → ℕ
bit b = pick b 1 0

unfoldable pub modes_of : Modes → List ℕ
modes_of m = bit m.protect ∷ bit m.writeprotect ∷ bit m.insert ∷ bit m.autoscroll ∷ bit m.locked ∷ bit m.local ∷ []

-- the columns of tab stops, the first of them being column `at`
unfoldable pub stops_from : ℕ → List Bool → List ℕ
stops_from at [] = []
stops_from at (b ∷ l) = pick b (at ∷ []) [] ++ stops_from (suc at) l

-- a send, as numbers: which reply, and its place
abbrev pub short_number : Short → ℕ
short_number Short.Acknowledge = 0
short_number Short.Cell = 1
short_number Short.Identity = 2
short_number Short.Cursor = 3
short_number Short.SegmentCursor = 4
short_number Short.DecimalCursor = 5

abbrev pub place_numbers : Place → List ℕ
place_numbers (Place.Cell i) = 0 ∷ i ∷ []
place_numbers (Place.Break i) = 1 ∷ i ∷ []
place_numbers Place.Return = 2 ∷ []

unfoldable pub send_numbers : Sending → List ℕ
send_numbers Sending.Nothing = []
send_numbers (Sending.Short r n) = short_number r ∷ n ∷ []
send_numbers (Sending.Text all segment k) = bit all ∷ bit segment ∷ 9 ∷ place_numbers k

unfoldable pub held_bytes : Setup → Slot → List ℕ
held_bytes u (Slot.Key v) = (get_or u.keys (key_place v) record { len = 0; bytes = [] }).bytes
held_bytes u (Slot.Label v) = (get_or u.labels (label_place v) record { len = 0; bytes = [] }).bytes
held_bytes u Slot.Message = u.message.bytes

unfoldable pub holds : Played → Claim → Bool
holds r (Cell i v) = eqb (get_or r.page i 0) v
holds r (Cursor c) = eqb (cursor_of r.state.core.screen) c
holds r (Replies l) = same (replies r.given) l
holds r (Answers l) = same (answers r.given) l
holds r (Counts l) = same (counts_of r.given) l
holds r (Rests l) = same (rests_of r.given) l
holds r (Segments a s c d) = same (segments_of r.state.core.screen) (a ∷ s ∷ c ∷ d ∷ [])
holds r (InModes l) = same (modes_of r.state.core.modes) l
holds r (TabStops l) = same (stops_from 0 r.state.setup.tabs) l
holds r (FieldAttributes l) = same r.state.setup.attributes l
holds r (Features l) = same r.state.setup.features l
holds r (Bells n) = eqb r.state.core.bells n
holds r (Remembered a) = eqb r.state.core.attribute a
holds r (Message l) = same (take r.state.setup.message.len r.state.setup.message.bytes) l
holds r (Label v l) = same (short_bytes (get_or r.state.setup.labels (label_place v) record { len = 0; bytes = [] })) l
holds r (Shifted b) = pick b r.state.setup.shifted (not r.state.setup.shifted)
holds r (Held x l) = same (held_bytes r.state.setup x) l
holds r (Stands x) = same (send_numbers r.state.sending) (send_numbers x)
holds r (Columns n) = eqb (width_of r.state.core.screen) n
holds r (Wishes b) = pick b r.state.setup.wish (not r.state.setup.wish)

unfoldable pub all_hold : Played → List Claim → Bool
all_hold r [] = true
all_hold r (c ∷ cs) = both (holds r c) (all_hold r cs)

-- calls from the power-on of a WY-50, or from another page and state, and what is claimed of them
pub data Case : Type 0 where
  from_start : List Call → List Claim → Case
  from_page : List ℕ → State → List Call → List Claim → Case

unfoldable pub cases_hold : List Case → Bool
cases_hold [] = true
cases_hold (from_start calls claims ∷ cs) = both (all_hold (play calls blank wy50) claims) (cases_hold cs)
cases_hold (from_page p s calls claims ∷ cs) = both (all_hold (play calls p s) claims) (cases_hold cs)

-- host bytes, each with a room of 1,944
unfoldable pub host : List ℕ → List Call
host bytes = map (λ b. Step b 1944) bytes

-- every kind of claim is read: each of these is wrong after A and 05h
unfoldable pub none_hold : Played → List Claim → Bool
none_hold r [] = true
none_hold r (c ∷ cs) = both (not (holds r c)) (none_hold r cs)

unfoldable pub wrong_claims : List Claim
wrong_claims =
    Cell 0 0x42 ∷ Cursor 0 ∷ Replies [] ∷ Answers (0 ∷ 1 ∷ []) ∷ Counts [] ∷ Rests (0x41 ∷ []) ∷ Segments 0 0 0 0
    ∷ InModes (0 ∷ 0 ∷ 0 ∷ 0 ∷ 0 ∷ 0 ∷ [])
    ∷ TabStops (0 ∷ []) ∷ FieldAttributes (0x30 ∷ 0x30 ∷ 0x30 ∷ 0x31 ∷ []) ∷ Features (0x31 ∷ 0x35 ∷ 0x37 ∷ 0x39 ∷ []) ∷ Bells 1 ∷ Remembered 1
    ∷ Message (0x41 ∷ []) ∷ Label 0x30 (0x41 ∷ []) ∷ Shifted true ∷ Held (Slot.Key 0x40) (replicate 8 0x20) ∷ Stands (Sending.Short Short.Cell 0)
    ∷ Columns 132 ∷ Wishes true ∷ []

-- ESC ) and two letters, ESC ( and ESC &
unfoldable pub label : ℕ → ℕ → List ℕ
label a b = 0x1b ∷ 0x29 ∷ a ∷ b ∷ 0x1b ∷ 0x28 ∷ 0x1b ∷ 0x26 ∷ []

-- the text of a blank page: 24 rows of spaces with US between them
unfoldable pub rows_of_spaces : ℕ → List ℕ
rows_of_spaces zero = replicate 80 0x20
rows_of_spaces (suc n) = replicate 80 0x20 ++ 0x1f ∷ rows_of_spaces n

unfoldable pub whole_page : List ℕ
whole_page = rows_of_spaces 23

unfoldable pub table : List Case
table =
    -- 1: A B ESC ?
    from_start (host (0x41 ∷ 0x42 ∷ 0x1b ∷ 0x3f ∷ [])) (Replies (0x20 ∷ 0x22 ∷ 0x0d ∷ []) ∷ Answers (replicate 4 0) ∷ [])
    -- 2: ESC = 37h 6Fh X
    ∷ from_start (host (0x1b ∷ 0x3d ∷ 0x37 ∷ 0x6f ∷ 0x58 ∷ [])) (Cell 1839 0x58 ∷ Cursor 1840 ∷ Answers (replicate 5 0) ∷ [])
    -- 3: ESC = 38h 20h; ESC = 20h 70h
    ∷ from_start (host (0x1b ∷ 0x3d ∷ 0x38 ∷ 0x20 ∷ [])) (Cursor 0 ∷ Answers (0 ∷ 0 ∷ 0 ∷ 3 ∷ []) ∷ [])
    ∷ from_start (host (0x1b ∷ 0x3d ∷ 0x20 ∷ 0x70 ∷ [])) (Cursor 0 ∷ Answers (0 ∷ 0 ∷ 0 ∷ 3 ∷ []) ∷ [])
    -- 4: ESC a 24R80C, ESC b
    ∷ from_start (host (0x1b ∷ 0x61 ∷ 0x32 ∷ 0x34 ∷ 0x52 ∷ 0x38 ∷ 0x30 ∷ 0x43 ∷ 0x1b ∷ 0x62 ∷ []))
    (Cursor 1919 ∷ Replies (0x32 ∷ 0x34 ∷ 0x52 ∷ 0x30 ∷ 0x38 ∷ 0x30 ∷ 0x43 ∷ []) ∷ Answers (replicate 10 0) ∷ [])
    -- 5, amended by request A2 of document 02: No protected; then CR; then 08h; then x, ESC 4
    ∷ from_start (host (label 0x4e 0x6f)) (Cell 0 206 ∷ Cell 1 239 ∷ Answers (replicate 8 0) ∷ [])
    ∷ from_start (host (label 0x4e 0x6f ++ 0x0d ∷ [])) (Cursor 2 ∷ Answers (replicate 9 0) ∷ [])
    ∷ from_start (host (label 0x4e 0x6f ++ 0x0d ∷ 0x08 ∷ [])) (Cursor 2 ∷ Answers (replicate 10 0) ∷ [])
    ∷ from_start (host (label 0x4e 0x6f ++ 0x0d ∷ 0x08 ∷ 0x78 ∷ 0x1b ∷ 0x34 ∷ []))
    (Cell 2 0x78 ∷ Replies (0x1c ∷ 0x78 ∷ 0x20 ∷ 0x0d ∷ []) ∷ Answers (replicate 13 0) ∷ [])
    -- 6: the same with Hi
    ∷ from_start (host (label 0x48 0x69 ++ 0x0d ∷ 0x08 ∷ 0x78 ∷ 0x1b ∷ 0x34 ∷ []))
    (Replies (0x1c ∷ 0x78 ∷ 0x20 ∷ 0x0d ∷ []) ∷ Answers (replicate 13 0) ∷ [])
    -- 7: ESC , ESC & A
    ∷ from_start (host (0x1b ∷ 0x2c ∷ 0x1b ∷ 0x26 ∷ 0x41 ∷ [])) (Cell 0 160 ∷ Cursor 0 ∷ Answers (0 ∷ 0 ∷ 0 ∷ 0 ∷ 4 ∷ []) ∷ [])
    -- 8: ESC z 40h hi DEL; key 40h; key 41h
    ∷ from_start (host (0x1b ∷ 0x7a ∷ 0x40 ∷ 0x68 ∷ 0x69 ∷ 0x7f ∷ []) ++ Press 0x40 8 ∷ [])
    (Replies (0x68 ∷ 0x69 ∷ []) ∷ Answers (replicate 7 0) ∷ [])
    ∷ from_start (host (0x1b ∷ 0x7a ∷ 0x40 ∷ 0x68 ∷ 0x69 ∷ 0x7f ∷ []) ++ Press 0x41 8 ∷ [])
    (Replies (0x01 ∷ 0x41 ∷ 0x0d ∷ []) ∷ Answers (replicate 7 0) ∷ [])
    -- 9: ESC E9h = 20h 20h
    ∷ from_start (host (0x1b ∷ 0xe9 ∷ 0x3d ∷ 0x20 ∷ 0x20 ∷ [])) (Cursor 0 ∷ Answers (0 ∷ 1 ∷ 0 ∷ 0 ∷ 0 ∷ []) ∷ [])
    -- 10: ESC x 1 2Ch, ESC }, ESC /; ESC = 2Ch 20h
    ∷ from_start (host (0x1b ∷ 0x78 ∷ 0x31 ∷ 0x2c ∷ 0x1b ∷ 0x7d ∷ 0x1b ∷ 0x2f ∷ 0x1b ∷ 0x3d ∷ 0x2c ∷ 0x20 ∷ []))
    (Replies (0x31 ∷ 0x20 ∷ 0x20 ∷ 0x0d ∷ []) ∷ Answers (replicate 11 0 ++ 3 ∷ []) ∷ [])
    -- 12, amended by request A9: ESC 7 at the last cell of a blank page. 1,944 bytes; in a room of 1,943 all but the CR, and then that
    ∷ from_start (host (0x1b ∷ 0x3d ∷ 0x37 ∷ 0x6f ∷ 0x1b ∷ 0x37 ∷ [])) (Replies (whole_page ++ 0x0d ∷ []) ∷ Answers (replicate 6 0) ∷ [])
    ∷ from_start (Run (0x1b ∷ 0x3d ∷ 0x37 ∷ 0x6f ∷ 0x1b ∷ 0x37 ∷ []) 1943 ∷ []) (Replies whole_page ∷ Answers (0 ∷ []) ∷ [])
    ∷ from_start (Run (0x1b ∷ 0x3d ∷ 0x37 ∷ 0x6f ∷ 0x1b ∷ 0x37 ∷ []) 1943 ∷ Run [] 1 ∷ [])
    (Replies (whole_page ++ 0x0d ∷ []) ∷ Answers (0 ∷ 0 ∷ []) ∷ [])
    ∷ []

-- the statement
abbrev pub BenchList : Type 0
BenchList = cases_hold table ≡ true
