-- What a command asks for, as data. A plan is made from the core, the tab stops, the command and which cells are guarded: it sees no
-- cell's contents.
use Rattle.std.specs.Prelude.{Bool, true, false, not, List, [], ◌∷◌, ℕ, zero, suc, ◌+◌, ◌-◌, ◌*◌, ◌/◌, ◌%◌, leb, ltb, eqb, get_or}
use Rattle.rules.specs.declared.Screen.{Screen}
use Rattle.rules.specs.declared.Modes.{Modes}
use Rattle.rules.specs.declared.Core.{Core}
use Rattle.rules.specs.declared.Plan.{Plan}
use Rattle.rules.specs.declared.Answer.{Answer}
use Rattle.rules.specs.declared.Answer.TheVariants as Answer
use Rattle.rules.specs.declared.Contents.{Contents}
use Rattle.rules.specs.declared.Personality.{Personality}
use Rattle.rules.specs.declared.Personality.TheVariants as Personality
use Rattle.rules.specs.declared.Move.{Move}
use Rattle.rules.specs.declared.Move.TheVariants as Move
use Rattle.rules.specs.declared.Window.{Window}
use Rattle.rules.specs.declared.Window.TheVariants as Window
use Rattle.rules.specs.declared.Edit.{Edit}
use Rattle.rules.specs.declared.Edit.TheVariants as Edit
use Rattle.rules.specs.declared.Clear.{Clear}
use Rattle.rules.specs.declared.Clear.TheVariants as Clear
use Rattle.rules.specs.declared.Setting.{Setting}
use Rattle.rules.specs.declared.Setting.TheVariants as Setting
use Rattle.rules.specs.declared.Send.{Send}
use Rattle.rules.specs.declared.Send.TheVariants as Send
use Rattle.rules.specs.declared.Excluded.{Excluded}
use Rattle.rules.specs.declared.Excluded.TheVariants as Excluded
use Rattle.rules.specs.declared.Command.{Command}
use Rattle.rules.specs.declared.Command.TheVariants as Command
use Rattle.rules.specs.declared.Write.{Write}
use Rattle.rules.specs.declared.Write.TheVariants as Write
use Rattle.rules.specs.declared.SetupChange.{SetupChange}
use Rattle.rules.specs.declared.SetupChange.TheVariants as SetupChange
use Rattle.rules.specs.declared.Short.{Short}
use Rattle.rules.specs.declared.Short.TheVariants as Short
use Rattle.rules.specs.declared.Place.TheVariants as Place
use Rattle.rules.specs.declared.Sending.{Sending}
use Rattle.rules.specs.declared.Sending.TheVariants as Sending
use Rattle.rules.specs.declared.Land.{Land}
use Rattle.rules.specs.declared.Land.TheVariants as Land
use Rattle.rules.specs.Cell.{pick, both, either, among, between, normal, written, null, space, protected_space}
use Rattle.rules.specs.Row.{columns, addressed, row_of, column_of, row_start, row_end}
use Rattle.rules.specs.Search.{previous_open, next_field, previous_field, next_tab, previous_tab}
use Rattle.rules.specs.State.{width_of, segment_top, segment_bottom, segment_start, segment_end, cursor_of, text_start, activated, with_screen}
use Rattle.rules.specs.State.{with_modes, with_bells, with_attribute, with_protect, with_mode}
use Rattle.rules.specs.Arguments.{attribute_contents, attribute_of, feature_place}

-- the forms of plans
abbrev pub refusing : Core → Answer → Plan
refusing c a = record {
  answer = a;
  first = Write.Nothing;
  second = Write.Nothing;
  change = SetupChange.Nothing;
  reply = Sending.Nothing;
  next = c;
  land = Land.Stay;
}

abbrev pub plain : Core → Plan
plain c = refusing c Answer.Done

abbrev pub writing_two : Core → Write → Write → Land → Plan
writing_two c w v l =
    record { answer = Answer.Done; first = w; second = v; change = SetupChange.Nothing; reply = Sending.Nothing; next = c; land = l }

abbrev pub writing : Core → Write → Land → Plan
writing c w l = writing_two c w Write.Nothing l

abbrev pub settling : Core → ℕ → Plan
settling c i = writing c Write.Nothing (Land.Settle i)

abbrev pub replying : Core → Sending → Plan
replying c r = record {
  answer = Answer.Done;
  first = Write.Nothing;
  second = Write.Nothing;
  change = SetupChange.Nothing;
  reply = r;
  next = c;
  land = Land.Stay;
}

abbrev pub changing : Core → SetupChange → Plan
changing c x = record {
  answer = Answer.Done;
  first = Write.Nothing;
  second = Write.Nothing;
  change = x;
  reply = Sending.Nothing;
  next = c;
  land = Land.Stay;
}

-- a guarded cursor cell answers 4
unfoldable pub unless_guarded : List Bool → Core → Plan → Plan
unless_guarded g c x = pick (get_or g (cursor_of c.screen) false) (refusing c Answer.Barred) x

-- the rows of the active segment move: up for a scroll up, down for a scroll down
abbrev pub scroll : Screen → Bool → Write
scroll x down = Write.Rows down (segment_top x) (segment_bottom x)

-- past the segment's end it scrolls if autoscroll is on and protect off
unfoldable pub scrolls : Modes → Bool
scrolls m = both m.autoscroll (not m.protect)

-- ---- where the cursor may go

-- 0Ch: the next cell, wrapping
unfoldable pub next_cell : Screen → ℕ
next_cell x = pick (ltb (cursor_of x + 1) (segment_end x)) (cursor_of x + 1) (segment_start x)

-- the cursor is in the segment's top row
unfoldable pub at_top : Screen → Bool
at_top x = ltb (cursor_of x) (segment_start x + width_of x)

-- 0Bh: up in column, top wraps to bottom
unfoldable pub up_cell : Screen → ℕ
up_cell x = pick (at_top x) (segment_end x - width_of x + column_of (width_of x) (cursor_of x)) (cursor_of x - width_of x)

-- ESC j: up; at the top it scrolls the segment down if protect is off, else stays
unfoldable pub reverse_plan : Core → Plan
reverse_plan c =
    let x = c.screen in
    pick (at_top x)
    (pick c.modes.protect (settling c (cursor_of x)) (writing c (scroll x true) (Land.Settle (cursor_of x))))
    (settling c (cursor_of x - width_of x))

-- 0Ah, from the cursor, and 1Fh, from column 1 of its row: down in column; at the bottom scroll up, or wrap to the top
unfoldable pub down_plan : Core → ℕ → Plan
down_plan c i =
    let x = c.screen in
    pick (ltb (i + width_of x) (segment_end x)) (settling c (i + width_of x))
    (pick (scrolls c.modes) (writing c (scroll x false) (Land.Settle i)) (settling c (segment_start x + column_of (width_of x) i)))

-- 09h: the next tab stop, or with protect on the next field start; ESC I: mirror image
unfoldable pub tab_cell : List Bool → List Bool → Core → ℕ
tab_cell g tabs c =
    let x = c.screen in
    pick c.modes.protect (next_field g (segment_start x) (segment_end x) (cursor_of x))
    (row_start (width_of x) (cursor_of x) + next_tab (width_of x) tabs (column_of (width_of x) (cursor_of x)))

unfoldable pub back_tab_cell : List Bool → List Bool → Core → ℕ
back_tab_cell g tabs c =
    let x = c.screen in
    pick c.modes.protect (previous_field g (segment_start x) (segment_end x) (cursor_of x))
    (row_start (width_of x) (cursor_of x) + previous_tab tabs (column_of (width_of x) (cursor_of x)))

-- a row and a column, both counted from `base`, within the active segment of x, from its top, and its first `most` columns; outside 3
unfoldable pub address_plan : Core → Screen → ℕ → ℕ → ℕ → ℕ → Plan
address_plan c x base most row column =
    pick (both (among base (segment_bottom x - segment_top x) row) (among base most column))
    (settling (with_screen c x) ((segment_top x + (row - base)) * width_of x + (column - base)))
    (refusing c Answer.BadArgument)

unfoldable pub move_plan : List Bool → List Bool → Core → Move → Plan
move_plan g tabs c Move.Back = settling c (previous_open g (segment_start c.screen) (cursor_of c.screen))
move_plan g tabs c Move.Right = settling c (next_cell c.screen)
move_plan g tabs c Move.Return = settling c (row_start (width_of c.screen) (cursor_of c.screen))
move_plan g tabs c Move.Home = settling c (segment_start c.screen)
move_plan g tabs c Move.Up = settling c (up_cell c.screen)
move_plan g tabs c Move.Reverse = reverse_plan c
move_plan g tabs c Move.Down = down_plan c (cursor_of c.screen)
move_plan g tabs c Move.NextLine = down_plan c (row_start (width_of c.screen) (cursor_of c.screen))
move_plan g tabs c Move.Tab = settling c (tab_cell g tabs c)
move_plan g tabs c Move.BackTab = settling c (back_tab_cell g tabs c)
move_plan g tabs c (Move.Address r k) = address_plan c c.screen 0x20 addressed r k
move_plan g tabs c (Move.Decimal r k) = address_plan c c.screen 1 (width_of c.screen) r k

-- ESC x 0 unsplits; ESC x 1 r, r 21h to 37h, splits at that row. Both cursors go home; segment 0 is active
abbrev pub unsplit_screen : Bool → Screen
unsplit_screen wide = record { wide = wide; active = 0; split = 0; cursor0 = 0; cursor1 = 0 }

abbrev pub split_screen : Bool → ℕ → Screen
split_screen wide s = record { wide = wide; active = 0; split = s; cursor0 = 0; cursor1 = (s - 1) * columns wide }

-- segment n becomes active, and its cursor settles
unfoldable pub activate : Core → ℕ → Plan
activate c n = settling (with_screen c (activated c.screen n)) (cursor_of (activated c.screen n))

-- there is such a segment, by its code 30h or 31h
unfoldable pub is_segment : Screen → ℕ → Bool
is_segment x n = either (eqb n 0x30) (both (eqb n 0x31) (not (eqb x.split 0)))

unfoldable pub window_plan : Core → Window → Plan
window_plan c Window.Unsplit = settling (with_screen c (unsplit_screen c.screen.wide)) 0
window_plan c (Window.Split r) =
    pick (between 0x21 0x37 r) (settling (with_screen c (split_screen c.screen.wide (r - 0x1f))) 0) (refusing c Answer.BadArgument)
window_plan c Window.Other = pick (eqb c.screen.split 0) (plain c) (activate c (1 - c.screen.active))
window_plan c Window.First = activate c 0
window_plan c Window.Second = pick (eqb c.screen.split 0) (refusing c Answer.BadArgument) (activate c 1)
window_plan c (Window.Place n r k) =
    pick (is_segment c.screen n) (address_plan c (activated c.screen (n - 0x30)) 0x20 addressed r k) (refusing c Answer.BadArgument)

-- ---- writing and clearing

-- the store itself; in insert mode the edit run is shifted right first
unfoldable pub storing : Bool → ℕ → ℕ → Write
storing insert at v = pick insert (Write.Edit true at v) (Write.Fill at (at + 1) v)

-- and the advance: the next cell; past the segment's last cell scroll, and column 1 of the bottom row, else home
unfoldable pub advancing : Core → Write → Plan
advancing c w =
    let x = c.screen in
    pick (ltb (cursor_of x + 1) (segment_end x)) (writing c w (Land.Settle (cursor_of x + 1)))
    (pick (scrolls c.modes) (writing_two c w (scroll x false) (Land.Settle (segment_end x - width_of x)))
    (writing c w (Land.Settle (segment_start x))))

-- a store with an attribute
unfoldable pub store_plan : List Bool → Core → Contents → ℕ → Plan
store_plan g c k a = unless_guarded g c (advancing c (storing c.modes.insert (cursor_of c.screen) (written k c.modes.writeprotect a)))

-- ESC G (amended by request A8 of document 02): in WY-50 every code takes a cell; in WY-60 only 20h does, and any other is remembered
unfoldable pub takes_cell : Personality → ℕ → Bool
takes_cell Personality.Wy50 a = true
takes_cell Personality.Wy60 a = eqb a 0x20

unfoldable pub attribute_plan : List Bool → Core → ℕ → Plan
attribute_plan g c a =
    pick (takes_cell c.personality a) (store_plan g c (attribute_contents a) normal) (plain (with_attribute c (attribute_of a)))

-- ESC Q, ESC W: the edit run moves, a space comes in, the cursor stays. ESC E, ESC R: the cursor's row, within the segment; protect on: 4
unfoldable pub row_edit_plan : Core → Bool → Plan
row_edit_plan c down =
    let x = c.screen in
    pick c.modes.protect (refusing c Answer.Barred)
    (writing c (Write.Rows down (row_of (width_of x) (cursor_of x)) (segment_bottom x)) (Land.Settle (row_start (width_of x) (cursor_of x))))

unfoldable pub edit_plan : List Bool → Core → Edit → Plan
edit_plan g c Edit.InsertCell = unless_guarded g c (writing c (Write.Edit true (cursor_of c.screen) space) Land.Stay)
edit_plan g c Edit.DeleteCell = unless_guarded g c (writing c (Write.Edit false (cursor_of c.screen) space) Land.Stay)
edit_plan g c Edit.InsertRow = row_edit_plan c true
edit_plan g c Edit.DeleteRow = row_edit_plan c false

-- what clearing writes is normal, and unprotected but for ESC V: protected spaces in the cursor's column
unfoldable pub clear_plan : Core → Clear → Plan
clear_plan c (Clear.Row k) =
    writing c (Write.Fill (cursor_of c.screen) (row_end (width_of c.screen) (cursor_of c.screen)) (written k false normal)) Land.Stay
clear_plan c (Clear.Rest k) = writing c (Write.Fill (cursor_of c.screen) (segment_end c.screen) (written k false normal)) Land.Stay
clear_plan c (Clear.Segment k) =
    writing c (Write.Fill (segment_start c.screen) (segment_end c.screen) (written k false normal)) (Land.Settle (segment_start c.screen))
clear_plan c Clear.Column =
    writing c
    (Write.Column (segment_top c.screen) (segment_bottom c.screen) (column_of (width_of c.screen) (cursor_of c.screen)) protected_space)
    (Land.Settle (cursor_of c.screen))

-- ---- modes and replies

unfoldable pub setting_plan : Core → Setting → Plan
setting_plan c (Setting.Tab b) = changing c (SetupChange.Tab (column_of (width_of c.screen) (cursor_of c.screen)) b)
setting_plan c Setting.ClearTabs = changing c SetupChange.ClearTabs
setting_plan c (Setting.Attribute n a) = changing c (SetupChange.Attribute n a)
setting_plan c (Setting.Feature f) = changing c (SetupChange.Feature (feature_place f) f)
setting_plan c Setting.HideLine = changing c SetupChange.HideLine
setting_plan c (Setting.Wish b) = changing c (SetupChange.Wish b)

-- a short reply, and a text, from their first place
abbrev pub short : Core → Short → Plan
short c r = replying c (Sending.Short r 0)

abbrev pub text : Core → Bool → Bool → Plan
text c all segment = replying c (Sending.Text all segment (Place.Cell (text_start c.screen segment)))

-- ESC ? and ESC / answer 3 on a wide page, wherever the cursor is (document 02, A11)
unfoldable pub unless_wide : Core → Plan → Plan
unless_wide c x = pick c.screen.wide (refusing c Answer.BadArgument) x

unfoldable pub send_plan : List Bool → Core → Send → Plan
send_plan g c Send.Acknowledge = short c Short.Acknowledge
send_plan g c Send.Identity = short c Short.Identity
send_plan g c Send.Cursor = unless_wide c (short c Short.Cursor)
send_plan g c Send.SegmentCursor = unless_wide c (short c Short.SegmentCursor)
send_plan g c Send.DecimalCursor = short c Short.DecimalCursor
send_plan g c Send.Cell = unless_guarded g c (short c Short.Cell)
send_plan g c Send.OpenRow = text c false false
send_plan g c Send.OpenSegment = text c false true

-- ---- the six that demand 3 leaves out: ESC ', the clear-all commands ESC * + , and the sends with guarded cells ESC 6 7

-- all cells of the segment become v, and the cursor goes home
abbrev pub clear_all : Core → ℕ → Plan
clear_all c v = writing c (Write.FillAll (segment_start c.screen) (segment_end c.screen) v) (Land.Settle (segment_start c.screen))

abbrev pub protect_off : Core → Core
protect_off c = with_modes c (with_protect c.modes false)

unfoldable pub excluded_plan : Core → Excluded → Plan
excluded_plan c Excluded.ProtectOff = plain (protect_off c)
excluded_plan c Excluded.ClearNulls = clear_all c null
excluded_plan c Excluded.ClearSpaces = clear_all c space
excluded_plan c Excluded.ClearProtected = clear_all (protect_off c) protected_space
excluded_plan c Excluded.SendRow = text c true false
excluded_plan c Excluded.SendSegment = text c true true

-- the plan of each command, from a core whose sequence is cleared
unfoldable pub plan_rule : List Bool → List Bool → Core → Command → Plan
plan_rule g tabs c Command.Nothing = plain c
plan_rule g tabs c (Command.Go m) = move_plan g tabs c m
plan_rule g tabs c (Command.Window x) = window_plan c x
plan_rule g tabs c (Command.Store k) = store_plan g c k c.attribute
plan_rule g tabs c (Command.Attribute a) = attribute_plan g c a
plan_rule g tabs c (Command.Edit x) = edit_plan g c x
plan_rule g tabs c (Command.Clear x) = clear_plan c x
plan_rule g tabs c (Command.Turn m b) = plain (with_modes c (with_mode c.modes m b))
plan_rule g tabs c Command.ProtectOn = settling (with_modes c (with_protect c.modes true)) (cursor_of c.screen)
plan_rule g tabs c Command.Bell = plain (with_bells c ((c.bells + 1) % 256))
plan_rule g tabs c (Command.Set x) = setting_plan c x
plan_rule g tabs c (Command.Send x) = send_plan g c x
plan_rule g tabs c (Command.Excluded x) = excluded_plan c x
