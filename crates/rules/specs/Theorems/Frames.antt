-- What each command may change of the terminal, and that it changes nothing else. A row here is read beside the command's row in Plan; that each
-- part of a row does change is shown by trials (FrameCases).
use Rattle.std.specs.Prelude.{◌≡◌, Bool, true, false, List, [], ◌∷◌, ℕ, get_or}
use Rattle.rules.specs.declared.State.{State}
use Rattle.rules.specs.declared.Slot.{Slot}
use Rattle.rules.specs.declared.Slot.TheVariants as Slot
use Rattle.rules.specs.declared.Move.{Move}
use Rattle.rules.specs.declared.Move.TheVariants as Move
use Rattle.rules.specs.declared.Mode.{Mode}
use Rattle.rules.specs.declared.Mode.TheVariants as Mode
use Rattle.rules.specs.declared.Window.{Window}
use Rattle.rules.specs.declared.Window.TheVariants as Window
use Rattle.rules.specs.declared.Edit.{Edit}
use Rattle.rules.specs.declared.Edit.TheVariants as Edit
use Rattle.rules.specs.declared.Clear.{Clear}
use Rattle.rules.specs.declared.Clear.TheVariants as Clear
use Rattle.rules.specs.declared.Setting.{Setting}
use Rattle.rules.specs.declared.Setting.TheVariants as Setting
use Rattle.rules.specs.declared.Excluded.{Excluded}
use Rattle.rules.specs.declared.Excluded.TheVariants as Excluded
use Rattle.rules.specs.declared.Command.{Command}
use Rattle.rules.specs.declared.Command.TheVariants as Command
use Rattle.rules.specs.declared.Decoded.{Decoded}
use Rattle.rules.specs.declared.Decoded.TheVariants as Decoded
use Rattle.rules.specs.Theorems.Areas.{outside, down_scrolls, up_scrolls, stored}
use Rattle.rules.specs.Theorems.Areas as Area
use Rattle.rules.specs.Theorems.Parts.{Part, value, is_listed, area_of}
use Rattle.rules.specs.Theorems.Parts as Part
use Rattle.rules.specs.Decode.{decode_rule}
use Rattle.rules.specs.Step.{step_rule}
use Rattle.rules.specs.Calls.{Call, Press, call_rule}

-- ---- the table: the parts that a command may change. The personality and the width stand in no row

-- three moves may scroll
abbrev pub move_parts : Move → List Part
move_parts Move.Back = Part.Cursor ∷ []
move_parts Move.Right = Part.Cursor ∷ []
move_parts Move.Return = Part.Cursor ∷ []
move_parts Move.Home = Part.Cursor ∷ []
move_parts Move.Up = Part.Cursor ∷ []
move_parts Move.Reverse = Part.Cells (Area.If up_scrolls Area.Segment Area.None) ∷ Part.Cursor ∷ []
move_parts Move.Down = Part.Cells (Area.If down_scrolls Area.Segment Area.None) ∷ Part.Cursor ∷ []
move_parts Move.NextLine = Part.Cells (Area.If down_scrolls Area.Segment Area.None) ∷ Part.Cursor ∷ []
move_parts Move.Tab = Part.Cursor ∷ []
move_parts Move.BackTab = Part.Cursor ∷ []
move_parts (Move.Address r k) = Part.Cursor ∷ []
move_parts (Move.Decimal r k) = Part.Cursor ∷ []

abbrev pub mode_parts : Mode → List Part
mode_parts Mode.WriteProtect = Part.WriteProtect ∷ []
mode_parts Mode.Insert = Part.Insert ∷ []
mode_parts Mode.Autoscroll = Part.Autoscroll ∷ []
mode_parts Mode.Lock = Part.Lock ∷ []
mode_parts Mode.LocalEdit = Part.Local ∷ []

-- a cursor is that of the segment that is active afterwards
abbrev pub window_parts : Window → List Part
window_parts Window.Unsplit = Part.Active ∷ Part.Split ∷ Part.Cursor ∷ Part.Other ∷ []
window_parts (Window.Split r) = Part.Active ∷ Part.Split ∷ Part.Cursor ∷ Part.Other ∷ []
window_parts Window.Other = Part.Active ∷ Part.Cursor ∷ []
window_parts Window.First = Part.Active ∷ Part.Cursor ∷ []
window_parts Window.Second = Part.Active ∷ Part.Cursor ∷ []
window_parts (Window.Place n r k) = Part.Active ∷ Part.Cursor ∷ []

abbrev pub edit_parts : Edit → List Part
edit_parts Edit.InsertCell = Part.Cells Area.Line ∷ []
edit_parts Edit.DeleteCell = Part.Cells Area.Line ∷ []
edit_parts Edit.InsertRow = Part.Cells Area.Rows ∷ Part.Cursor ∷ []
edit_parts Edit.DeleteRow = Part.Cells Area.Rows ∷ Part.Cursor ∷ []

abbrev pub clear_parts : Clear → List Part
clear_parts (Clear.Row k) = Part.Cells Area.Line ∷ []
clear_parts (Clear.Rest k) = Part.Cells Area.Rest ∷ []
clear_parts (Clear.Segment k) = Part.Cells Area.Segment ∷ Part.Cursor ∷ []
clear_parts Clear.Column = Part.Cells Area.Column ∷ Part.Cursor ∷ []

abbrev pub setting_parts : Setting → List Part
setting_parts (Setting.Tab b) = Part.Tabs ∷ []
setting_parts Setting.ClearTabs = Part.Tabs ∷ []
setting_parts (Setting.Attribute n a) = Part.Fields ∷ []
setting_parts (Setting.Feature f) = Part.Features ∷ []
setting_parts Setting.HideLine = Part.Line ∷ []
setting_parts (Setting.Wish b) = Part.Wish ∷ []

abbrev pub excluded_parts : Excluded → List Part
excluded_parts Excluded.ProtectOff = Part.Protect ∷ []
excluded_parts Excluded.ClearNulls = Part.Cells Area.Segment ∷ Part.Cursor ∷ []
excluded_parts Excluded.ClearSpaces = Part.Cells Area.Segment ∷ Part.Cursor ∷ []
excluded_parts Excluded.ClearProtected = Part.Protect ∷ Part.Cells Area.Segment ∷ Part.Cursor ∷ []
excluded_parts Excluded.SendRow = []
excluded_parts Excluded.SendSegment = []

abbrev pub command_parts : Command → List Part
command_parts Command.Nothing = []
command_parts (Command.Go m) = move_parts m
command_parts (Command.Window x) = window_parts x
command_parts (Command.Store k) = Part.Cells stored ∷ Part.Cursor ∷ []
command_parts (Command.Attribute a) = Part.Cells stored ∷ Part.Cursor ∷ Part.Remembered ∷ []
command_parts (Command.Edit x) = edit_parts x
command_parts (Command.Clear x) = clear_parts x
command_parts (Command.Turn m b) = mode_parts m
command_parts Command.ProtectOn = Part.Protect ∷ Part.Cursor ∷ []
command_parts Command.Bell = Part.Bells ∷ []
command_parts (Command.Set x) = setting_parts x
command_parts (Command.Send x) = []
command_parts (Command.Excluded x) = excluded_parts x

-- a text that is complete
abbrev pub slot_parts : Slot → List Part
slot_parts (Slot.Key v) = Part.Keys ∷ []
slot_parts (Slot.Label v) = Part.Labels ∷ Part.Line ∷ []
slot_parts Slot.Message = Part.Message ∷ []

-- what a byte comes to may change these
abbrev pub changes : Decoded → List Part
changes (Decoded.Wait q) = []
changes (Decoded.Gather x n b) = []
changes (Decoded.Take x n) = slot_parts x
changes (Decoded.Reject a) = []
changes (Decoded.Do d) = command_parts d

-- ---- nothing else changes

-- a part holds in t, with the page q, what it held in s, with the page p
abbrev pub SamePart : Part → List ℕ → State → List ℕ → State → Type 0
SamePart x p s q t =
    let n = t.core.screen.active in
    value x n t.core t.setup q ≡ value x n s.core s.setup p

pub record Frames : Type 0 where
  pub step : (p : List ℕ) (s : State) (b room : ℕ) (x : Part) → is_listed x (changes (decode_rule s.core.pending b)) ≡ false
      → SamePart x p s (step_rule p s b room).page (step_rule p s b room).state
  pub cells : (p : List ℕ) (s : State) (b room i : ℕ)
      → outside (area_of (changes (decode_rule s.core.pending b))) s.core.screen s.core.modes i ≡ true
      → get_or (step_rule p s b room).page i 0 ≡ get_or p i 0
  pub press : (p : List ℕ) (s : State) (v room : ℕ) (x : Part)
      → SamePart x p s (call_rule p s (Press v room)).page (call_rule p s (Press v room)).given.state
