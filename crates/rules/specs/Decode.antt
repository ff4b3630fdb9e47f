-- What a byte below 80h comes to after the sequence under way.
use Rattle.std.specs.Prelude.{ℕ, zero, suc, ◌+◌, ◌-◌, ◌*◌, List, [], ◌∷◌, Bool, true, false, ltb, leb, eqb}
use Rattle.rules.specs.Cell.{pick, both, either, between}
use Rattle.rules.specs.Arguments.{is_attribute, attribute_contents, feature_place, is_key, is_label}
use Rattle.rules.specs.Slot.{slot_end, slot_most, slot_low, is_text}
use Rattle.rules.specs.declared.Answer.TheVariants as Answer
use Rattle.rules.specs.declared.Slot.{Slot}
use Rattle.rules.specs.declared.Slot.TheVariants as Slot
use Rattle.rules.specs.declared.Pending.{Pending}
use Rattle.rules.specs.declared.Pending.TheVariants as Pending
use Rattle.rules.specs.declared.Argument.{Argument}
use Rattle.rules.specs.declared.Argument.TheVariants as Argument
use Rattle.rules.specs.declared.Contents.TheVariants as Contents
use Rattle.rules.specs.declared.Move.TheVariants as Move
use Rattle.rules.specs.declared.Window.TheVariants as Window
use Rattle.rules.specs.declared.Edit.TheVariants as Edit
use Rattle.rules.specs.declared.Clear.TheVariants as Clear
use Rattle.rules.specs.declared.Mode.TheVariants as Mode
use Rattle.rules.specs.declared.Setting.TheVariants as Setting
use Rattle.rules.specs.declared.Send.TheVariants as Send
use Rattle.rules.specs.declared.Excluded.TheVariants as Excluded
use Rattle.rules.specs.declared.Command.{Command}
use Rattle.rules.specs.declared.Command.TheVariants as Command
use Rattle.rules.specs.declared.Decoded.{Decoded}
use Rattle.rules.specs.declared.Decoded.TheVariants as Decoded

-- what stands at a byte in a table, or the other value
unfoldable pub lookup : List (ℕ × Decoded) → Decoded → ℕ → Decoded
lookup [] other b = other
lookup (r ∷ t) other b = let q = lookup t other b in pick (eqb b r.0) r.1 q

-- control codes; all others below 20h: no action
abbrev pub controls : List (ℕ × Decoded)
controls =
    (0x05, Decoded.Do (Command.Send Send.Acknowledge))
    ∷ (0x07, Decoded.Do Command.Bell)
    ∷ (0x08, Decoded.Do (Command.Go Move.Back))
    ∷ (0x09, Decoded.Do (Command.Go Move.Tab))
    ∷ (0x0a, Decoded.Do (Command.Go Move.Down))
    ∷ (0x0b, Decoded.Do (Command.Go Move.Up))
    ∷ (0x0c, Decoded.Do (Command.Go Move.Right))
    ∷ (0x0d, Decoded.Do (Command.Go Move.Return))
    ∷ (0x0e, Decoded.Do (Command.Turn Mode.Lock false))
    ∷ (0x0f, Decoded.Do (Command.Turn Mode.Lock true))
    ∷ (0x1a, Decoded.Do (Command.Clear (Clear.Segment (Contents.Text 0x20))))
    ∷ (0x1b, Decoded.Wait Pending.Escape)
    ∷ (0x1e, Decoded.Do (Command.Go Move.Home))
    ∷ (0x1f, Decoded.Do (Command.Go Move.NextLine))
    ∷ []

-- the byte after ESC: 58 in the rules
abbrev pub escapes : List (ℕ × Decoded)
escapes =
    (0x20, Decoded.Do (Command.Send Send.Identity))
    ∷ (0x21, Decoded.Wait (Pending.Awaits Argument.FillAttribute))
    ∷ (0x22, Decoded.Do (Command.Turn Mode.Lock false))
    ∷ (0x23, Decoded.Do (Command.Turn Mode.Lock true))
    ∷ (0x26, Decoded.Do Command.ProtectOn)
    ∷ (0x27, Decoded.Do (Command.Excluded Excluded.ProtectOff))
    ∷ (0x28, Decoded.Do (Command.Turn Mode.WriteProtect false))
    ∷ (0x29, Decoded.Do (Command.Turn Mode.WriteProtect true))
    ∷ (0x2a, Decoded.Do (Command.Excluded Excluded.ClearNulls))
    ∷ (0x2b, Decoded.Do (Command.Excluded Excluded.ClearSpaces))
    ∷ (0x2c, Decoded.Do (Command.Excluded Excluded.ClearProtected))
    ∷ (0x2d, Decoded.Wait (Pending.Awaits Argument.Segment))
    ∷ (0x2e, Decoded.Wait (Pending.Awaits Argument.FillCode))
    ∷ (0x2f, Decoded.Do (Command.Send Send.SegmentCursor))
    ∷ (0x30, Decoded.Do (Command.Set Setting.ClearTabs))
    ∷ (0x31, Decoded.Do (Command.Set (Setting.Tab true)))
    ∷ (0x32, Decoded.Do (Command.Set (Setting.Tab false)))
    ∷ (0x34, Decoded.Do (Command.Send Send.OpenRow))
    ∷ (0x35, Decoded.Do (Command.Send Send.OpenSegment))
    ∷ (0x36, Decoded.Do (Command.Excluded Excluded.SendRow))
    ∷ (0x37, Decoded.Do (Command.Excluded Excluded.SendSegment))
    ∷ (0x3a, Decoded.Do (Command.Clear (Clear.Segment (Contents.Text 0))))
    ∷ (0x3b, Decoded.Do (Command.Clear (Clear.Segment (Contents.Text 0x20))))
    ∷ (0x3d, Decoded.Wait (Pending.Awaits Argument.Address))
    ∷ (0x3f, Decoded.Do (Command.Send Send.Cursor))
    ∷ (0x41, Decoded.Wait (Pending.Awaits Argument.FieldAttribute))
    ∷ (0x45, Decoded.Do (Command.Edit Edit.InsertRow))
    ∷ (0x46, Decoded.Wait (Pending.Text Slot.Message 0))
    ∷ (0x47, Decoded.Wait (Pending.Awaits Argument.Attribute))
    ∷ (0x48, Decoded.Wait (Pending.Awaits Argument.Graphic))
    ∷ (0x49, Decoded.Do (Command.Go Move.BackTab))
    ∷ (0x4a, Decoded.Do (Command.Window Window.Other))
    ∷ (0x4b, Decoded.Do (Command.Window Window.Other))
    ∷ (0x4d, Decoded.Do (Command.Send Send.Cell))
    ∷ (0x4e, Decoded.Do (Command.Turn Mode.Autoscroll false))
    ∷ (0x4f, Decoded.Do (Command.Turn Mode.Autoscroll true))
    ∷ (0x51, Decoded.Do (Command.Edit Edit.InsertCell))
    ∷ (0x52, Decoded.Do (Command.Edit Edit.DeleteRow))
    ∷ (0x54, Decoded.Do (Command.Clear (Clear.Row (Contents.Text 0x20))))
    ∷ (0x56, Decoded.Do (Command.Clear Clear.Column))
    ∷ (0x57, Decoded.Do (Command.Edit Edit.DeleteCell))
    ∷ (0x59, Decoded.Do (Command.Clear (Clear.Rest (Contents.Text 0x20))))
    ∷ (0x5d, Decoded.Do (Command.Window Window.First))
    ∷ (0x60, Decoded.Wait (Pending.Awaits Argument.Feature))
    ∷ (0x61, Decoded.Wait (Pending.DecimalRow 0 0))
    ∷ (0x62, Decoded.Do (Command.Send Send.DecimalCursor))
    ∷ (0x69, Decoded.Do (Command.Go Move.Tab))
    ∷ (0x6a, Decoded.Do (Command.Go Move.Reverse))
    ∷ (0x6b, Decoded.Do (Command.Turn Mode.LocalEdit true))
    ∷ (0x6c, Decoded.Do (Command.Turn Mode.LocalEdit false))
    ∷ (0x71, Decoded.Do (Command.Turn Mode.Insert true))
    ∷ (0x72, Decoded.Do (Command.Turn Mode.Insert false))
    ∷ (0x74, Decoded.Do (Command.Clear (Clear.Row (Contents.Text 0))))
    ∷ (0x78, Decoded.Wait (Pending.Awaits Argument.Split))
    ∷ (0x79, Decoded.Do (Command.Clear (Clear.Rest (Contents.Text 0))))
    ∷ (0x7a, Decoded.Wait (Pending.Awaits Argument.Slot))
    ∷ (0x7b, Decoded.Do (Command.Go Move.Home))
    ∷ (0x7d, Decoded.Do (Command.Window Window.Second))
    ∷ []

-- no sequence under way: 20h to 7Eh is stored, 7Fh does nothing
unfoldable pub idle_rule : ℕ → Decoded
idle_rule b =
    pick (ltb b 0x20) (lookup controls (Decoded.Do Command.Nothing) b)
    (pick (ltb b 0x7f) (Decoded.Do (Command.Store (Contents.Text b))) (Decoded.Do Command.Nothing))

unfoldable pub escape_rule : ℕ → Decoded
escape_rule b = lookup escapes (Decoded.Reject Answer.Unknown) b

-- an argument outside its range answers 3
unfoldable pub judged : Bool → Command → Decoded
judged t d = pick t (Decoded.Do d) (Decoded.Reject Answer.BadArgument)

-- ESC ` f: 3Ah and 3Bh wish for a narrow and a wide page (document 02, A11)
unfoldable pub feature_rule : ℕ → Decoded
feature_rule f =
    pick (between 0x3a 0x3b f) (Decoded.Do (Command.Set (Setting.Wish (eqb f 0x3b))))
    (judged (ltb (feature_place f) 5) (Command.Set (Setting.Feature f)))

-- ESC A n attr
unfoldable pub field_rule : ℕ → ℕ → Decoded
field_rule n a = judged (both (between 0x30 0x33 n) (is_attribute a)) (Command.Set (Setting.Attribute (n - 0x30) a))

-- ESC x: judged at its first byte if that is not 30h or 31h
unfoldable pub split_rule : ℕ → Decoded
split_rule b =
    pick (eqb b 0x30) (Decoded.Do (Command.Window Window.Unsplit))
    (pick (eqb b 0x31) (Decoded.Wait (Pending.Awaits Argument.SplitRow)) (Decoded.Reject Answer.BadArgument))

-- ESC a: 1 or 2 digits, R, 1 to 3 digits, C; a byte that breaks this grammar answers 3. n digits so far make a number, and up to `most` may come
unfoldable pub digit_rule : ℕ → ℕ → ℕ → Pending → Decoded
digit_rule most n b next = pick (both (between 0x30 0x39 b) (ltb n most)) (Decoded.Wait next) (Decoded.Reject Answer.BadArgument)

unfoldable pub decimal_row_rule : ℕ → ℕ → ℕ → Decoded
decimal_row_rule n row b =
    pick (both (eqb b 0x52) (ltb 0 n)) (Decoded.Wait (Pending.DecimalColumn row 0 0))
    (digit_rule 2 n b (Pending.DecimalRow (n + 1) (row * 10 + (b - 0x30))))

unfoldable pub decimal_column_rule : ℕ → ℕ → ℕ → ℕ → Decoded
decimal_column_rule row n column b =
    pick (both (eqb b 0x43) (ltb 0 n)) (Decoded.Do (Command.Go (Move.Decimal row column)))
    (digit_rule 3 n b (Pending.DecimalColumn row (n + 1) (column * 10 + (b - 0x30))))

-- ESC z: a key or a label, whose text begins, or DEL, the shifted line off; any other byte answers 3 at once
unfoldable pub slot_rule : ℕ → Decoded
slot_rule v =
    pick (is_key v) (Decoded.Wait (Pending.Text (Slot.Key v) 0))
    (pick (is_label v) (Decoded.Wait (Pending.Text (Slot.Label v) 0))
    (judged (eqb v 0x7f) (Command.Set Setting.HideLine)))

-- a text of n bytes so far: it is complete, it goes on, or one byte too many or a bad one spoils it. A spoilt text is swallowed to its end, then 3
unfoldable pub text_rule : Slot → ℕ → ℕ → Decoded
text_rule x n b =
    pick (eqb b (slot_end x)) (Decoded.Take x n)
    (pick (both (ltb n (slot_most x)) (is_text (slot_low x) b)) (Decoded.Gather x n b) (Decoded.Wait (Pending.Spoilt x)))

unfoldable pub spoilt_rule : Slot → ℕ → Decoded
spoilt_rule x b = pick (eqb b (slot_end x)) (Decoded.Reject Answer.BadArgument) (Decoded.Wait (Pending.Spoilt x))

-- an awaited argument takes any byte below 80h
unfoldable pub argument_rule : Argument → ℕ → Decoded
argument_rule Argument.Address b = Decoded.Wait (Pending.AddressRow b)
argument_rule Argument.Segment b = Decoded.Wait (Pending.SegmentNumber b)
argument_rule Argument.Split b = split_rule b
argument_rule Argument.SplitRow b = Decoded.Do (Command.Window (Window.Split b))
argument_rule Argument.Attribute b = judged (is_attribute b) (Command.Attribute b)
argument_rule Argument.Graphic b = judged (between 0x30 0x3f b) (Command.Store (Contents.Graphic b))
argument_rule Argument.FillAttribute b = judged (is_attribute b) (Command.Clear (Clear.Segment (attribute_contents b)))
argument_rule Argument.FillCode b = judged (either (eqb b 0) (between 0x20 0x7e b)) (Command.Clear (Clear.Segment (Contents.Text b)))
argument_rule Argument.Feature b = feature_rule b
argument_rule Argument.FieldAttribute b = Decoded.Wait (Pending.FieldNumber b)
argument_rule Argument.Slot b = slot_rule b

-- the byte b after the sequence
unfoldable pub decode_rule : Pending → ℕ → Decoded
decode_rule Pending.Idle b = idle_rule b
decode_rule Pending.Escape b = escape_rule b
decode_rule (Pending.Awaits a) b = argument_rule a b
decode_rule (Pending.AddressRow r) b = Decoded.Do (Command.Go (Move.Address r b))
decode_rule (Pending.SegmentNumber s) b = Decoded.Wait (Pending.SegmentRow s b)
decode_rule (Pending.SegmentRow s r) b = Decoded.Do (Command.Window (Window.Place s r b))
decode_rule (Pending.DecimalRow k row) b = decimal_row_rule k row b
decode_rule (Pending.DecimalColumn row k column) b = decimal_column_rule row k column b
decode_rule (Pending.FieldNumber f) b = field_rule f b
decode_rule (Pending.Text x n) b = text_rule x n b
decode_rule (Pending.Spoilt x) b = spoilt_rule x b
