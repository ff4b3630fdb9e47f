-- Which form the plan of each command has: the one walk over the commands. A plan refuses, replies, changes the set-up, or writes and lands; each
-- form is told with what the laws of plans want of it (Good, Planned, Unrevealing, ShiftedLine, PageNumbers), which take it up in a line a form.
--     formed     of every command, from any core
-- Assumes nothing.
use mathlib.Core.Path.{◌≡◌, refl, sym, ap, ◌∙◌}
use mathlib.Core.Bool.{Bool, true, false, false≢true, not}
use mathlib.Core.List.{List, [], ◌∷◌}
use Prim.Native.Nat.{ℕ, ◌+◌, ◌-◌, ◌*◌, ◌/◌, ◌%◌, ◌≤◌, ◌<◌}
use native.Mathlib.Omega.{arith}
use lib.Dec.{ltb, eqb}
use lib.ListN.{length, get_or}
use borrow.Author.Tests.{ltb-true, ltb-false, eqb-false, lt-ltb, le-ltb, le-leb, not-true}
use Rattle.rules.specs.declared.Screen.{Screen}
use Rattle.rules.specs.declared.Modes.{Modes}
use Rattle.rules.specs.declared.Core.{Core}
use Rattle.rules.specs.declared.Plan.{Plan}
use Rattle.rules.specs.declared.Answer.{Answer}
use Rattle.rules.specs.declared.Answer.TheVariants as Answer
use Rattle.rules.specs.declared.Contents.{Contents}
use Rattle.rules.specs.declared.Personality.{Personality}
use Rattle.rules.specs.declared.Personality.TheVariants as Personality
use Rattle.rules.specs.declared.Mode.{Mode}
use Rattle.rules.specs.declared.Mode.TheVariants as Mode
use Rattle.rules.specs.declared.Move.{Move}
use Rattle.rules.specs.declared.Move.TheVariants as Move
use Rattle.rules.specs.declared.Window.{Window}
use Rattle.rules.specs.declared.Window.TheVariants as Window
use Rattle.rules.specs.declared.Edit.{Edit}
use Rattle.rules.specs.declared.Edit.TheVariants as Edit
use Rattle.rules.specs.declared.Clear.{Clear}
use Rattle.rules.specs.declared.Clear.TheVariants as Clear
use Rattle.rules.specs.declared.Setting.{Setting}
use Rattle.rules.specs.declared.Setting.TheVariants as Setting
use Rattle.rules.specs.declared.Send.{Send}
use Rattle.rules.specs.declared.Send.TheVariants as Send
use Rattle.rules.specs.declared.Excluded.{Excluded}
use Rattle.rules.specs.declared.Excluded.TheVariants as Excluded
use Rattle.rules.specs.declared.Command.{Command}
use Rattle.rules.specs.declared.Command.TheVariants as Command
use Rattle.rules.specs.declared.Write.{Write}
use Rattle.rules.specs.declared.Write.TheVariants as Write
use Rattle.rules.specs.declared.SetupChange.{SetupChange}
use Rattle.rules.specs.declared.Sending.{Sending}
use Rattle.rules.specs.declared.Land.{Land}
use Rattle.rules.specs.declared.Land.TheVariants as Land
use Rattle.rules.specs.Cell.{pick, both, either, among, between, written, null, space, protected_space}
use Rattle.rules.specs.Row.{Width, height, columns, column_of, row_start, row_end}
use Rattle.rules.specs.State.{number, sends, width_of, page_length, segment_top, segment_bottom, segment_start, segment_end, cursor_of, activated, with_screen, with_modes, with_protect, with_mode, Inside}
use Rattle.rules.specs.Possible.{screen_ok, remembered_ok}
use Rattle.rules.specs.Arguments.{is_attribute, attribute_of}
use Rattle.rules.specs.Send.{command_of}
use Rattle.rules.specs.Plan.{refusing, unless_wide, plain, writing_two, settling, replying, changing, unless_guarded, scrolls, at_top, reverse_plan, down_plan, tab_cell, back_tab_cell, address_plan, move_plan, activate, is_segment, window_plan, storing, advancing, store_plan, takes_cell, attribute_plan, row_edit_plan, edit_plan, clear_plan, setting_plan, send_plan, clear_all, excluded_plan, plan_rule}
use Rattle.rules.specs.Theorems.Good.{GoodWrite, GoodSend, GoodLand}
use Rattle.rules.specs.Writable.{writable}
use Rattle.rules.specs.Theorems.Noninterference.{revealing}
use Rattle.rules.specs.Theorems.Areas.{Area, area_from, area_to, one_column, store_scrolls, stored}
use Rattle.rules.specs.Theorems.Areas as Area
use Rattle.rules.specs.Theorems.Parts.{Part, is_listed, area_of}
use Rattle.rules.specs.Theorems.Parts as Part
use Rattle.rules.proofs.Framing.{may, never, ModesKept, ScreenKept, CoreKept, same_modes, same_screen, same_core, framed, turned_modes, ChangeKept, change_keeps}
use Rattle.rules.proofs.Tests.{pick_if, both_true, both_parts, among_parts, between_parts}
use Rattle.rules.proofs.Rows.{by_width, columns_width, column_below, rows_le, cell_inside}
use Rattle.rules.proofs.Places.{In, segment_there, in_next, in_up, in_next_tab, in_previous_tab, in_back, in_next_field, in_previous_field}
use Rattle.rules.proofs.Screens.{screen_inside, activated_kept, unsplit_screen_lem, split_screen_lem}
use Rattle.rules.proofs.Related.{spares}
use Rattle.rules.proofs.Commands.{Kind, write_ok, change_ok, setting_ok, clear_ok, send_asked, excluded_asked, kind_of}
use Rattle.rules.proofs.Numbers.{null_ok, space_ok, protected_space_ok, stored_ok, taken_ok}

-- ---- the forms

-- what a possible state says of its core, and a page of the right length of its guards
pub record Sound (g : List Bool) (c : Core) : Type 0 where
  pub ok : screen_ok c.screen ≡ true
  pub inside : Inside c.screen
  pub size : length g ≡ page_length c.screen

-- the attribute remembered is one of its personality
abbrev pub Remembers : Core → Type 0
Remembers c = remembered_ok c.personality c.attribute ≡ true

-- the next core of a plan from c: possible again, of the same width and personality, and in protect mode if c is, but for the six
pub record Next (k : Kind) (g : List Bool) (c m : Core) : Type 0 where
  pub screen : Sound g c → screen_ok m.screen ≡ true
  pub wide : m.screen.wide ≡ c.screen.wide
  pub pending : m.pending ≡ c.pending
  pub bells : c.bells < 256 → m.bells < 256
  pub personality : m.personality ≡ c.personality
  pub remembered : k.ok ≡ true → Remembers c → Remembers m
  pub on : k.excluded ≡ false → c.modes.protect ≡ true → m.modes.protect ≡ true
  pub kept : CoreKept k.touches m.screen.active c m

-- the first cell that a command of kind k may change from the core c, and the one past the last
abbrev pub from : Kind → Core → ℕ
from k c = area_from (area_of k.touches) c.screen c.modes

abbrev pub to : Kind → Core → ℕ
to k c = area_to (area_of k.touches) c.screen c.modes

-- its only column, counted from 1, or 0
abbrev pub lane : Kind → Core → ℕ
lane k c = one_column (area_of k.touches) c.screen

-- a write changes no cell before f, nor from t on, and only those of the column o, if that is not 0
abbrev pub Spans : ℕ → ℕ → ℕ → ℕ → Write → Type 0
Spans f t o n Write.Nothing = Unit {0}
Spans f t o n (Write.Fill a e v) = (f ≤ a) × ((e ≤ t) × (o ≡ 0))
Spans f t o n (Write.FillAll a e v) = (f ≤ a) × ((e ≤ t) × (o ≡ 0))
Spans f t o n (Write.Column top bottom c v) = (f ≤ top * n + c) × ((bottom * n + c + 1 ≤ t + n) × (o ≡ c + 1))
Spans f t o n (Write.Edit right at v) = (f ≤ at) × ((row_end n at ≤ t) × (o ≡ 0))
Spans f t o n (Write.Rows down top bottom) = (f ≤ top * n) × ((bottom * n ≤ t) × (o ≡ 0))

-- a command that may change the cells of the segment from f on
pub record Covers (k : Kind) (c : Core) (f : ℕ) : Type 0 where
  pub cells : is_listed Part.page k.touches ≡ true
  pub first : from k c ≤ f
  pub last : segment_end c.screen ≤ to k c
  pub whole : lane k c ≡ 0

-- a write of a plan from c, on a page of width n: inside the page, to no guarded cell but for the six, of numbers that the personality writes
pub record Fair (k : Kind) (g : List Bool) (c : Core) (n : ℕ) (w : Write) : Type 0 where
  pub inside : Sound g c → GoodWrite n w
  pub sparing : k.excluded ≡ false → c.modes.protect ≡ true → spares w ≡ true
  pub numbers : k.ok ≡ true → Remembers c → write_ok c.personality w ≡ true
  pub spans : Sound g c → Spans (from k c) (to k c) (lane k c) n w

-- the plan of a command of kind k from the core c, g being which cells are guarded
pub data Form (k : Kind) (g : List Bool) (c : Core) : Plan → Type 0 where
  a_refusal : (a : Answer) → between 2 4 (number a) ≡ true → Form k g c (refusing c a)
  a_reply : (y : Sending) → sends y ≡ true → command_of y ≡ k.asks → (k.excluded ≡ false → revealing y ≡ false)
      → (Sound g c → GoodSend c.screen y) → Form k g c (replying c y)
  a_change : (y : SetupChange) → y ≡ k.change c → ChangeKept k.touches y → (k.ok ≡ true → Sound g c → change_ok (width_of c.screen) y ≡ true) → Form k g c (changing c y)
  a_write : {m : Core} {w v : Write} {l : Land} → Next k g c m → Fair k g c (width_of m.screen) w → Fair k g c (width_of m.screen) v
      → (is_listed Part.page k.touches ≡ false → (w ≡ Write.Nothing) × (v ≡ Write.Nothing)) → (is_listed Part.Cursor k.touches ≡ false → l ≡ Land.Stay)
      → (Sound g c → GoodLand m.screen l) → Form k g c (writing_two m w v l)

module _ {k : Kind} {g : List Bool} {c : Core} where
  here : Next k g c c
  here = record { screen = λ s. s.ok; wide = refl; pending = refl; bells = λ h. h; personality = refl; remembered = λ t h. h; on = λ e h. h; kept = same_core }

  on_screen : (x : Screen) → (Sound g c → screen_ok x ≡ true) → x.wide ≡ c.screen.wide → ScreenKept k.touches x.active c.screen x
      → Next k g c (with_screen c x)
  on_screen x h w f = record { screen = h; wide = w; pending = refl; bells = λ h. h; personality = refl; remembered = λ t h. h; on = λ e h. h; kept = framed same_modes f (λ h. refl) (λ h. refl) refl }

  in_modes : (m : Modes) → (k.excluded ≡ false → c.modes.protect ≡ true → m.protect ≡ true) → ModesKept k.touches c.modes m
      → Next k g c (with_modes c m)
  in_modes m h f = record { screen = λ s. s.ok; wide = refl; pending = refl; bells = λ h. h; personality = refl; remembered = λ t h. h; on = h; kept = framed f same_screen (λ h. refl) (λ h. refl) refl }

  module _ {n : ℕ} where
    none : Fair k g c n Write.Nothing
    unfolding write_ok
    none = record { inside = λ s. tt; sparing = λ e h. refl; numbers = λ t h. refl; spans = λ s. tt }

    filling : {a e v : ℕ} → (Sound g c → (a ≤ e) × (e ≤ height * n)) → (Sound g c → (from k c ≤ a) × ((e ≤ to k c) × (lane k c ≡ 0))) → (k.ok ≡ true → Remembers c → writable c.personality v ≡ true)
        → Fair k g c n (Write.Fill a e v)
    unfolding write_ok
    filling i r v = record { inside = i; sparing = λ e h. refl; numbers = v; spans = r }

    filling_all : {a e v : ℕ} → k.excluded ≡ true → (Sound g c → (a ≤ e) × (e ≤ height * n)) → (Sound g c → (from k c ≤ a) × ((e ≤ to k c) × (lane k c ≡ 0))) → writable c.personality v ≡ true
        → Fair k g c n (Write.FillAll a e v)
    unfolding write_ok
    filling_all x i r v = record { inside = i; sparing = λ e h. absurd (false≢true (sym e ∙ x)); numbers = λ t h. v; spans = r }

    filling_column : {top bottom column v : ℕ} → (Sound g c → (top ≤ bottom) × ((bottom ≤ height) × (column < n)))
        → (Sound g c → (from k c ≤ top * n + column) × ((bottom * n + column + 1 ≤ to k c + n) × (lane k c ≡ column + 1))) → writable c.personality v ≡ true
        → Fair k g c n (Write.Column top bottom column v)
    unfolding write_ok
    filling_column i r v = record { inside = i; sparing = λ e h. refl; numbers = λ t h. v; spans = r }

    editing : {right : Bool} {at v : ℕ} → (Sound g c → at < height * n) → (Sound g c → (from k c ≤ at) × ((row_end n at ≤ to k c) × (lane k c ≡ 0))) → (k.ok ≡ true → Remembers c → writable c.personality v ≡ true)
        → Fair k g c n (Write.Edit right at v)
    unfolding write_ok
    editing i r v = record { inside = i; sparing = λ e h. refl; numbers = v; spans = r }

    -- rows move only with protect off
    moving : {down : Bool} {top bottom : ℕ} → c.modes.protect ≡ false → (Sound g c → (top ≤ bottom) × (bottom ≤ height))
        → (Sound g c → (from k c ≤ top * n) × ((bottom * n ≤ to k c) × (lane k c ≡ 0))) → Fair k g c n (Write.Rows down top bottom)
    unfolding write_ok
    moving off i r = record { inside = i; sparing = λ e h. absurd (false≢true (sym off ∙ h)); numbers = λ t h. space_ok c.personality; spans = r }

  -- the two forms with implicit parts, which the plan in the goal tells
  writes : {m : Core} {w v : Write} {l : Land} → Next k g c m → Fair k g c (width_of m.screen) w → Fair k g c (width_of m.screen) v
      → (is_listed Part.page k.touches ≡ false → (w ≡ Write.Nothing) × (v ≡ Write.Nothing)) → (is_listed Part.Cursor k.touches ≡ false → l ≡ Land.Stay)
      → (Sound g c → GoodLand m.screen l) → Form k g c (writing_two m w v l)
  writes h a b o e i = a_write h a b o e i

  replies : {y : Sending} → sends y ≡ true → command_of y ≡ k.asks → (k.excluded ≡ false → revealing y ≡ false)
      → (Sound g c → GoodSend c.screen y) → Form k g c (replying c y)
  replies s n r i = a_reply _ s n r i

  pick_form : (t : Bool) {x y : Plan} → (t ≡ true → Form k g c x) → (t ≡ false → Form k g c y) → Form k g c (pick t x y)
  pick_form t f h = pick_if (Form k g c) t f h

  -- the cursor settles; or stays, after a write
  settles : {i : ℕ} → is_listed Part.Cursor k.touches ≡ true → (Sound g c → In c.screen i) → Form k g c (settling c i)
  settles t h = writes here none none (λ e. (refl, refl)) (never t) h

  stays : {w : Write} → is_listed Part.page k.touches ≡ true → Fair k g c (width_of c.screen) w → Form k g c (writing_two c w Write.Nothing Land.Stay)
  stays q w = writes here w none (never q) (λ e. refl) (λ s. tt)

  only : {m : Core} → Next k g c m → Form k g c (plain m)
  only h = writes h none none (λ e. (refl, refl)) (λ e. refl) (λ s. tt)

  bad : Form k g c (refusing c Answer.BadArgument)
  bad = a_refusal Answer.BadArgument refl

  unless : {x : Plan} → Form k g c x → Form k g c (unless_guarded g c x)
  unfolding unless_guarded
  unless h = pick_form (get_or g (cursor_of c.screen) false) (λ e. a_refusal Answer.Barred refl) (λ e. h)

  narrow : {x : Plan} → (c.screen.wide ≡ false → Form k g c x) → Form k g c (unless_wide c x)
  unfolding unless_wide
  narrow h = pick_form c.screen.wide (λ e. bad) h

-- ---- the commands

-- a row's first cell
row_first : {w : ℕ} → Width w → (at : ℕ) → at - at % w ≡ at / w * w
row_first k at = by_width (λ (w : ℕ). at - at % w ≡ at / w * w) (omega arith) (omega arith) k

-- what a store may change: the segment if it scrolls, the cursor's row from there in insert mode, else the cursor's cell
record Stores (k : Kind) (g : List Bool) (c : Core) : Type 0 where
  cells : is_listed Part.page k.touches ≡ true
  scrolled : segment_end c.screen ≤ cursor_of c.screen + 1 → scrolls c.modes ≡ true → Covers k c (segment_start c.screen)
  shifts : c.modes.insert ≡ true → Sound g c
      → (from k c ≤ cursor_of c.screen) × ((row_end (width_of c.screen) (cursor_of c.screen) ≤ to k c) × (lane k c ≡ 0))
  fills : c.modes.insert ≡ false → Sound g c → (from k c ≤ cursor_of c.screen) × ((cursor_of c.screen + 1 ≤ to k c) × (lane k c ≡ 0))

if_holds : (t : Bool) (s a e b : ℕ) → t ≡ true → (pick t s a ≤ s) × (e ≤ pick t e b)
if_holds true s a e b h = (omega arith, omega arith)
if_holds false s a e b h = absurd (false≢true h)

if_shifts : (t i : Bool) (s a r e : ℕ) → i ≡ true → s ≤ a → r ≤ e → (pick t s (pick i a a) ≤ a) × ((r ≤ pick t e (pick i r (a + 1))) × (◌≡◌ {A = ℕ} 0 0))
if_shifts true true s a r e h x y = (x, (y, refl))
if_shifts false true s a r e h x y = (omega arith, (omega arith, refl))
if_shifts true false s a r e h x y = absurd (false≢true h)
if_shifts false false s a r e h x y = absurd (false≢true h)

if_fills : (t i : Bool) (s a r e : ℕ) → i ≡ false → s ≤ a → a + 1 ≤ e → (pick t s (pick i a a) ≤ a) × ((a + 1 ≤ pick t e (pick i r (a + 1))) × (◌≡◌ {A = ℕ} 0 0))
if_fills true false s a r e h x y = (x, (y, refl))
if_fills false false s a r e h x y = (omega arith, (omega arith, refl))
if_fills true true s a r e h x y = absurd (false≢true (sym h))
if_fills false true s a r e h x y = absurd (false≢true (sym h))

covers_if : {k : Kind} {c : Core} {t : Screen → Modes → Bool} {b : Area} → is_listed Part.page k.touches ≡ true
    → area_of k.touches ≡ Area.If t Area.Segment b → t c.screen c.modes ≡ true → Covers k c (segment_start c.screen)
covers_if {k} {c} {t} {b} o h e =
    let r = if_holds (t c.screen c.modes) (segment_start c.screen) (area_from b c.screen c.modes) (segment_end c.screen) (area_to b c.screen c.modes) e in
    record { cells = o; first = rw h r.0; last = rw h r.1; whole = rw h }

stores_where : {k : Kind} {g : List Bool} {c : Core} → is_listed Part.page k.touches ≡ true → area_of k.touches ≡ stored → Stores k g c
stores_where {k} {g} {c} o h =
    let x = c.screen in
    let m = c.modes in
    record {
      cells = o;
      scrolled = λ e u. covers_if o h (both_true (le-leb (segment_end x) (cursor_of x + 1) e) u);
      shifts = λ e s. rw h (if_shifts (store_scrolls x m) m.insert (segment_start x) (cursor_of x) (row_end (width_of x) (cursor_of x)) (segment_end x) e (omega arith) (omega arith));
      fills = λ e s. rw h (if_fills (store_scrolls x m) m.insert (segment_start x) (cursor_of x) (row_end (width_of x) (cursor_of x)) (segment_end x) e (omega arith) (omega arith));
    }

-- protect mode alone changes
protecting : {l : List Part} {m : Modes} {b : Bool} → ModesKept (Part.Protect ∷ l) m (with_protect m b)
protecting = record { protect = may; writeprotect = λ h. refl; insert = λ h. refl; autoscroll = λ h. refl; locked = λ h. refl; local = λ h. refl }

-- another segment is active, or the same
turned : {l : List Part} {x : Screen} {n : ℕ} → is_listed Part.Active l ≡ true → ScreenKept l n x (activated x n)
turned a = record { wide = refl; active = never a; split = λ e. refl; cursor = λ e. refl; other = λ e. refl }

-- both cursors go home, and either segment may be active
anew : {n : ℕ} {x y : Screen} → y.wide ≡ x.wide → ScreenKept (Part.Active ∷ Part.Split ∷ Part.Cursor ∷ Part.Other ∷ []) n x y
anew w = record { wide = w; active = may; split = may; cursor = may; other = may }

-- the attribute of a code that takes no cell can be remembered
set_remembered : (m : Personality) (a : ℕ) → is_attribute a ≡ true → takes_cell m a ≡ false → remembered_ok m (attribute_of a) ≡ true
unfolding is_attribute takes_cell attribute_of remembered_ok
set_remembered Personality.Wy50 a e u = absurd (false≢true (sym u))
set_remembered Personality.Wy60 a e u = by_code_lem a u e
  where
    low : (a : ℕ) → between 0x30 0x3f a ≡ true → ltb (a % 16 + pick (ltb a 0x70) 0 16) 31 ≡ true
    low a h =
        let r = between_parts 0x30 0x3f a h in
        rw (lt-ltb a 0x70 (omega arith)) (lt-ltb (a % 16 + 0) 31 (omega arith))

    high : (a : ℕ) → between 0x70 0x7e a ≡ true → ltb (a % 16 + pick (ltb a 0x70) 0 16) 31 ≡ true
    high a h =
        let r = between_parts 0x70 0x7e a h in
        rw (le-ltb a 0x70 (omega arith)) (lt-ltb (a % 16 + 16) 31 (omega arith))

    by_low : (a : ℕ) (s : Bool) → between 0x30 0x3f a ≡ s → either s (between 0x70 0x7e a) ≡ true → ltb (a % 16 + pick (ltb a 0x70) 0 16) 31 ≡ true
    by_low a true h e = low a h
    by_low a false h e = high a e

    by_code_lem : (a : ℕ) → eqb a 0x20 ≡ false → either (eqb a 0x20) (either (between 0x30 0x3f a) (between 0x70 0x7e a)) ≡ true
        → ltb (a % 16 + pick (ltb a 0x70) 0 16) 31 ≡ true
    by_code_lem a u e = by_low a (between 0x30 0x3f a) refl (rw u at e)

-- past the segment's end it scrolls only with protect off
scrolls_off : (m : Modes) → scrolls m ≡ true → m.protect ≡ false
unfolding scrolls
scrolls_off m e = not-true m.protect (both_parts m.autoscroll (not m.protect) e).1

turn_keeps : (m : Modes) (k : Mode) (b : Bool) → m.protect ≡ true → (with_mode m k b).protect ≡ true
unfolding with_mode
turn_keeps m Mode.WriteProtect b on = on
turn_keeps m Mode.Insert b on = on
turn_keeps m Mode.Autoscroll b on = on
turn_keeps m Mode.Lock b on = on
turn_keeps m Mode.LocalEdit b on = on

-- a row has the columns that ESC = addresses
addressed_width : (wide : Bool) → 80 ≤ columns wide
unfolding columns
addressed_width true = omega arith
addressed_width false = omega arith

-- what both personalities may write
either_writes : (m : Personality) (w : Write) → both (write_ok Personality.Wy50 w) (write_ok Personality.Wy60 w) ≡ true → write_ok m w ≡ true
either_writes Personality.Wy50 w e = (both_parts (write_ok Personality.Wy50 w) _ e).0
either_writes Personality.Wy60 w e = (both_parts (write_ok Personality.Wy50 w) _ e).1

-- commands that may move the cursor
module _ {k : Kind} (t : is_listed Part.Cursor k.touches ≡ true) (g : List Bool) (c : Core) where
  reverses : (at_top c.screen ≡ true → c.modes.protect ≡ false → Covers k c (segment_start c.screen)) → Form k g c (reverse_plan c)
  unfolding reverse_plan at_top
  reverses q =
      pick_form (ltb (cursor_of c.screen) (segment_start c.screen + width_of c.screen))
      (λ e. pick_form c.modes.protect (λ u. settles t (λ s. omega arith))
      (λ u. let r = q e u in writes here (moving u (λ s. omega arith) (λ s. omega arith)) none (never r.cells) (never t) (λ s. omega arith)))
      (λ e. settles t (λ s. omega (arith, ltb-false (cursor_of c.screen) (segment_start c.screen + width_of c.screen) e)))

  goes_down : (n : ℕ) → (segment_end c.screen ≤ n + width_of c.screen → scrolls c.modes ≡ true → Covers k c (segment_start c.screen))
      → (Sound g c → In c.screen n) → Form k g c (down_plan c n)
  unfolding down_plan
  goes_down n q h =
      pick_form (ltb (n + width_of c.screen) (segment_end c.screen))
      (λ e. settles t (λ s. let i = h s in omega (arith, ltb-true (n + width_of c.screen) (segment_end c.screen) e)))
      (λ e. pick_form (scrolls c.modes)
      (λ u.
      let r = q (ltb-false (n + width_of c.screen) (segment_end c.screen) e) u in
      writes here (moving (scrolls_off c.modes u) (λ s. omega arith) (λ s. omega arith)) none (never r.cells) (never t) h)
      (λ u. settles t (λ s. omega (arith, column_below (columns_width c.screen.wide) n))))

  addresses : (x : Screen) (base most row column : ℕ) → (Sound g c → screen_ok x ≡ true) → x.wide ≡ c.screen.wide → ScreenKept k.touches x.active c.screen x
      → most ≤ width_of x → Form k g c (address_plan c x base most row column)
  unfolding address_plan
  addresses x base most row column h w f m =
      pick_form (both (among base (segment_bottom x - segment_top x) row) (among base most column))
      (λ e.
      let r = both_parts _ _ e in
      let a = among_parts base _ row r.0 in
      let b = among_parts base _ column r.1 in
      writes (on_screen x h w f) none none (λ e. (refl, refl)) (never t) (λ z.
      let s = screen_inside x (h z) in
      let k = columns_width x.wide in
      omega (
        arith,
        rows_le k {a = segment_top x} {b = segment_top x + (row - base)} (omega arith),
        cell_inside k {row = segment_top x + (row - base)} {column = column - base} {bottom = segment_bottom x} (omega arith) (omega arith),
      )))
      (λ e. bad)

  -- a screen of its own, whose cursor settles
  turns_to : (x : Screen) (i : ℕ) → (Sound g c → screen_ok x ≡ true) → x.wide ≡ c.screen.wide → ScreenKept k.touches x.active c.screen x
      → i ≡ cursor_of x → Form k g c (settling (with_screen c x) i)
  turns_to x i h w f e = writes (on_screen x h w f) none none (λ e. (refl, refl)) (never t) (λ s. let r = screen_inside x (h s) in omega arith)

  activates : (n : ℕ) → is_listed Part.Active k.touches ≡ true → (Sound g c → (n ≤ 1) × (n ≤ c.screen.split)) → Form k g c (activate c n)
  unfolding activate
  activates n a h = turns_to _ _ (λ s. activated_kept c.screen n s.ok (h s).0 (h s).1) refl (turned a) refl

  advances : (w : Write) → Stores k g c → Fair k g c (width_of c.screen) w → Form k g c (advancing c w)
  unfolding advancing
  advances w q h =
      pick_form (ltb (cursor_of c.screen + 1) (segment_end c.screen))
      (λ e. writes here h none (never q.cells) (never t) (λ s. omega (arith, ltb-true (cursor_of c.screen + 1) (segment_end c.screen) e)))
      (λ e. pick_form (scrolls c.modes)
      (λ u.
      let r = q.scrolled (ltb-false (cursor_of c.screen + 1) (segment_end c.screen) e) u in
      writes here h (moving (scrolls_off c.modes u) (λ s. omega arith) (λ s. omega arith)) (never q.cells) (never t) (λ s. omega arith))
      (λ u. writes here h none (never q.cells) (never t) (λ s. omega arith)))

  stores : (z : Contents) (a : ℕ) → Stores k g c → (k.ok ≡ true → Remembers c → writable c.personality (written z c.modes.writeprotect a) ≡ true)
      → Form k g c (store_plan g c z a)
  unfolding store_plan storing
  stores z a q v =
      unless (advances _ q (pick_if (Fair k g c (width_of c.screen)) c.modes.insert
      (λ e. editing (λ s. omega arith) (q.shifts e) v) (λ e. filling (λ s. omega arith) (q.fills e) v)))

  edits_rows : (down : Bool) → Covers k c (row_start (width_of c.screen) (cursor_of c.screen)) → Form k g c (row_edit_plan c down)
  unfolding row_edit_plan
  edits_rows down q = pick_form c.modes.protect (λ e. a_refusal Answer.Barred refl) (λ e. writes here (moving e (λ s. omega arith) (λ s. omega (arith, row_first (columns_width c.screen.wide) (cursor_of c.screen)))) none (never q.cells) (never t) (λ s. omega arith))

  clears_all : (m : Modes) (v : ℕ) → Covers k c (segment_start c.screen) → k.excluded ≡ true → ModesKept k.touches c.modes m → writable c.personality v ≡ true → Form k g c (clear_all (with_modes c m) v)
  clears_all m v q x f h =
      writes (in_modes m (λ e. absurd (false≢true (sym e ∙ x))) f) (filling_all x (λ s. omega arith) (λ s. omega arith) h) none (never q.cells) (never t) (λ s. omega arith)

module _ (g : List Bool) (c : Core) where
  moves : (tabs : List Bool) (m : Move) → Form (kind_of (Command.Go m)) g c (move_plan g tabs c m)
  unfolding move_plan tab_cell back_tab_cell
  moves tabs Move.Back = settles refl (λ s. in_back c.screen s.inside g s.size)
  moves tabs Move.Right = settles refl (λ s. in_next c.screen s.inside)
  moves tabs Move.Return = settles refl (λ s. omega arith)
  moves tabs Move.Home = settles refl (λ s. omega arith)
  moves tabs Move.Up = settles refl (λ s. in_up c.screen s.inside)
  moves tabs Move.Reverse = reverses refl g c (λ e u. covers_if refl refl (both_true e (ap not u)))
  moves tabs Move.Down =
      goes_down refl g c (cursor_of c.screen) (λ e u. covers_if refl refl (both_true (le-leb (segment_end c.screen) (cursor_of c.screen + width_of c.screen) e) u))
      (λ s. omega arith)
  moves tabs Move.NextLine =
      goes_down refl g c (row_start (width_of c.screen) (cursor_of c.screen))
      (λ e u. covers_if refl refl (both_true (le-leb (segment_end c.screen) (cursor_of c.screen + width_of c.screen) (omega arith)) u)) (λ s. omega arith)
  moves tabs Move.Tab =
      settles refl (λ s. pick_if (In c.screen) c.modes.protect (λ e. in_next_field c.screen s.inside g s.size)
      (λ e. in_next_tab c.screen s.inside tabs))
  moves tabs Move.BackTab =
      settles refl (λ s. pick_if (In c.screen) c.modes.protect (λ e. in_previous_field c.screen s.inside g s.size)
      (λ e. in_previous_tab c.screen s.inside tabs))
  moves tabs (Move.Address r q) = addresses refl g c c.screen 0x20 80 r q (λ s. s.ok) refl same_screen (addressed_width c.screen.wide)
  moves tabs (Move.Decimal r q) = addresses refl g c c.screen 1 (width_of c.screen) r q (λ s. s.ok) refl same_screen (omega arith)

  windows : (x : Window) → Form (kind_of (Command.Window x)) g c (window_plan c x)
  unfolding window_plan cursor_of
  windows Window.Unsplit = turns_to refl g c _ _ (λ s. unsplit_screen_lem c.screen.wide) refl (anew refl) refl
  windows (Window.Split r) =
      pick_form (between 0x21 0x37 r)
      (λ e. let a = between_parts 0x21 0x37 r e in turns_to refl g c _ _ (λ s. split_screen_lem c.screen.wide (r - 0x1f) (omega arith) (omega arith)) refl (anew refl) refl)
      (λ e. bad)
  windows Window.Other =
      pick_form (eqb c.screen.split 0) (λ e. only here)
      (λ e. activates refl g c (1 - c.screen.active) refl (λ s. omega (arith, eqb-false c.screen.split 0 e)))
  windows Window.First = activates refl g c 0 refl (λ s. omega arith)
  windows Window.Second =
      pick_form (eqb c.screen.split 0) (λ e. bad) (λ e. activates refl g c 1 refl (λ s. omega (arith, eqb-false c.screen.split 0 e)))
  windows (Window.Place n r q) =
      pick_form (is_segment c.screen n)
      (λ e.
      let a = segment_there c.screen n e in
      addresses refl g c (activated c.screen (n - 0x30)) 0x20 80 r q (λ s. activated_kept c.screen (n - 0x30) s.ok a.0 a.1) refl
      (turned refl) (addressed_width c.screen.wide))
      (λ e. bad)

  edits : (x : Edit) → Form (kind_of (Command.Edit x)) g c (edit_plan g c x)
  unfolding edit_plan
  edits Edit.InsertCell = unless (stays refl (editing (λ s. omega arith) (λ s. omega arith) (λ t h. space_ok _)))
  edits Edit.DeleteCell = unless (stays refl (editing (λ s. omega arith) (λ s. omega arith) (λ t h. space_ok _)))
  edits Edit.InsertRow = edits_rows refl g c true record { cells = refl; first = omega arith; last = omega arith; whole = refl }
  edits Edit.DeleteRow = edits_rows refl g c false record { cells = refl; first = omega arith; last = omega arith; whole = refl }

  attributes : (a : ℕ) → Form (kind_of (Command.Attribute a)) g c (attribute_plan g c a)
  unfolding attribute_plan
  attributes a =
      pick_form (takes_cell c.personality a) (λ u. stores refl g c _ _ (stores_where refl refl) (λ t h. taken_ok c.personality c.modes.writeprotect a t u))
      (λ u. only record {
        screen = λ s. s.ok;
        wide = refl;
        pending = refl;
        bells = λ h. h;
        personality = refl;
        remembered = λ e h. set_remembered c.personality a e u;
        on = λ e h. h;
        kept = framed same_modes same_screen (λ h. refl) may refl;
      })

  -- what is cleared is such as the power-on terminal's plan writes, of clear_ok
  clears : (x : Clear) → Form (kind_of (Command.Clear x)) g c (clear_plan c x)
  unfolding clear_plan clear_ok write_ok
  clears (Clear.Row q) = stays refl (filling (λ s. omega arith) (λ s. omega arith) (λ t h. either_writes _ (Write.Fill 0 0 _) t))
  clears (Clear.Rest q) = stays refl (filling (λ s. omega arith) (λ s. omega arith) (λ t h. either_writes _ (Write.Fill 0 0 _) t))
  clears (Clear.Segment q) = writes here (filling (λ s. omega arith) (λ s. omega arith) (λ t h. either_writes _ (Write.Fill 0 0 _) t)) none may may (λ s. omega arith)
  clears Clear.Column = writes here (filling_column (λ s. omega arith) (λ s. omega arith) (protected_space_ok _)) none may may (λ s. omega arith)

  sets : (x : Setting) → Form (kind_of (Command.Set x)) g c (setting_plan c x)
  unfolding setting_plan setting_ok change_ok
  sets (Setting.Tab b) = a_change _ refl (change_keeps _) (λ e s. lt-ltb (column_of (width_of c.screen) (cursor_of c.screen)) (width_of c.screen) (omega arith))
  sets Setting.ClearTabs = a_change _ refl (change_keeps _) (λ e s. refl)
  sets (Setting.Attribute n a) = a_change _ refl (change_keeps _) (λ e s. e)
  sets (Setting.Feature f) = a_change _ refl (change_keeps _) (λ e s. e)
  sets Setting.HideLine = a_change _ refl (change_keeps _) (λ e s. refl)
  sets (Setting.Wish b) = a_change _ refl (change_keeps _) (λ e s. refl)

  sends_it : (x : Send) → Form (kind_of (Command.Send x)) g c (send_plan g c x)
  unfolding send_plan send_asked
  sends_it Send.Acknowledge = replies refl refl (λ e. refl) (λ s. (refl, omega arith))
  sends_it Send.Identity = replies refl refl (λ e. refl) (λ s. (refl, omega arith))
  sends_it Send.Cursor = narrow (λ w. replies refl refl (λ e. refl) (λ s. (ap not w, omega arith)))
  sends_it Send.SegmentCursor = narrow (λ w. replies refl refl (λ e. refl) (λ s. (ap not w, omega arith)))
  sends_it Send.DecimalCursor = replies refl refl (λ e. refl) (λ s. (refl, omega arith))
  sends_it Send.Cell = unless (replies refl refl (λ e. refl) (λ s. (refl, omega arith)))
  sends_it Send.OpenRow = replies refl refl (λ e. refl) (λ s. omega arith)
  sends_it Send.OpenSegment = replies refl refl (λ e. refl) (λ s. omega arith)

  excludes : (x : Excluded) → Form (kind_of (Command.Excluded x)) g c (excluded_plan c x)
  unfolding excluded_plan excluded_asked
  excludes Excluded.ProtectOff = only (in_modes (with_protect c.modes false) (λ e. absurd (false≢true (sym e))) protecting)
  excludes Excluded.ClearNulls = clears_all refl g c c.modes null record { cells = refl; first = omega arith; last = omega arith; whole = refl } refl same_modes (null_ok _)
  excludes Excluded.ClearSpaces = clears_all refl g c c.modes space record { cells = refl; first = omega arith; last = omega arith; whole = refl } refl same_modes (space_ok _)
  excludes Excluded.ClearProtected = clears_all refl g c (with_protect c.modes false) protected_space record { cells = refl; first = omega arith; last = omega arith; whole = refl } refl protecting (protected_space_ok _)
  excludes Excluded.SendRow = replies refl refl (λ e. absurd (false≢true (sym e))) (λ s. omega arith)
  excludes Excluded.SendSegment = replies refl refl (λ e. absurd (false≢true (sym e))) (λ s. omega arith)

  pub formed : (tabs : List Bool) (d : Command) → Form (kind_of d) g c (plan_rule g tabs c d)
  unfolding plan_rule
  formed tabs Command.Nothing = only here
  formed tabs (Command.Go m) = moves tabs m
  formed tabs (Command.Window x) = windows x
  formed tabs (Command.Store q) = stores refl g c q _ (stores_where refl refl) (λ t h. stored_ok c.personality q c.modes.writeprotect c.attribute t h)
  formed tabs (Command.Attribute a) = attributes a
  formed tabs (Command.Edit x) = edits x
  formed tabs (Command.Clear x) = clears x
  formed tabs (Command.Turn m b) = only (in_modes (with_mode c.modes m b) (λ e h. turn_keeps c.modes m b h) (turned_modes c.modes m b))
  formed tabs Command.ProtectOn = writes (in_modes (with_protect c.modes true) (λ e h. refl) protecting) none none (λ e. (refl, refl)) may (λ s. omega arith)
  formed tabs Command.Bell =
      only record { screen = λ s. s.ok; wide = refl; pending = refl; bells = λ h. omega arith; personality = refl; remembered = λ t h. h; on = λ e h. h; kept = framed same_modes same_screen may (λ h. refl) refl }
  formed tabs (Command.Set x) = sets x
  formed tabs (Command.Send x) = sends_it x
  formed tabs (Command.Excluded x) = excludes x
