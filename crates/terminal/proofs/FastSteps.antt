-- The last byte of an act, by the inner step.
--     stores_on, inserts_on     a byte stored, and one inserted
--     waits, places_at, refuses_at     a byte that is awaited; the last one of ESC =, in the segment and out of it
--     goes_on_lem, rolls_on     a byte that moves the cursor, and one that scrolls
--     edits_on     the byte behind ESC that edits or clears
-- Assumes nothing.
use Rattle.std.specs.Prelude.{◌≡◌, ℕ, ◌+◌, ◌-◌, ◌*◌, ◌<◌, ◌≤◌, Bool, true, false, not, eqb, ◌⊎◌, List, [], length, get_or, set}
use mathlib.Core.Path.{refl, sym, ap, ◌∙◌}
use mathlib.Core.Logic.{inl, inr}
use native.Mathlib.Omega.{arith}
use lib.ListN.{length-set}
use lib.Seq.{get_or-set_other}
use borrow.Author.Tests.{lt-ltb, le-ltb, le-leb, not-true}
use Rattle.rules.specs.declared.Clear.{Clear}
use Rattle.rules.specs.declared.Contents.TheVariants as Contents
use Rattle.rules.specs.declared.Core.{Core}
use Rattle.rules.specs.declared.Command.{Command}
use Rattle.rules.specs.declared.Decoded.{Decoded}
use Rattle.rules.specs.declared.Edit.TheVariants as Edit
use Rattle.rules.specs.declared.Land.{Land}
use Rattle.rules.specs.declared.Modes.{Modes}
use Rattle.rules.specs.declared.Move.{Move}
use Rattle.rules.specs.declared.Pending.{Pending}
use Rattle.rules.specs.declared.Plan.{Plan}
use Rattle.rules.specs.declared.Screen.{Screen}
use Rattle.rules.specs.declared.Write.{Write}
use Rattle.rules.specs.Cell.{pick, guarded, among, both, written}
use Rattle.rules.specs.Row.{Width, column_of, row_start}
use Rattle.rules.specs.Search.{guarded_at, others, settled, last_in, next_field, next_tab}
use Rattle.rules.specs.State.{unchanged, width_of, page_length, segment_top, segment_bottom, segment_start, segment_end, cursor_of, with_cursor, with_screen}
use Rattle.rules.specs.State.{awaiting, idle}
use Rattle.rules.specs.Possible.{screen_ok}
use Rattle.rules.specs.Decode.{decode_rule, idle_rule, escape_rule, lookup}
use Rattle.rules.specs.Plan.{writing, settling, unless_guarded, storing, advancing, store_plan, address_plan, scroll, scrolls, next_cell, at_top, up_cell}
use Rattle.rules.specs.Plan.{down_plan, reverse_plan, tab_cell, move_plan, row_edit_plan, edit_plan, clear_plan, plan_rule}
use Rattle.rules.specs.Carry.{effect, applied, landed, done, carried}
use Rattle.rules.specs.Step.{obeyed, inner_rule}
use Rattle.rules.proofs.Tests.{both_true, both_parts}
use Rattle.rules.proofs.Searching.{hit, hit_last, last_none, around_here, length_guards, length_others, guard_at, open_at}
use Rattle.rules.proofs.Rows.{by_width, columns_width}
use Rattle.rules.proofs.Lengths.{length_applied}
use Rattle.rules.proofs.Screens.{screen_inside}
use Rattle.page.proofs.Changes.{one_filled}
use Rattle.carry.specs.Rows.{keeps_guards}
use Rattle.carry.proofs.Guards.{kept_guards}
use Rattle.terminal.specs.FastPath.{ground_of, Stored, Goes, goes_back, goes_first, goes_field, goes_down, goes_up, goes_bottom, goes_right}
use Rattle.terminal.specs.FastPath.{goes_round, goes_return, goes_home, goes_line, Rolled, blank, Edits, edits_cell, edits_row, reverses}
use Rattle.terminal.specs.FastPath.{clears_row, clears_rest, clears_all, core_at}
use Rattle.terminal.proofs.Carrying.{below}

-- an open cell: settling stays there
settled_open : (g : List Bool) (first end i : ℕ) → i < end → end ≤ length g → get_or g i false ≡ false → settled g first end i ≡ i
settled_open g first end i h k e =
    let t : get_or (others g) i false ≡ true = open_at g i (omega arith) ∙ ap not e in
    sym (around_here (others g) first end i (sym (hit (others g) i end h (omega (arith, length_others g)) refl t)) h)

-- protect mode is off where a segment scrolls
pub rolls_off : (m : Modes) → scrolls m ≡ true → m.protect ≡ false
unfolding scrolls
rolls_off m e = not-true m.protect (both_parts m.autoscroll (not m.protect) e).1

-- so many rows begin sooner
pub rows_below : {w : ℕ} → Width w → {a b : ℕ} → a * w < b * w → a < b
rows_below k {a} {b} h = by_width (λ (w : ℕ). a * w < b * w → a < b) (λ h. omega arith) (λ h. omega arith) k h

-- the cursor put where it is
pub cursor_same : (x : Screen) → with_cursor x (cursor_of x) ≡ x
unfolding cursor_of with_cursor
cursor_same x = by (eqb x.active 0)
  where
    at : ℕ → ℕ → Screen
    at k l = record { wide = x.wide; active = x.active; split = x.split; cursor0 = k; cursor1 = l }

    by : (t : Bool) → at (pick t (pick t x.cursor0 x.cursor1) x.cursor0) (pick t x.cursor1 (pick t x.cursor0 x.cursor1)) ≡ x
    by true = refl
    by false = refl

-- what a clear writes guards no cell
pub blank_free : (on spaces : Bool) → guarded on (blank spaces) ≡ false
blank_free true true = refl
blank_free true false = refl
blank_free false spaces = refl

module _ (p : List ℕ) (c : Core) (size : length p ≡ page_length c.screen) (ok : screen_ok c.screen ≡ true) (tabs : List Bool) (room : ℕ) where
  abbrev on : Bool
  on = c.modes.protect

  abbrev w : ℕ
  w = width_of c.screen

  -- a plan that writes, and then settles from an open cell of the segment
  carried_writing : (x : Write) (i : ℕ) → i < segment_end c.screen → get_or (guarded_at on (applied w on x p)) i false ≡ false
      → carried p c (writing (idle c) x (Land.Settle i)) room ≡ effect 0 (core_at c i) unchanged (applied w on x p) []
  unfolding carried done landed applied
  carried_writing x i h e =
      let q = applied w on x p in
      let g = guarded_at on q in
      let most = (screen_inside c.screen ok).placed.page in
      let k : segment_end c.screen ≤ length g = omega (arith, length_guards on q, length_applied w on x p, size, most) in
      ap (λ (n : ℕ). effect 0 (with_screen (idle c) (with_cursor c.screen n)) unchanged q [])
      (settled_open g (segment_start c.screen) (segment_end c.screen) i h k e)

  -- one that writes, and leaves the cursor
  carried_staying : (x : Write)
      → carried p c (writing (idle c) x Land.Stay) room ≡ effect 0 (core_at c (cursor_of c.screen)) unchanged (applied w on x p) []
  unfolding carried done landed applied
  carried_staying x = ap (λ (y : Screen). effect 0 (with_screen (idle c) y) unchanged (applied w on x p) []) (sym (cursor_same c.screen))

  -- a cell that is open stays open under a write that guards none; with protect mode off every one is
  kept_open : (x : Write) (i : ℕ) → keeps_guards on x ≡ true → get_or (guarded_at on p) i false ≡ false
      → get_or (guarded_at on (applied w on x p)) i false ≡ false
  kept_open x i k e = ap (λ (g : List Bool). get_or g i false) (kept_guards w on x p k) ∙ e

  off_open : (x : Write) (i : ℕ) → on ≡ false → i < segment_end c.screen → get_or (guarded_at on (applied w on x p)) i false ≡ false
  off_open x i e h =
      let q = applied w on x p in
      let s = screen_inside c.screen ok in
      guard_at on q i (omega (arith, length_applied w on x p, size, s.placed.page)) ∙ ap (λ (t : Bool). guarded t (get_or q i 0)) e

  -- ---- a byte of text

  module _ (b : ℕ) (quiet : c.pending ≡ Pending.Idle) (s : Stored (ground_of c) p (cursor_of c.screen) b)
      (more : cursor_of c.screen + 1 < segment_end c.screen) where
    abbrev at : ℕ
    at = cursor_of c.screen

    abbrev v : ℕ
    v = written (Contents.Text b) c.modes.writeprotect c.attribute

    decoded : decode_rule c.pending b ≡ Decoded.Do (Command.Store (Contents.Text b))
    unfolding decode_rule idle_rule
    decoded = ap (λ (q : Pending). decode_rule q b) quiet ∙ rw (le-ltb b 0x20 s.low, lt-ltb b 0x7f (omega (arith, s.high)))

    planned : (t : Bool) → c.modes.insert ≡ t
        → plan_rule (guarded_at on p) tabs (idle c) (Command.Store (Contents.Text b)) ≡ writing (idle c) (storing t at v) (Land.Settle (at + 1))
    unfolding plan_rule store_plan unless_guarded advancing
    planned t e =
        ap (λ (t : Bool). unless_guarded (guarded_at on p) (idle c) (advancing (idle c) (storing t at v))) e
        ∙ rw (s.here, lt-ltb (at + 1) (segment_end c.screen) more)

    -- the store by its write
    written_on : (t : Bool) (x : Write) → c.modes.insert ≡ t → storing t at v ≡ x → get_or (guarded_at on (applied w on x p)) (at + 1) false ≡ false
        → inner_rule p c tabs b room ≡ effect 0 (core_at c (at + 1)) unchanged (applied w on x p) []
    unfolding obeyed
    written_on t x e f g =
        below p c tabs b room (omega (arith, s.high)) refl decoded
        ∙ ap (λ (y : Plan). carried p c y room) (planned t e ∙ ap (λ (y : Write). writing (idle c) y (Land.Settle (at + 1))) f)
        ∙ carried_writing x (at + 1) more g

    inside : at + 1 < length p
    inside = omega (arith, more, size, (screen_inside c.screen ok).placed.page)

    page : applied w on (Write.Fill at (at + 1) v) p ≡ set p at v
    unfolding applied
    page =
        sym (one_filled on v p at (omega (arith, inside)))
        ∙ ap (λ (t : Bool). set p at (pick t (get_or p at 0) v)) (sym (guard_at on p at (omega (arith, inside))) ∙ s.here)

    next : get_or (guarded_at on (set p at v)) (at + 1) false ≡ false
    next =
        guard_at on (set p at v) (at + 1) (omega (arith, inside, length-set p at v))
        ∙ ap (guarded on) (get_or-set_other p at (at + 1) v 0 (λ e. omega arith)) ∙ sym (guard_at on p (at + 1) inside) ∙ s.next

    pub stores_on : c.modes.insert ≡ false
        → inner_rule p c tabs b room ≡ effect 0 (core_at c (at + 1)) unchanged (applied w on (Write.Fill at (at + 1) v) p) []
    unfolding storing
    stores_on e = written_on false (Write.Fill at (at + 1) v) e refl (rw page next)

    pub inserts_on : c.modes.insert ≡ true → guarded on v ≡ false
        → inner_rule p c tabs b room ≡ effect 0 (core_at c (at + 1)) unchanged (applied w on (Write.Edit true at v) p) []
    unfolding storing keeps_guards
    inserts_on e f = written_on true (Write.Edit true at v) e refl (kept_open (Write.Edit true at v) (at + 1) (ap not f) s.next)

  -- ---- ESC =

  pub waits : (b : ℕ) (q : Pending) → b < 128 → decode_rule c.pending b ≡ Decoded.Wait q
      → inner_rule p c tabs b room ≡ effect 0 (awaiting c q) unchanged p []
  unfolding obeyed
  waits b q h e = below p c tabs b room h refl e

  pub places_at : (r k i : ℕ) → c.pending ≡ Pending.AddressRow r → 0x20 ≤ r → 0x20 ≤ k → k < 0x20 + 80
      → i ≡ segment_start c.screen + (r - 0x20) * w + (k - 0x20) → i < segment_end c.screen → get_or (guarded_at on p) i false ≡ false
      → inner_rule p c tabs k room ≡ effect 0 (core_at c i) unchanged p []
  unfolding obeyed decode_rule plan_rule move_plan address_plan applied
  places_at r k i pending low left right e h g =
      let x = c.screen in
      let z = (segment_top x + (r - 0x20)) * w + (k - 0x20) in
      let same : i ≡ z = omega arith in
      let row = rows_below (columns_width x.wide) {a = segment_top x + (r - 0x20)} {b = segment_bottom x} (omega arith) in
      let t : both (among 0x20 (segment_bottom x - segment_top x) r) (among 0x20 80 k) ≡ true = both_true
      (both_true (le-leb 0x20 r low) (lt-ltb r (0x20 + (segment_bottom x - segment_top x)) (omega (arith, row))))
      (both_true (le-leb 0x20 k left) (lt-ltb k (0x20 + 80) right)) in
      below p c tabs k room (omega arith) refl (ap (λ (q : Pending). decode_rule q k) pending)
      ∙ rw t (rw (sym same) (carried_writing Write.Nothing i h g))

  -- its last byte, where the row or the column is none of the segment
  pub refuses_at : (r k : ℕ) → c.pending ≡ Pending.AddressRow r → k < 128
      → both (among 0x20 (segment_bottom c.screen - segment_top c.screen) r) (among 0x20 80 k) ≡ false
      → inner_rule p c tabs k room ≡ effect 3 (core_at c (cursor_of c.screen)) unchanged p []
  unfolding obeyed decode_rule plan_rule move_plan address_plan carried done landed applied
  refuses_at r k pending low t =
      below p c tabs k room low refl (ap (λ (q : Pending). decode_rule q k) pending)
      ∙ rw t (ap (λ (y : Screen). effect 3 (with_screen (idle c) y) unchanged p []) (sym (cursor_same c.screen)))

  -- ---- a byte that moves the cursor, or scrolls

  abbrev x : Screen
  x = c.screen

  abbrev move : Move → Plan
  move m = move_plan (guarded_at on p) tabs (idle c) m

  -- the plan of a move, when nothing is under way
  moving : (b : ℕ) (m : Move) → c.pending ≡ Pending.Idle → b < 128 → decode_rule Pending.Idle b ≡ Decoded.Do (Command.Go m)
      → inner_rule p c tabs b room ≡ carried p c (move m) room
  unfolding obeyed plan_rule
  moving b m quiet low e = below p c tabs b room low refl (ap (λ (q : Pending). decode_rule q b) quiet ∙ e)

  -- it moves to an open cell of the segment
  settles : {b k : ℕ} (m : Move) → c.pending ≡ Pending.Idle → b < 128 → decode_rule Pending.Idle b ≡ Decoded.Do (Command.Go m)
      → move m ≡ settling (idle c) k → k < segment_end x → get_or (guarded_at on p) k false ≡ false
      → inner_rule p c tabs b room ≡ effect 0 (core_at c k) unchanged p []
  unfolding applied
  settles {b} {k} m quiet low d e h g =
      moving b m quiet low d ∙ ap (λ (z : Plan). carried p c z room) e ∙ carried_writing Write.Nothing k h g

  pub goes_on_lem : (b k : ℕ) → c.pending ≡ Pending.Idle → Goes (ground_of c) p (cursor_of x) b k → k < segment_end x
      → get_or (guarded_at on p) k false ≡ false → inner_rule p c tabs b room ≡ effect 0 (core_at c k) unchanged p []
  unfolding decode_rule idle_rule lookup move_plan down_plan next_cell up_cell at_top tab_cell
  goes_on_lem b k quiet (goes_back e j i) h g =
      let m = others (guarded_at on p) in
      let s = screen_inside x ok in
      let l : cursor_of x ≤ length m = omega (arith, length_others (guarded_at on p), length_guards on p, size, s.below, s.placed.page) in
      let t : get_or m (cursor_of x - 1) false
      ≡ true = open_at (guarded_at on p) (cursor_of x - 1) (omega (arith, length_guards on p, size, s.below, s.placed.page))
      ∙ ap not (rw i at g) in
      settles Move.Back quiet (omega (arith, e)) (rw e refl)
      (ap (settling (idle c)) (hit_last (cursor_of x) m (segment_start x) (cursor_of x) (omega arith) l refl t ∙ sym i)) h g
  goes_on_lem b k quiet (goes_first e j i) h g =
      let m = others (guarded_at on p) in
      let f : segment_start x ≡ cursor_of x = omega (arith, j, (screen_inside x ok).from) in
      settles Move.Back quiet (omega (arith, e)) (rw e refl)
      (ap (settling (idle c)) (ap (λ (n : ℕ). last_in (cursor_of x) m n (cursor_of x)) f ∙ last_none (cursor_of x) m (cursor_of x) ∙ sym i)) h g
  goes_on_lem b k quiet (goes_field e t i) h g =
      let column = row_start w (cursor_of x) + next_tab w tabs (column_of w (cursor_of x)) in
      let field = ap (λ (b : Bool). pick b (next_field (guarded_at b p) (segment_start x) (segment_end x) (cursor_of x)) column) t in
      settles Move.Tab quiet (omega (arith, e)) (rw e refl) (ap (settling (idle c)) (field ∙ sym i)) h g
  goes_on_lem b k quiet (goes_down e i) h g =
      settles Move.Down quiet (omega (arith, e)) (rw e refl)
      (rw (lt-ltb (cursor_of x + w) (segment_end x) (omega (arith, i))) (ap (settling (idle c)) (sym i))) h g
  goes_on_lem b k quiet (goes_up e j i) h g =
      settles Move.Up quiet (omega (arith, e)) (rw e refl) (rw (le-ltb (cursor_of x) (segment_start x + w) j) (ap (settling (idle c)) (sym i))) h g
  goes_on_lem b k quiet (goes_bottom e j i) h g =
      settles Move.Up quiet (omega (arith, e)) (rw e refl) (rw (lt-ltb (cursor_of x) (segment_start x + w) j) (ap (settling (idle c)) (sym i))) h g
  goes_on_lem b k quiet (goes_right e j i) h g =
      settles Move.Right quiet (omega (arith, e)) (rw e refl) (rw (lt-ltb (cursor_of x + 1) (segment_end x) j) (ap (settling (idle c)) (sym i))) h g
  goes_on_lem b k quiet (goes_round e j i) h g =
      settles Move.Right quiet (omega (arith, e)) (rw e refl) (rw (le-ltb (cursor_of x + 1) (segment_end x) j) (ap (settling (idle c)) (sym i))) h g
  goes_on_lem b k quiet (goes_return e i) h g = settles Move.Return quiet (omega (arith, e)) (rw e refl) (ap (settling (idle c)) (sym i)) h g
  goes_on_lem b k quiet (goes_home e i) h g = settles Move.Home quiet (omega (arith, e)) (rw e refl) (ap (settling (idle c)) (sym i)) h g
  goes_on_lem b k quiet (goes_line e i) h g =
      settles Move.NextLine quiet (omega (arith, e)) (rw e refl)
      (rw (lt-ltb (row_start w (cursor_of x) + w) (segment_end x) (omega (arith, i))) (ap (settling (idle c)) (sym i))) h g

  rolls_from : (b k i : ℕ) (m : Move) → c.pending ≡ Pending.Idle → b < 128 → decode_rule Pending.Idle b ≡ Decoded.Do (Command.Go m)
      → move m ≡ down_plan (idle c) i → k ≡ i → scrolls c.modes ≡ true → segment_end x ≤ k + w → k < segment_end x
      → inner_rule p c tabs b room ≡ effect 0 (core_at c k) unchanged (applied w on (scroll x false) p) []
  unfolding down_plan
  rolls_from b k i m quiet low d e f t last h =
      moving b m quiet low d
      ∙ ap (λ (z : Plan). carried p c z room)
      (e ∙ rw (le-ltb (i + w) (segment_end x) (omega (arith, f, last)), t)
      (ap (λ (n : ℕ). writing (idle c) (scroll x false) (Land.Settle n)) (sym f)))
      ∙ carried_writing (scroll x false) k h (off_open (scroll x false) k (rolls_off c.modes t) h)

  pub rolls_on : (b k : ℕ) → c.pending ≡ Pending.Idle → Rolled (ground_of c) (cursor_of x) b k → k < segment_end x
      → inner_rule p c tabs b room ≡ effect 0 (core_at c k) unchanged (applied w on (scroll x false) p) []
  unfolding decode_rule idle_rule lookup move_plan
  rolls_on b k quiet r h = by r.from
    where
      by : ((b ≡ 0x0a) × (k ≡ cursor_of x)) ⊎ ((b ≡ 0x1f) × (k ≡ row_start w (cursor_of x)))
          → inner_rule p c tabs b room ≡ effect 0 (core_at c k) unchanged (applied w on (scroll x false) p) []
      by (inl e) = rolls_from b k (cursor_of x) Move.Down quiet (omega (arith, e.0)) (rw e.0 refl) refl e.1 r.mode r.last h
      by (inr e) = rolls_from b k (row_start w (cursor_of x)) Move.NextLine quiet (omega (arith, e.0)) (rw e.0 refl) refl e.1 r.mode
          r.last h

  -- ---- the byte behind ESC

  -- the plan of a command
  escaped : (b : ℕ) (d : Command) (y : Plan) → c.pending ≡ Pending.Escape → b < 128 → decode_rule Pending.Escape b ≡ Decoded.Do d
      → plan_rule (guarded_at on p) tabs (idle c) d ≡ y → inner_rule p c tabs b room ≡ carried p c y room
  unfolding obeyed
  escaped b d y pending low e f =
      below p c tabs b room low refl (ap (λ (q : Pending). decode_rule q b) pending ∙ e) ∙ ap (λ (y : Plan). carried p c y room) f

  pub edits_on : (b k : ℕ) (y : Write) → c.pending ≡ Pending.Escape → Edits (ground_of c) p (cursor_of x) b y k → k < segment_end x
      → inner_rule p c tabs b room ≡ effect 0 (core_at c k) unchanged (applied w on y p) []
  unfolding decode_rule escape_rule lookup plan_rule edit_plan row_edit_plan unless_guarded move_plan reverse_plan at_top clear_plan keeps_guards
  edits_on b k y pending (edits_cell true e g) h =
      escaped b (Command.Edit Edit.InsertCell) (writing (idle c) y Land.Stay) pending (omega (arith, e)) (rw e refl) (rw g refl) ∙ carried_staying y
  edits_on b k y pending (edits_cell false e g) h =
      escaped b (Command.Edit Edit.DeleteCell) (writing (idle c) y Land.Stay) pending (omega (arith, e)) (rw e refl) (rw g refl) ∙ carried_staying y
  edits_on b k y pending (edits_row true e o) h =
      escaped b (Command.Edit Edit.InsertRow) (writing (idle c) y (Land.Settle k)) pending (omega (arith, e)) (rw e refl) (rw o refl)
      ∙ carried_writing y k h (off_open y k o h)
  edits_on b k y pending (edits_row false e o) h =
      escaped b (Command.Edit Edit.DeleteRow) (writing (idle c) y (Land.Settle k)) pending (omega (arith, e)) (rw e refl) (rw o refl)
      ∙ carried_writing y k h (off_open y k o h)
  edits_on b k y pending (reverses e o t) h =
      escaped b (Command.Go Move.Reverse) (writing (idle c) y (Land.Settle k)) pending (omega (arith, e)) (rw e refl)
      (rw (lt-ltb (cursor_of x) (segment_start x + w) t, o) refl)
      ∙ carried_writing y k h (off_open y k o h)
  edits_on b k y pending (clears_row true e) h =
      escaped b (Command.Clear (Clear.Row (Contents.Text 0x20))) (writing (idle c) y Land.Stay) pending (omega (arith, e)) (rw e refl) refl
      ∙ carried_staying y
  edits_on b k y pending (clears_row false e) h =
      escaped b (Command.Clear (Clear.Row (Contents.Text 0))) (writing (idle c) y Land.Stay) pending (omega (arith, e)) (rw e refl) refl
      ∙ carried_staying y
  edits_on b k y pending (clears_rest true e) h =
      escaped b (Command.Clear (Clear.Rest (Contents.Text 0x20))) (writing (idle c) y Land.Stay) pending (omega (arith, e)) (rw e refl) refl
      ∙ carried_staying y
  edits_on b k y pending (clears_rest false e) h =
      escaped b (Command.Clear (Clear.Rest (Contents.Text 0))) (writing (idle c) y Land.Stay) pending (omega (arith, e)) (rw e refl) refl
      ∙ carried_staying y
  edits_on b k y pending (clears_all true e g) h =
      escaped b (Command.Clear (Clear.Segment (Contents.Text 0x20))) (writing (idle c) y (Land.Settle k)) pending (omega (arith, e)) (rw e refl) refl
      ∙ carried_writing y k h (kept_open y k (ap not (blank_free on true)) g)
  edits_on b k y pending (clears_all false e g) h =
      escaped b (Command.Clear (Clear.Segment (Contents.Text 0))) (writing (idle c) y (Land.Settle k)) pending (omega (arith, e)) (rw e refl) refl
      ∙ carried_writing y k h (kept_open y k (ap not (blank_free on false)) g)
