-- The fast path is the repeated step.
--     ground_fits, fits_size, line_end, line_inside     the segment of a ground lies in the page
--     stored_page, edited_page, rolled_page, write_page, nothing_written     what the code writes is the write of an act
--     edits_good     it lies in the page
--     passes_then, passes_range, passes_same, text_range     a path after a path; where a path ends
--     turn, waited     a byte that changes the core and the page alone
--     resumed     the loop over host bytes goes on after the fast path as before it
-- Assumes nothing.
use Rattle.std.specs.Prelude.{◌≡◌, ℕ, ◌+◌, ◌-◌, ◌*◌, ◌/◌, ◌%◌, ◌<◌, ◌≤◌, Bool, true, false, eqb, List, [], ◌++◌, length, get_or, take, set}
use mathlib.Core.Path.{refl, sym, ap, ap₂, ◌∙◌}
use mathlib.Core.Bool.{false≢true}
use native.Mathlib.Nat.{add-zero}
use native.Mathlib.Omega.{arith}
use lib.ListN.{take-append-drop}
use borrow.Author.Tests.{eq-eqb, eqb-true}
use Rattle.rules.specs.declared.Answer.TheVariants as Answer
use Rattle.rules.specs.declared.Argument.TheVariants as Argument
use Rattle.rules.specs.declared.Contents.TheVariants as Contents
use Rattle.rules.specs.declared.Core.{Core}
use Rattle.rules.specs.declared.Decoded.TheVariants as Decoded
use Rattle.rules.specs.declared.Pending.{Pending}
use Rattle.rules.specs.declared.Screen.{Screen}
use Rattle.rules.specs.declared.Setup.{Setup}
use Rattle.rules.specs.declared.Write.{Write}
use Rattle.rules.specs.Cell.{pick, guarded, written}
use Rattle.rules.specs.Row.{Width, columns, row_start, row_end}
use Rattle.rules.specs.Calls.{Ran}
use Rattle.rules.specs.State.{Inside, page_length, unchanged, segment_end, segment_top, segment_bottom, cursor_of, with_cursor, with_screen}
use Rattle.rules.specs.State.{awaiting, idle}
use Rattle.rules.specs.Step.{inner_rule}
use Rattle.rules.specs.Decode.{argument_rule, decode_rule, idle_rule, escape_rule, lookup}
use Rattle.rules.specs.Change.{edit_shifted, rows_shifted}
use Rattle.rules.specs.Carry.{effect, applied}
use Rattle.rules.specs.Theorems.Good.{GoodWrite}
use Rattle.rules.proofs.Lengths.{length_applied}
use Rattle.rules.proofs.Searching.{guard_at}
use Rattle.rules.proofs.Rows.{by_width, columns_width, row_inside, placed}
use Rattle.rules.proofs.Screens.{screen_inside}
use Rattle.page.proofs.Changes.{one_filled}
use Rattle.carry.proofs.Carrying.{carried_is}
use Rattle.terminal.specs.declared.fast.Ground.{Ground}
use Rattle.terminal.specs.FastPath.{ground_of, ground_width, Fits, OpenAt, Outside, Edits, edits_cell, edits_row, reverses, clears_row}
use Rattle.terminal.specs.FastPath.{clears_rest, clears_all, Acts, stores, inserts, places, goes, rolls, edits, Passes, none, acted, refused}
use Rattle.terminal.specs.FastPath.{FastPath, still, passing, core_at}
use Rattle.terminal.proofs.Carrying.{quiet_carried}
use Rattle.terminal.proofs.Loop.{Running, ready, go, nothing_made, lent_tail, back_tail, tail_lent, tail_back}
use Rattle.terminal.proofs.FastSteps.{rows_below, cursor_same, stores_on, inserts_on, waits, places_at, refuses_at, goes_on_lem, rolls_on}
use Rattle.terminal.proofs.FastSteps.{edits_on}

-- ---- the segment

-- a text cell's number is its code and what stands beside it
base_is : (b : ℕ) (p : Bool) (a : ℕ) → written (Contents.Text b) p a ≡ written (Contents.Text 0) p a + b
base_is b true a = omega arith
base_is b false a = omega arith

base_small : (p : Bool) (a : ℕ) → a < 32 → written (Contents.Text 0) p a < 32768
base_small true a h = omega arith
base_small false a h = omega arith

most_cells : {w : ℕ} → Width w → 24 * w ≤ 3168
most_cells k = by_width (λ (w : ℕ). 24 * w ≤ 3168) (omega arith) (omega arith) k

pub ground_fits : (c : Core) {p : List ℕ} → length p ≡ page_length c.screen → Inside c.screen → c.attribute < 32 → Fits (ground_of c) p
ground_fits c size s a = record {
  whole = size;
  size = omega (arith, size, most_cells (columns_width c.screen.wide));
  inside = omega (arith, size, s.placed.page);
  rows = s.rows;
  most = s.most;
  first = omega (arith, s.placed.row, s.placed.least);
  past = refl;
  row = omega (arith, s.placed.row);
  base = base_small c.modes.writeprotect c.attribute a;
}

pub fits_size : {z : Ground} {p q : List ℕ} → Fits z p → length q ≡ length p → Fits z q
fits_size f e = record {
  whole = e ∙ f.whole;
  size = omega (arith, e, f.size);
  inside = omega (arith, e, f.inside);
  rows = f.rows;
  most = f.most;
  first = f.first;
  past = f.past;
  row = f.row;
  base = f.base;
}

-- the end of a row
pub line_end : (wide : Bool) (at : ℕ) → row_start (columns wide) at + columns wide ≡ row_end (columns wide) at
unfolding row_end
line_end wide at = by_width (λ (w : ℕ). at - at % w + w ≡ (at / w + 1) * w) (omega arith) (omega arith) (columns_width wide)

module _ {z : Ground} {p : List ℕ} (f : Fits z p) {at : ℕ} (h : at < z.end) where
  row_most : row_end (ground_width z) at ≤ 24 * ground_width z
  row_most = row_inside (columns_width z.wide) at (omega (arith, h, f.inside, f.whole))

  pub line_inside : row_end (ground_width z) at ≤ 3168
  line_inside = omega (arith, row_most, most_cells (columns_width z.wide))

  pub edits_good : {b k : ℕ} {w : Write} → Edits z p at b w k → GoodWrite (ground_width z) w
  edits_good (edits_cell right e g) = omega (arith, h, f.inside, f.whole)
  edits_good (edits_row down e o) =
      let l = placed (columns_width z.wide) {top = 0} {bottom = z.bottom} {at = at} (omega (arith, f.rows)) f.most (omega arith)
      (omega (arith, h, f.past)) in
      (omega (arith, l.lower), f.most)
  edits_good (reverses e o t) = (omega (arith, f.rows), f.most)
  edits_good (clears_row s e) = let l = placed (columns_width z.wide) {top = 0} {bottom = 24} {at = at} (omega arith) (omega arith) (omega arith)
      (omega (arith, h, f.inside, f.whole)) in
      (omega (arith, l.last, l.column, l.before), row_most)
  edits_good (clears_rest s e) = (omega (arith, h), omega (arith, f.inside, f.whole))
  edits_good (clears_all s e g) = (omega (arith, f.first), omega (arith, f.inside, f.whole))

-- ---- what the code writes

module _ (z : Ground) where
  pub stored_page : (p : List ℕ) (at v : ℕ) → at < length p → OpenAt z p at
      → set p at v ≡ applied (ground_width z) z.protect (Write.Fill at (at + 1) v) p
  unfolding applied
  stored_page p at v h e =
      sym (ap (λ (t : Bool). set p at (pick t (get_or p at 0) v)) (sym (guard_at z.protect p at h) ∙ e)) ∙ one_filled z.protect v p at h

  pub nothing_written : (p : List ℕ) → p ≡ applied (ground_width z) z.protect Write.Nothing p
  unfolding applied
  nothing_written p = refl

  module _ (p : List ℕ) {n : ℕ} {q : List ℕ} where
    pub write_page : (w : Write) → q ≡ applied n z.protect w p → n ≡ ground_width z
        → (q ≡ applied (ground_width z) z.protect w p) × (length q ≡ length p)
    write_page w e f =
        let g = e ∙ ap (λ (n : ℕ). applied n z.protect w p) f in
        (g, ap length g ∙ length_applied (ground_width z) z.protect w p)

    pub edited_page : (right : Bool) (at v : ℕ) → q ≡ edit_shifted n z.protect right v at p → n ≡ ground_width z
        → (q ≡ applied (ground_width z) z.protect (Write.Edit right at v) p) × (length q ≡ length p)
    unfolding applied
    edited_page right at v e f = write_page (Write.Edit right at v) e f

    pub rolled_page : (down : Bool) (top bottom : ℕ) → q ≡ rows_shifted n down top bottom p → n ≡ ground_width z
        → (q ≡ applied (ground_width z) z.protect (Write.Rows down top bottom) p) × (length q ≡ length p)
    unfolding applied
    rolled_page down top bottom e f = write_page (Write.Rows down top bottom) e f

-- ---- where a run ends

-- an act takes a byte
acts_some : {z : Ground} {l : List ℕ} {i : ℕ} {p : List ℕ} {at n k : ℕ} {w : Write} → Acts z l i p at n w k → 1 ≤ n
acts_some (stores m s e) = omega arith
acts_some (inserts m s e f) = omega arith
acts_some (places a o) = omega arith
acts_some (goes g o) = omega arith
acts_some (rolls r) = omega arith
acts_some (edits e d) = omega arith

-- from the byte i₀ of l and the page p₀, with f bytes refused
pub record Range (z : Ground) (l : List ℕ) (i₀ : ℕ) (p₀ : List ℕ) (at i : ℕ) (p : List ℕ) (f : ℕ) : Type 0 where
  pub from : f + i₀ ≤ i
  pub within : i ≤ length l
  pub below : at < z.end
  pub size : length p ≡ length p₀

module _ {z : Ground} {l : List ℕ} {at₀ i₀ : ℕ} {p₀ : List ℕ} where
  pub passes_then : {at i f : ℕ} {p : List ℕ} → Passes z l at₀ i₀ p₀ at i p f
      → {at' i' g h : ℕ} {p' : List ℕ} → Passes z l at i p at' i' p' g → h ≡ f + g → Passes z l at₀ i₀ p₀ at' i' p' h
  passes_then t none e = rw (e ∙ add-zero _) t
  passes_then t (acted u a m k q) e = acted (passes_then t u e) a m k q
  passes_then {f = f} t {h = h} (refused {f = g} u o m q) e = refused {g = h} (passes_then t {h = f + g} u refl) o m (omega (arith, e, q))

  pub passes_range : {at i f : ℕ} {p : List ℕ} → Passes z l at₀ i₀ p₀ at i p f → i₀ ≤ length l → at₀ < z.end → Range z l i₀ p₀ at i p f
  passes_range none h b = record { from = omega arith; within = h; below = b; size = refl }
  passes_range (acted {w = w} {p = p} u a k j e) h b =
      let r = passes_range u h b in
      record {
        from = omega (arith, r.from);
        within = k;
        below = j;
        size = ap length e ∙ length_applied (ground_width z) z.protect w p ∙ r.size;
      }
  passes_range (refused u o k e) h b =
      let r = passes_range u h b in
      record { from = omega (arith, r.from, e); within = k; below = r.below; size = r.size }

  -- a run that took no byte
  pub passes_same : {at i f : ℕ} {p : List ℕ} → Passes z l at₀ i₀ p₀ at i p f → i₀ ≤ length l → at₀ < z.end → i ≡ i₀
      → (at ≡ at₀) × ((p ≡ p₀) × (f ≡ 0))
  passes_same none h b e = (refl, (refl, refl))
  passes_same (acted u a k j q) h b e = absurd (omega (arith, e, acts_some a, (passes_range u h b).from))
  passes_same (refused u o k q) h b e = absurd (omega (arith, e, (passes_range u h b).from))

-- ---- a turn of the loop that changes the core and the page alone

same_room : (n : ℕ) (w : List ℕ) → back_tail n w (lent_tail n w) ≡ w
same_room n w = tail_back n w (lent_tail n w) ∙ ap (λ (l : List ℕ). take n w ++ l) (tail_lent n w) ∙ take-append-drop n w

module _ {stop : Bool} {p₀ : List ℕ} {o₀ : Ran} {input w₀ : List ℕ} {g : List ℕ} {u : Setup} {n f : ℕ} {w : List ℕ} where
  -- one that is refused, where that is not to stop it
  barred : {p : List ℕ} {c : Core} {i : ℕ} (j : ℕ) → Running stop p₀ o₀ input w₀ p w c g u i n f → j ≡ i + 1 → j ≤ length input → stop ≡ false
      → {c' : Core} → ((room : ℕ) → inner_rule p c u.tabs (get_or input i 0) room ≡ effect 3 c' unchanged p [])
      → Running stop p₀ o₀ input w₀ p w c' g u j n (f + 1)
  barred {p} {c} {i} j R e h off {c'} E =
      let q = lent_tail n w in
      let m = nothing_made unchanged g u refl in
      let k = carried_is (E (length q)) (quiet_carried Answer.BadArgument c' unchanged p q) in
      let G = go R (omega arith) k refl m.0 m.1.0 (sym m.1.1) refl refl (λ z. absurd (false≢true (sym off ∙ z))) in
      rw (same_room n w, add-zero n, sym e) at G

  pub turn : {p : List ℕ} {c : Core} {i : ℕ} (j : ℕ) → Running stop p₀ o₀ input w₀ p w c g u i n f → j ≡ i + 1 → j ≤ length input
      → {p' : List ℕ} {c' : Core} → ((room : ℕ) → inner_rule p c u.tabs (get_or input i 0) room ≡ effect 0 c' unchanged p' [])
      → Running stop p₀ o₀ input w₀ p' w c' g u j n f
  turn {p} {c} {i} j R e h {p'} {c'} E =
      let q = lent_tail n w in
      let m = nothing_made unchanged g u refl in
      let k = carried_is (E (length q)) (quiet_carried Answer.Done c' unchanged p' q) in
      let G = go R (omega arith) k refl m.0 m.1.0 (sym m.1.1) refl refl (λ z. refl) in
      rw (same_room n w, add-zero n, add-zero f, sym e) at G

  -- a byte that is awaited, and leaves q under way
  pub waited : {p : List ℕ} {c : Core} {i : ℕ} (j : ℕ) (q : Pending) → Running stop p₀ o₀ input w₀ p w c g u i n f → j ≡ i + 1 → j ≤ length input
      → get_or input i 0 < 128 → decode_rule c.pending (get_or input i 0) ≡ Decoded.Wait q
      → Running stop p₀ o₀ input w₀ p w (awaiting c q) g u j n f
  waited {p} {c} {i} j q R e h low d =
      let k = ready R in
      turn j R e h (λ room. waits p c k.0 k.1.0 u.tabs room (get_or input i 0) q low d)

-- ---- the cores of a run

cursor_set : (x : Screen) (i : ℕ) → cursor_of (with_cursor x i) ≡ i
unfolding cursor_of with_cursor
cursor_set x i = by (eqb x.active 0)
  where
    by : (t : Bool) → pick t (pick t i x.cursor0) (pick t x.cursor1 i) ≡ i
    by true = refl
    by false = refl

cursor_twice : (x : Screen) (i j : ℕ) → with_cursor (with_cursor x i) j ≡ with_cursor x j
unfolding with_cursor
cursor_twice x i j = by (eqb x.active 0)
  where
    at : ℕ → ℕ → Screen
    at k l = record { wide = x.wide; active = x.active; split = x.split; cursor0 = k; cursor1 = l }

    by : (t : Bool) → at (pick t j (pick t i x.cursor0)) (pick t (pick t x.cursor1 i) j) ≡ at (pick t j x.cursor0) (pick t x.cursor1 j)
    by true = refl
    by false = refl

text_twice : (c : Core) (i j : ℕ) → core_at (core_at c i) j ≡ core_at c j
text_twice c i j = ap (λ (x : Screen). with_screen (idle c) x) (cursor_twice c.screen i j)

-- the core itself, where nothing is under way
text_same : (c : Core) → c.pending ≡ Pending.Idle → core_at c (cursor_of c.screen) ≡ c
text_same c e =
    ap (λ (x : Screen). with_screen (idle c) x) (cursor_same c.screen) ∙ ap (awaiting c) (sym e)

run_same : (c : Core) (at : ℕ) → ground_of (core_at c at) ≡ ground_of c
unfolding segment_top segment_bottom with_cursor
run_same c at = refl

acts_is : {z z' : Ground} {l : List ℕ} {i : ℕ} {p : List ℕ} {at at' n k : ℕ} {w : Write} → z ≡ z' → at ≡ at' → Acts z' l i p at' n w k
    → Acts z l i p at n w k
acts_is e f a = rw (e, f) a

outside_is : {z z' : Ground} {l : List ℕ} {i : ℕ} → z ≡ z' → Outside z' l i → Outside z l i
outside_is e o = rw e o

-- ---- a run

module _ {stop : Bool} {p₀ : List ℕ} {o₀ : Ran} {input w₀ : List ℕ} {g : List ℕ} {u : Setup} {n f : ℕ} {w : List ℕ} where
  -- an act from a core d, where nothing is under way
  act : (d : Core) {p : List ℕ} {i m k : ℕ} {y : Write} → Running stop p₀ o₀ input w₀ p w d g u i n f → d.pending ≡ Pending.Idle
      → Acts (ground_of d) input i p (cursor_of d.screen) m y k → i + m ≤ length input → k < segment_end d.screen
      → Running stop p₀ o₀ input w₀ (applied (ground_width (ground_of d)) d.modes.protect y p) w (core_at d k) g u (i + m) n f
  unfolding decode_rule argument_rule idle_rule escape_rule lookup applied
  act d {p} {i} R quiet (stores {v} e s q) h k =
      let r = ready R in
      let b = get_or input i 0 in
      turn (i + 1) R refl h (λ room.
      rw (q ∙ sym (base_is b d.modes.writeprotect d.attribute)) (stores_on p d r.0 r.1.0 u.tabs room b quiet s k e))
  act d {p} {i} R quiet (inserts {v} e s q free) h k =
      let r = ready R in
      let b = get_or input i 0 in
      let same = q ∙ sym (base_is b d.modes.writeprotect d.attribute) in
      turn (i + 1) R refl h (λ room.
      rw same (inserts_on p d r.0 r.1.0 u.tabs room b quiet s k e (ap (guarded d.modes.protect) (sym same) ∙ free)))
  act d {p} {i} {k = k} R quiet (places s o) h l =
      let r = get_or input (i + 2) 0 in
      let inside = screen_inside d.screen (ready R).1.0 in
      let row = rows_below (columns_width d.screen.wide) {a = r - 0x20} {b = segment_bottom d.screen} (omega (arith, s.place, l)) in
      let escape = ap₂ (λ (x : Pending) (b : ℕ). decode_rule x b) quiet s.escape in
      let R1 = waited (i + 1) Pending.Escape R refl (omega (arith, h)) (omega (arith, s.escape)) escape in
      let equals = ap (decode_rule Pending.Escape) s.equals in
      let R2 = waited (i + 2) (Pending.Awaits Argument.Address) R1 (omega arith) (omega (arith, h)) (omega (arith, s.equals)) equals in
      let R3 = waited (i + 3) (Pending.AddressRow r) R2 (omega arith) (omega (arith, h)) (omega (arith, row, inside.most)) refl in
      let t = ready R3 in
      turn (i + 4) R3 (omega arith) h (λ room.
      places_at p (awaiting d (Pending.AddressRow r)) t.0 t.1.0 u.tabs room r (get_or input (i + 3) 0) k
      refl s.row s.column s.most s.place l o)
  act d {p} {i} {k = k} R quiet (goes s o) h l =
      let r = ready R in
      turn (i + 1) R refl h (λ room. goes_on_lem p d r.0 r.1.0 u.tabs room (get_or input i 0) k quiet s l o)
  act d {p} {i} {k = k} R quiet (rolls s) h l =
      let r = ready R in
      turn (i + 1) R refl h (λ room. rolls_on p d r.0 r.1.0 u.tabs room (get_or input i 0) k quiet s l)
  act d {p} {i} {k = k} {y = y} R quiet (edits e s) h l =
      let escape = ap₂ (λ (x : Pending) (b : ℕ). decode_rule x b) quiet e in
      let R1 = waited (i + 1) Pending.Escape R refl (omega (arith, h)) (omega (arith, e)) escape in
      let t = ready R1 in
      turn (i + 2) R1 (omega arith) h (λ room.
      edits_on p (awaiting d Pending.Escape) t.0 t.1.0 u.tabs room (get_or input (i + 1) 0) k y refl s l)

  -- an ESC = out of the segment
  outside : (d : Core) {p : List ℕ} {i : ℕ} → Running stop p₀ o₀ input w₀ p w d g u i n f → d.pending ≡ Pending.Idle → Outside (ground_of d) input i
      → i + 4 ≤ length input → stop ≡ false → Running stop p₀ o₀ input w₀ p w (core_at d (cursor_of d.screen)) g u (i + 4) n (f + 1)
  unfolding decode_rule argument_rule idle_rule escape_rule lookup
  outside d {p} {i} R quiet s h off =
      let r = get_or input (i + 2) 0 in
      let escape = ap₂ (λ (x : Pending) (b : ℕ). decode_rule x b) quiet s.escape in
      let R1 = waited (i + 1) Pending.Escape R refl (omega (arith, h)) (omega (arith, s.escape)) escape in
      let equals = ap (decode_rule Pending.Escape) s.equals in
      let R2 = waited (i + 2) (Pending.Awaits Argument.Address) R1 (omega arith) (omega (arith, h)) (omega (arith, s.equals)) equals in
      let R3 = waited (i + 3) (Pending.AddressRow r) R2 (omega arith) (omega (arith, h)) s.row refl in
      let t = ready R3 in
      barred (i + 4) R3 (omega arith) h off (λ room.
      refuses_at p (awaiting d (Pending.AddressRow r)) t.0 t.1.0 u.tabs room r (get_or input (i + 3) 0) refl s.column s.missed)

not_so : (b : Bool) → (b ≡ true → ⊥) → b ≡ false
not_so true n = absurd (n refl)
not_so false n = refl

-- a run from a core c
module _ {stop : Bool} {p₀ : List ℕ} {o₀ : Ran} {input w₀ : List ℕ} {g : List ℕ} {u : Setup} {n f : ℕ} {w : List ℕ}
    (c : Core) (quiet : c.pending ≡ Pending.Idle) {p : List ℕ} {i₀ : ℕ} (R : Running stop p₀ o₀ input w₀ p w c g u i₀ n f) where
  passes_run : {at i r : ℕ} {p' : List ℕ} → Passes (ground_of c) input (cursor_of c.screen) i₀ p at i p' r → (stop ≡ true → r ≡ 0)
      → Running stop p₀ o₀ input w₀ p' w (core_at c at) g u i n (f + r)
  passes_run none silent = rw (text_same c quiet, add-zero f) R
  passes_run (acted {at = at} {k = k} {w = y} {p = q} t a h l e) silent =
      let d = core_at c at in
      let same = run_same c at in
      let G = act d (passes_run t silent) refl (acts_is same (cursor_set c.screen at) a) h (rw (ap (λ (z : Ground). z.end) same) l) in
      let page = e ∙ ap (λ (z : Ground). applied (ground_width z) z.protect y q) (sym same) in
      rw (page, sym (text_twice c at k)) G
  passes_run (refused {at = at} {f = r} {g = k} t o h e) silent =
      let d = core_at c at in
      let off = not_so stop (λ z. omega (arith, e, silent z)) in
      let G = outside d (passes_run t (λ z. absurd (omega (arith, e, silent z)))) refl (outside_is (run_same c at) o) h off in
      let core = text_twice c at (cursor_of d.screen) ∙ ap (core_at c) (cursor_set c.screen at) in
      let count : f + k ≡ f + r + 1 = omega (arith, e) in
      rw (count, sym core) G

-- the loop after a run from the byte i₀ on: it goes on at the byte i
pub record Resumed (stop : Bool) (p₀ : List ℕ) (o₀ : Ran) (input w₀ p w : List ℕ) (c : Core) (g : List ℕ) (u : Setup) (i n f i₀ : ℕ) : Type 0 where
  pub running : Running stop p₀ o₀ input w₀ p w c g u i n f
  pub from : i₀ ≤ i
  pub left : i ≤ length input

module _ {stop : Bool} {p₀ : List ℕ} {o₀ : Ran} {input w₀ : List ℕ} {g : List ℕ} {u : Setup} {n f : ℕ} {w p : List ℕ} {c : Core} {i₀ : ℕ}
    (R : Running stop p₀ o₀ input w₀ p w c g u i₀ n f) where
  pub text_range : i₀ ≤ length input → {at i r : ℕ} {p' : List ℕ} → FastPath c input i₀ p at i p' r → Range (ground_of c) input i₀ p at i p' r
  text_range h t = by (screen_inside c.screen (ready R).1.0) t
    where
      by : Inside c.screen → {at i r : ℕ} {p' : List ℕ} → FastPath c input i₀ p at i p' r → Range (ground_of c) input i₀ p at i p' r
      by s still = record { from = omega arith; within = h; below = s.below; size = refl }
      by s (passing quiet t) = passes_range t h s.below

  arriving : {at i r : ℕ} {p' : List ℕ} → i₀ ≤ length input → FastPath c input i₀ p at i p' r → (stop ≡ true → r ≡ 0)
      → Running stop p₀ o₀ input w₀ p' w (pick (eqb i i₀) c (core_at c at)) g u i n (f + r)
  arriving h still silent = rw (eq-eqb i₀ i₀ refl, add-zero f) R
  arriving {at} {i} {r} {p'} h (passing quiet t) silent = by (eqb i i₀) refl
    where
      by : (b : Bool) → eqb i i₀ ≡ b → Running stop p₀ o₀ input w₀ p' w (pick b c (core_at c at)) g u i n (f + r)
      by true e =
          let s = passes_same t h (screen_inside c.screen (ready R).1.0).below (eqb-true i i₀ e) in
          rw (ap (core_at c) s.0 ∙ text_same c quiet) at (passes_run c quiet R t silent)
      by false e = passes_run c quiet R t silent

  -- a page's cell fits
  pub path_fits : i₀ ≤ length input → {at i r : ℕ} {p' : List ℕ} → FastPath c input i₀ p at i p' r → at < 3168
  path_fits h t =
      let s = screen_inside c.screen (ready R).1.0 in
      omega (arith, (text_range h t).below, s.placed.page, most_cells (columns_width c.screen.wide))

  -- d is the core after it
  pub resumed : {at i r : ℕ} {p' : List ℕ} {d : Core} → i₀ ≤ length input → FastPath c input i₀ p at i p' r → (stop ≡ true → r ≡ 0)
      → d ≡ pick (eqb i i₀) c (core_at c at) → Resumed stop p₀ o₀ input w₀ p' w d g u i n (f + r) i₀
  resumed h t silent e =
      let r = text_range h t in
      record { running = rw e (arriving h t silent); from = omega (arith, r.from); left = r.within }
