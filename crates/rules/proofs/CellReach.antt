-- A number is writable exactly if calls from power-on leave it in some cell.
--     cell_reach
-- Assumes nothing.
use mathlib.Core.Path.{◌≡◌, refl, sym, ap, subst, ◌∙◌}
use mathlib.Core.Bool.{Bool, true, false}
use mathlib.Core.List.{List, [], ◌∷◌, ◌++◌}
use Prim.Native.Nat.{ℕ, zero, suc, ◌+◌, ◌-◌, ◌*◌, ◌/◌, ◌%◌, ◌<◌}
use native.Mathlib.Nat.{sub-zero}
use native.Mathlib.Omega.{arith}
use lib.Dec.{eqb, ltb, lit<}
use lib.ListN.{length, get_or}
use borrow.Author.Tests.{eqb-true, ltb-true, lt-ltb, le-ltb, eq-eqb, ne_eqb}
use Rattle.rules.specs.declared.State.{State}
use Rattle.rules.specs.declared.Core.{Core}
use Rattle.rules.specs.declared.Personality.{Personality}
use Rattle.rules.specs.declared.Personality.TheVariants as Personality
use Rattle.rules.specs.declared.Pending.{Pending}
use Rattle.rules.specs.declared.Pending.TheVariants as Pending
use Rattle.rules.specs.declared.Argument.TheVariants as Argument
use Rattle.rules.specs.declared.Contents.{Contents}
use Rattle.rules.specs.declared.Contents.TheVariants as Contents
use Rattle.rules.specs.declared.Clear.TheVariants as Clear
use Rattle.rules.specs.declared.Decoded.{Decoded}
use Rattle.rules.specs.declared.Decoded.TheVariants as Decoded
use Rattle.rules.specs.Cell.{pick, both, between, code, protected, kind, attribute, cell, written}
use Rattle.rules.specs.Row.{height, columns, row_of, column_of}
use Rattle.rules.specs.Search.{which_cells, guarded_at}
use Rattle.rules.specs.Change.{within, filled}
use Rattle.rules.specs.State.{segment_top, segment_bottom, cursor_of, with_modes, with_attribute, with_mode, awaiting, changed, sends, sending_after}
use Rattle.rules.specs.State.{gathered_after, setup_after}
use Rattle.rules.specs.Arguments.{is_flags, is_attribute, attribute_contents, attribute_of, feature_place}
use Rattle.rules.specs.Slot.{all_text, text_ok, texts_ok}
use Rattle.rules.specs.Possible.{power_on, blank, unsplit_ok, screen_ok, attributes_ok, features_ok, no_stops, pending_ok, remembered_ok, sending_ok}
use Rattle.rules.specs.Possible.{core_ok, setup_ok, possible, good}
use Rattle.rules.specs.Decode.{lookup, idle_rule, escape_rule, judged, argument_rule, decode_rule}
use Rattle.rules.specs.Plan.{unless_guarded, storing, advancing, store_plan, takes_cell, attribute_plan, clear_plan, plan_rule}
use Rattle.rules.specs.Carry.{applied, landed, done, carried}
use Rattle.rules.specs.Step.{Outcome, obeyed, inner_rule, step_rule}
use Rattle.rules.specs.Calls.{power_on_rule, joined, repeated, run_rule, Call, call_rule, after, play}
use Rattle.rules.specs.Convert.{tabulated, cell_for, other_width, converted, loses, state_on, Turned, convert_rule}
use Rattle.rules.specs.Theorems.Reach.{attribute_bytes}
use Rattle.rules.specs.Writable.{writable, AllWritable, none, more}
use Rattle.rules.specs.Theorems.CellReach.{protect_bytes, remember_bytes, lead_bytes, cell_bytes, Reached, powered, called, turned, CellReach}
use Rattle.rules.proofs.Tests.{pick_if, both_parts, between_parts}
use Rattle.rules.proofs.ExcludedBytes.{values, below}
use Rattle.rules.proofs.Kept.{power_on_good_lem, call_good, call_keeps}
use Rattle.rules.proofs.Convert.{conversion}
use Rattle.rules.proofs.RowSteps.{equal_results}
use Rattle.rules.proofs.Numbers.{bit, normal_remembered, null_ok, flags_code, Kinds, is_null, is_text_lem, is_graphic, is_free, is_protected}
use Rattle.rules.proofs.Numbers.{kinds}
use Rattle.rules.proofs.PageNumbers.{each_replicate, call_numbers, powered_numbers}

-- ---- the bytes of a number

-- power-on with write-protect mode, a remembered attribute and a sequence under way
abbrev core : Personality → Bool → ℕ → Pending → Core
core m p a q = awaiting
    (with_attribute (with_modes (power_on m).core
    (record { protect = false; writeprotect = p; insert = false; autoscroll = true; locked = false; local = false })) a) q

abbrev ready : Personality → Bool → ℕ → Pending → State
ready m p a q = record { core = core m p a q; sending = (power_on m).sending; gathered = (power_on m).gathered; setup = (power_on m).setup }

good_ready : (m : Personality) (p : Bool) (a : ℕ) (q : Pending) → remembered_ok m a ≡ true → pending_ok q (power_on m).gathered ≡ true
    → good blank (ready m p a q) ≡ true
unfolding good possible core_ok setup_ok blank power_on columns no_stops screen_ok unsplit_ok texts_ok text_ok all_text attributes_ok is_attribute features_ok
    feature_place sending_ok
good_ready m p a q h e = rw (h, e)

-- a byte that is taken, on a blank page that it leaves
abbrev quietly : State → Outcome
quietly s = record { answer = 0; taken = true; state = s; page = blank; reply = [] }

quiet_byte : (b : ℕ) (bs : List ℕ) (s t : State) → sends s.sending ≡ false → step_rule blank s b 1944 ≡ quietly t
    → (repeated (b ∷ bs) blank s 1944).page ≡ (repeated bs blank t 1944).page
unfolding repeated joined
quiet_byte b bs s t u e = rw (u, e, sub-zero)

module _ (m : Personality) (p : Bool) (a : ℕ) (h : remembered_ok m a ≡ true) where
  waits : (b : ℕ) (bs : List ℕ) (q r : Pending) → b < 128 → pending_ok q (power_on m).gathered ≡ true → decode_rule q b ≡ Decoded.Wait r
      → (repeated (b ∷ bs) blank (ready m p a q) 1944).page ≡ (repeated bs blank (ready m p a r) 1944).page
  unfolding step_rule inner_rule obeyed sending_after gathered_after setup_after changed power_on
  waits b bs q r l k e =
      let j : step_rule blank (ready m p a q) b 1944 ≡ quietly (ready m p a r) = rw (good_ready m p a q h k, lt-ltb b 128 l, e) in
      quiet_byte b bs (ready m p a q) (ready m p a r) refl j

  -- ESC and the byte that a command waits after
  escapes : (b : ℕ) (bs : List ℕ) (r : Pending) → b < 128 → escape_rule b ≡ Decoded.Wait r
      → (repeated (0x1b ∷ b ∷ bs) blank (ready m p a Pending.Idle) 1944).page ≡ (repeated bs blank (ready m p a r) 1944).page
  unfolding decode_rule idle_rule lookup pending_ok
  escapes b bs r l e = waits 0x1b (b ∷ bs) Pending.Idle Pending.Escape (lit< tt) refl refl ∙ waits b bs Pending.Escape r l refl e

  -- the last byte: a command that writes the first cell
  writes : (b v : ℕ) (q : Pending) → b < 128 → pending_ok q (power_on m).gathered ≡ true
      → get_or (obeyed blank (core m p a q) (power_on m).setup.tabs (decode_rule q b) 1944).page 0 0 ≡ v
      → eqb (obeyed blank (core m p a q) (power_on m).setup.tabs (decode_rule q b) 1944).answer 6 ≡ false
      → get_or (repeated (b ∷ []) blank (ready m p a q) 1944).page 0 0 ≡ v
  unfolding repeated joined step_rule inner_rule power_on
  writes b v q l k e n = rw (good_ready m p a q h k, lt-ltb b 128 l, n) e

  -- a store, and a clearing of the whole page
  store_writes : (k : Contents) (q : Pending) (n : ℕ)
      → get_or (carried blank (core m p a q) (store_plan (guarded_at false blank) (core m p a Pending.Idle) k n) 1944).page 0 0 ≡ written k p n
  unfolding carried done applied within filled store_plan unless_guarded advancing storing which_cells cursor_of segment_top segment_bottom columns power_on blank
  store_writes k q n = refl

  store_answers : (k : Contents) (q : Pending) (n : ℕ)
      → eqb (carried blank (core m p a q) (store_plan (guarded_at false blank) (core m p a Pending.Idle) k n) 1944).answer 6 ≡ false
  unfolding carried done store_plan unless_guarded advancing which_cells cursor_of segment_top segment_bottom columns power_on blank
  store_answers k q n = refl

  clear_writes : (k : Contents) (q : Pending)
      → get_or (carried blank (core m p a q) (clear_plan (core m p a Pending.Idle) (Clear.Segment k)) 1944).page 0 0 ≡ written k false 0
  unfolding carried done applied within filled clear_plan segment_top segment_bottom columns power_on blank
  clear_writes k q = refl

  clear_answers : (k : Contents) (q : Pending)
      → eqb (carried blank (core m p a q) (clear_plan (core m p a Pending.Idle) (Clear.Segment k)) 1944).answer 6 ≡ false
  unfolding carried done clear_plan power_on
  clear_answers k q = refl

  text_left : (c : ℕ) → between 0x20 0x7e c ≡ true
      → get_or (repeated (c ∷ []) blank (ready m p a Pending.Idle) 1944).page 0 0 ≡ written (Contents.Text c) p a
  unfolding obeyed plan_rule pending_ok decode_rule idle_rule
  text_left c e =
      let r = between_parts 0x20 0x7e c e in
      let u = le-ltb c 0x20 r.0 in
      let v = lt-ltb c 0x7f r.1 in
      writes c _ Pending.Idle (omega arith) refl (rw (u, v) (store_writes (Contents.Text c) Pending.Idle a))
      (rw (u, v) (store_answers (Contents.Text c) Pending.Idle a))

  graphic_left : (c : ℕ) → between 0x30 0x3f c ≡ true
      → get_or (repeated (c ∷ []) blank (ready m p a (Pending.Awaits Argument.Graphic)) 1944).page 0 0 ≡ written (Contents.Graphic c) p a
  unfolding obeyed plan_rule pending_ok decode_rule argument_rule judged
  graphic_left c e =
      let r = between_parts 0x30 0x3f c e in
      let q = Pending.Awaits Argument.Graphic in
      writes c _ q (omega arith) refl (rw e (store_writes (Contents.Graphic c) q a)) (rw e (store_answers (Contents.Graphic c) q a))

-- ESC ! leaves attribute cells, and in WY-50 ESC G one as write-protect mode says
free_left : (m : Personality) (c : ℕ) → is_flags c ≡ true
    → get_or (repeated (c ∷ []) blank (ready m false 0 (Pending.Awaits Argument.FillAttribute)) 1944).page 0 0 ≡ written (Contents.Attribute c) false 0
unfolding obeyed plan_rule pending_ok decode_rule argument_rule judged is_attribute attribute_contents
free_left m c e =
    let r = flags_code c e in
    let q = Pending.Awaits Argument.FillAttribute in
    writes m false 0 (normal_remembered m) c _ q r.0 refl (rw (r.1, e) (clear_writes m false 0 (normal_remembered m) (Contents.Attribute c) q))
    (rw (r.1, e) (clear_answers m false 0 (normal_remembered m) (Contents.Attribute c) q))

protected_left : (p : Bool) (c : ℕ) → is_flags c ≡ true
    → get_or (repeated (c ∷ []) blank (ready Personality.Wy50 p 0 (Pending.Awaits Argument.Attribute)) 1944).page 0 0
    ≡ written (Contents.Attribute c) p 0
unfolding obeyed plan_rule pending_ok decode_rule argument_rule judged is_attribute attribute_contents attribute_plan takes_cell power_on
protected_left p c e =
    let r = flags_code c e in
    let q = Pending.Awaits Argument.Attribute in
    let n = normal_remembered Personality.Wy50 in
    writes Personality.Wy50 p 0 n c _ q r.0 refl (rw (r.1, e, r.1) (store_writes Personality.Wy50 p 0 n (Contents.Attribute c) q 0))
    (rw (r.1, e, r.1) (store_answers Personality.Wy50 p 0 n (Contents.Attribute c) q 0))

-- ---- what comes before: write-protect mode, and the attribute

protects : (m : Personality) (a : ℕ) → remembered_ok m a ≡ true → (bs : List ℕ)
    → (repeated (0x1b ∷ 0x29 ∷ bs) blank (ready m false a Pending.Idle) 1944).page ≡ (repeated bs blank (ready m true a Pending.Idle) 1944).page
unfolding step_rule inner_rule obeyed sending_after gathered_after setup_after changed power_on decode_rule idle_rule escape_rule lookup plan_rule with_mode carried done landed applied
    pending_ok
protects m a h bs =
    let j : step_rule blank (ready m false a Pending.Escape) 0x29 1944 ≡ quietly (ready m true a Pending.Idle) =
    rw (good_ready m false a Pending.Escape h refl) in
    waits m false a h 0x1b (0x29 ∷ bs) Pending.Idle Pending.Escape (lit< tt) refl refl
    ∙ quiet_byte 0x29 bs (ready m false a Pending.Escape) (ready m true a Pending.Idle) refl j

-- ESC G and a code of flags, in WY-60
remembers : (p : Bool) (c : ℕ) → is_flags c ≡ true → (bs : List ℕ)
    → (repeated (0x1b ∷ 0x47 ∷ c ∷ bs) blank (ready Personality.Wy60 p 0 Pending.Idle) 1944).page
    ≡ (repeated bs blank (ready Personality.Wy60 p (attribute_of c) Pending.Idle) 1944).page
unfolding step_rule inner_rule obeyed sending_after gathered_after setup_after changed power_on decode_rule argument_rule judged escape_rule lookup plan_rule attribute_plan takes_cell is_attribute
    carried done landed applied pending_ok
remembers p c e bs =
    let r = flags_code c e in
    let n = normal_remembered Personality.Wy60 in
    let q = Pending.Awaits Argument.Attribute in
    let j : step_rule blank (ready Personality.Wy60 p 0 q) c 1944 ≡ quietly (ready Personality.Wy60 p (attribute_of c) Pending.Idle) =
    rw (good_ready Personality.Wy60 p 0 q n refl, lt-ltb c 128 r.0, r.1, e, r.1) in
    escapes Personality.Wy60 p 0 n 0x47 (c ∷ bs) q (lit< tt) refl
    ∙ quiet_byte c bs (ready Personality.Wy60 p 0 q) (ready Personality.Wy60 p (attribute_of c) Pending.Idle) refl j

-- the code of an attribute
abbrev code_of : ℕ → ℕ
code_of a = pick (ltb a 16) (0x30 + a) (0x60 + a)

codes : values 31 (λ a. both (is_flags (code_of a)) (eqb (attribute_of (code_of a)) a)) ≡ values 31 (λ a. true)
unfolding attribute_of
codes = refl

remembered : (m : Personality) (p : Bool) (a : ℕ) → remembered_ok m a ≡ true → (bs : List ℕ)
    → (repeated (remember_bytes a ++ bs) blank (ready m p 0 Pending.Idle) 1944).page ≡ (repeated bs blank (ready m p a Pending.Idle) 1944).page
unfolding remember_bytes attribute_bytes remembered_ok
remembered Personality.Wy50 p a h bs = let z = eqb-true a 0 h in rw z
remembered Personality.Wy60 p a h bs =
    pick_if (λ (l : List ℕ). (repeated (l ++ bs) blank (ready Personality.Wy60 p 0 Pending.Idle) 1944).page
    ≡ (repeated bs blank (ready Personality.Wy60 p a Pending.Idle) 1944).page)
    (eqb a 0) (λ e. let z = eqb-true a 0 e in rw z)
    (λ e.
    let t = both_parts (is_flags (code_of a)) _
    (below 31 (λ a. both (is_flags (code_of a)) (eqb (attribute_of (code_of a)) a)) (λ a. true) codes a (ltb-true a 31 h)) in
    remembers p (code_of a) t.0 bs
    ∙ ap (λ (n : ℕ). (repeated bs blank (ready Personality.Wy60 p n Pending.Idle) 1944).page) (eqb-true (attribute_of (code_of a)) a t.1))

prepared : (m : Personality) (p : Bool) (a : ℕ) → remembered_ok m a ≡ true → (bs : List ℕ)
    → (repeated (protect_bytes p ++ (remember_bytes a ++ bs)) blank (power_on m) 1944).page ≡ (repeated bs blank (ready m p a Pending.Idle) 1944).page
unfolding protect_bytes power_on
prepared m true a h bs = protects m 0 (normal_remembered m) (remember_bytes a ++ bs) ∙ remembered m true a h bs
prepared m false a h bs = remembered m false a h bs

-- ---- the number

-- a number is that of its parts
whole : (v k : ℕ) → v < 32768 → v / 256 % 4 ≡ k → cell (code v) (protected v) k (attribute v) ≡ v
whole v k l e =
    let b : v / 256 ≡ v / 128 / 2 = omega arith in
    let a : v / 1024 ≡ v / 128 / 2 / 4 = omega arith in
    let s : v / 1024 % 32 ≡ v / 128 / 2 / 4 = omega arith in
    rw (bit (v / 128) 128, s, ← e, b) (omega arith)

-- the bytes are the run's
run_bytes : (m : Personality) (bytes : List ℕ) → (run_rule blank (power_on m) bytes 1944).page ≡ (repeated bytes blank (power_on m) 1944).page
unfolding run_rule power_on pending_ok
run_bytes m bytes = rw (good_ready m false 0 Pending.Idle (normal_remembered m) refl)

-- a number that is not 0: what stands before its code comes to the state s, over which the code leaves the number
left_by_lem : (m : Personality) (v : ℕ) (s : State) → (v ≡ 0 → ⊥) → remembered_ok m (attribute v) ≡ true
    → (repeated (lead_bytes (kind v) (protected v) ++ code v ∷ []) blank (ready m (protected v) (attribute v) Pending.Idle) 1944).page
    ≡ (repeated (code v ∷ []) blank s 1944).page
    → get_or (repeated (code v ∷ []) blank s 1944).page 0 0 ≡ v → get_or (run_rule blank (power_on m) (cell_bytes v) 1944).page 0 0 ≡ v
unfolding cell_bytes
left_by_lem m v s n h e f =
    let j : (run_rule blank (power_on m) (cell_bytes v) 1944).page ≡ (repeated (code v ∷ []) blank s 1944).page =
    rw (ne_eqb v 0 n) (run_bytes m _ ∙ prepared m (protected v) (attribute v) h _ ∙ e) in
    ap (λ (p : List ℕ). get_or p 0 0) j ∙ f

-- the kinds
kind_0 : (v : ℕ) → v / 256 % 4 ≡ 0 → kind v ≡ 0
kind_0 v e = rw e

kind_2 : (v : ℕ) → v / 256 % 4 ≡ 2 → kind v ≡ 2
kind_2 v e = rw e

kind_1 : (v : ℕ) → v / 256 ≡ 1 → kind v ≡ 1
kind_1 v e = rw e

free : (m : Personality) (v : ℕ) → v / 128 ≡ 2 → is_flags (code v) ≡ true → get_or (run_rule blank (power_on m) (cell_bytes v) 1944).page 0 0 ≡ v
unfolding lead_bytes escape_rule lookup
free m v k c =
    let p : protected v ≡ false = ne_eqb (v / 128 % 2) 1 (omega arith) in
    let a : attribute v ≡ 0 = omega arith in
    let n = normal_remembered m in
    let q = Pending.Awaits Argument.FillAttribute in
    let d : v % 128 + 0 + 256 * 1 + 1024 * 0 ≡ v = omega arith in
    left_by_lem m v (ready m false 0 q) (λ z. omega arith) (rw a n)
    (rw (kind_1 v (omega arith), p, a) (escapes m false 0 n 0x21 (code v ∷ []) q (lit< tt) refl)) (free_left m (code v) c ∙ d)

protected_attribute : (v : ℕ) → v / 128 ≡ 3 → is_flags (code v) ≡ true
    → get_or (run_rule blank (power_on Personality.Wy50) (cell_bytes v) 1944).page 0 0 ≡ v
unfolding lead_bytes escape_rule lookup
protected_attribute v k c =
    let p : protected v ≡ true = eq-eqb (v / 128 % 2) 1 (omega arith) in
    let a : attribute v ≡ 0 = omega arith in
    let n = normal_remembered Personality.Wy50 in
    let q = Pending.Awaits Argument.Attribute in
    let d : v % 128 + 128 + 256 * 1 + 1024 * 0 ≡ v = omega arith in
    left_by_lem Personality.Wy50 v (ready Personality.Wy50 true 0 q) (λ z. omega arith) (rw a n)
    (rw (kind_1 v (omega arith), p, a) (escapes Personality.Wy50 true 0 n 0x47 (code v ∷ []) q (lit< tt) refl)) (protected_left true (code v) c ∙ d)

by_kind : (m : Personality) (v : ℕ) → Kinds m v → get_or (run_rule blank (power_on m) (cell_bytes v) 1944).page 0 0 ≡ v
unfolding lead_bytes escape_rule lookup cell_bytes repeated blank
by_kind m v (is_null e) = rw e (ap (λ (p : List ℕ). get_or p 0 0) (run_bytes m []))
by_kind m v (is_text_lem l h k c) =
    let r = between_parts 0x20 0x7e (code v) c in
    left_by_lem m v (ready m (protected v) (attribute v) Pending.Idle) (λ z. omega arith) h (rw (kind_0 v k))
    (text_left m (protected v) (attribute v) h (code v) c ∙ whole v 0 l k)
by_kind m v (is_graphic l h k c) =
    left_by_lem m v (ready m (protected v) (attribute v) (Pending.Awaits Argument.Graphic)) (λ z. omega arith) h
    (rw (kind_2 v k) (escapes m (protected v) (attribute v) h 0x48 (code v ∷ []) (Pending.Awaits Argument.Graphic) (lit< tt) refl))
    (graphic_left m (protected v) (attribute v) h (code v) c ∙ whole v 2 l k)
by_kind m v (is_free k c) = free m v k c
by_kind m v (is_protected e k c) =
    subst (λ (m : Personality). get_or (run_rule blank (power_on m) (cell_bytes v) 1944).page 0 0 ≡ v) (sym e) (protected_attribute v k c)

-- ---- and no other

module _ {m : Personality} where
  each_listed : (f : ℕ → ℕ) → ((i : ℕ) → writable m (f i) ≡ true) → (i n : ℕ) → AllWritable m (tabulated f i n)
  unfolding tabulated
  each_listed f h i zero = none
  each_listed f h i (suc n) = more (h i) (each_listed f h (suc i) n)

  each_at : {p : List ℕ} → AllWritable m p → (i : ℕ) → writable m (get_or p i 0) ≡ true
  each_at none i = null_ok m
  each_at (more e h) zero = e
  each_at (more e h) (suc i) = each_at h i

  cell_for_lem : (v w : ℕ) {p : List ℕ} → AllWritable m p → (i : ℕ) → writable m (cell_for v w p i) ≡ true
  unfolding cell_for
  cell_for_lem v w {p} h i =
      pick_if (λ (x : ℕ). writable m x ≡ true) (ltb (column_of w i) v) (λ e. each_at h (row_of w i * v + column_of w i)) (λ e. null_ok m)

  each_converted : (wide : Bool) {p : List ℕ} → AllWritable m p → AllWritable m (converted wide p)
  unfolding converted
  each_converted wide {p} h = each_listed (cell_for (columns wide) (other_width wide) p) (cell_for_lem (columns wide) (other_width wide) h) 0
      (height * other_width wide)

-- a conversion that is done
record Turns (m : Personality) (r : Turned) : Type 0 where
  personality : r.state.core.personality ≡ m
  page : AllWritable m r.target

converted_turns : (m : Personality) (p : List ℕ) (s : State) (t : List ℕ) → s.core.personality ≡ m → AllWritable m p
    → (convert_rule p s t).answer ≡ 0 → Turns m (convert_rule p s t)
unfolding convert_rule state_on landed
converted_turns m p s t e h =
    pick_if P (both (good p s) (eqb (length t) (height * other_width s.core.screen.wide)))
    (λ g. pick_if P (sends s.sending) (λ u z. absurd (omega (arith, z)))
    (λ u. pick_if P (loses (columns s.core.screen.wide) (other_width s.core.screen.wide) 0 p) (λ k z. absurd (omega (arith, z)))
    (λ k z. record { personality = e; page = each_converted s.core.screen.wide h })))
    (λ g z. absurd (omega (arith, z)))
  where
    P : Turned → Type 0
    P r = r.answer ≡ 0 → Turns m r

record Has (m : Personality) (p : List ℕ) (s : State) : Type 0 where
  personality : s.core.personality ≡ m
  page : AllWritable m p

reached_has : {m : Personality} {p : List ℕ} {s : State} → Reached m p s → Has m p s
unfolding power_on blank
reached_has {m} powered = record { personality = refl; page = each_replicate 1920 0 (null_ok m) }
reached_has {m} (called {p} {s} x c) =
    let k = reached_has x in record {
      personality = (call_keeps p s c).personality ∙ k.personality;
      page = subst (λ (n : Personality). AllWritable n (call_rule p s c).page) k.personality
          (call_numbers p s c (subst (λ (n : Personality). AllWritable n p) (sym k.personality) k.page));
    }
reached_has {m} (turned {p} {s} x t e) =
    let k = reached_has x in
    let r = converted_turns m p s t k.personality k.page e in
    record { personality = r.personality; page = r.page }

reached_good : {m : Personality} {p : List ℕ} {s : State} → Reached m p s → good p s ≡ true
unfolding power_on_rule blank
reached_good {m} powered = power_on_good_lem m blank refl
reached_good (called {p} {s} x c) = call_good p s c (reached_good x)
reached_good (turned {p} {s} x t e) = (conversion.stays_good p s t e).0

played : (m : Personality) (calls : List Call) (p : List ℕ) (s : State) → Reached m p s → Reached m (play calls p s).page (play calls p s).state
unfolding play after
played m [] p s x = x
played m (c ∷ calls) p s x = played m calls (call_rule p s c).page (call_rule p s c).given.state (called x c)

pub cell_reach : CellReach
cell_reach = record {
  writable_left = λ m v e. by_kind m v (kinds m v e);
  left_writable = λ m p s x. (reached_has x).page;
  left_good = λ m p s x. reached_good x;
  played = λ m p s calls x. played m calls p s x;
  rows_writable = λ m l calls. rw (equal_results.page calls _) (powered_numbers m _);
}
