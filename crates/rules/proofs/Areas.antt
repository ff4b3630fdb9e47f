-- A byte changes no cell outside its command's area.
--     step_outside     of a step
-- Assumes nothing.
use mathlib.Core.Path.{◌≡◌, refl, sym, ap, subst, ◌∙◌}
use mathlib.Core.Bool.{Bool, true, false}
use mathlib.Core.Logic.{◌⊎◌, inl, inr, ⊎_elim}
use mathlib.Core.List.{List, ◌++◌}
use Prim.Native.Nat.{ℕ, zero, suc, ◌+◌, ◌-◌, ◌*◌, ◌%◌, ◌≤◌, ◌<◌}
use native.Mathlib.Omega.{arith}
use lib.Dec.{ltb, leb, eqb}
use lib.ListN.{length, get_or, take, drop, get_or-append}
use lib.Seq.{length-take-le, get_or-drop, get_or-take, get_or-append-add}
use borrow.Rule.Slice.PartMut.{mid_len}
use native.Mathlib.Nat.{not-suc-le-zero}
use borrow.Author.Tests.{ltb-true, ltb-false, leb-true, eqb-false, not-true}
use Rattle.rules.specs.declared.Screen.{Screen}
use Rattle.rules.specs.declared.Modes.{Modes}
use Rattle.rules.specs.declared.Core.{Core}
use Rattle.rules.specs.declared.State.{State}
use Rattle.rules.specs.declared.Plan.{Plan}
use Rattle.rules.specs.declared.Write.{Write}
use Rattle.rules.specs.declared.Write.TheVariants as Write
use Rattle.rules.specs.declared.Decoded.{Decoded}
use Rattle.rules.specs.declared.Decoded.TheVariants as Decoded
use Rattle.rules.specs.Cell.{space}
use Rattle.rules.specs.Row.{Width, height, columns, column_of, row_end}
use Rattle.rules.specs.Search.{guarded_at, edit_end}
use Rattle.rules.specs.Change.{within, filled, shifted, edit_shifted, rows_shifted, column_filled}
use Rattle.rules.specs.State.{width_of, page_length, idle, sends}
use Rattle.rules.specs.Possible.{good}
use Rattle.rules.specs.Theorems.Good.{GoodWrite}
use Rattle.rules.specs.Decode.{decode_rule}
use Rattle.rules.specs.Plan.{plan_rule}
use Rattle.rules.specs.Carry.{Effect, applied, plan_width, done, begun, carried}
use Rattle.rules.specs.Step.{Outcome, obeyed, inner_rule, goes_on, step_inside, step_rule}
use Rattle.rules.specs.Theorems.Areas.{Area, area_from, area_to, one_column, outside}
use Rattle.rules.specs.Theorems.Parts.{area_of}
use Rattle.rules.specs.Theorems.Frames.{changes}
use Rattle.rules.proofs.Tests.{pick_if, both_parts, either_parts}
use Rattle.rules.proofs.Rows.{by_width, columns_width, rows_le, cell_inside, row_after_lem, row_inside}
use Rattle.rules.proofs.Searching.{length_guards, first_range}
use Rattle.rules.proofs.Lengths.{length_within, length_filled, length_shifted, length_applied}
use Rattle.rules.proofs.Screens.{screen_inside}
use Rattle.rules.proofs.Commands.{Kind}
use Rattle.rules.proofs.Forms.{Sound, from, to, lane, Spans, Form, a_refusal, a_reply, a_change, a_write, formed}
use Rattle.rules.proofs.Good.{PlanKept, plan_kept}
use Rattle.rules.proofs.Kept.{PossibleCore, possible_parts, good_parts}

-- ---- of a part of a page

get_or_second : (x y : List ℕ) (i : ℕ) → length x ≤ i → get_or (x ++ y) i 0 ≡ get_or y (i - length x) 0
get_or_second x y i h =
    let e : i ≡ length x + (i - length x) = omega arith in
    ap (λ (k : ℕ). get_or (x ++ y) k 0) e ∙ get_or-append-add x y (i - length x) 0

module _ (a e : ℕ) (f : List ℕ → List ℕ) (p : List ℕ) (h : a ≤ e) (k : e ≤ length p)
    (s : length (f (take (e - a) (drop a p))) ≡ length (take (e - a) (drop a p))) where
  front : length (take a p) ≡ a
  front = length-take-le a p (omega arith)

  middle : length (f (take (e - a) (drop a p))) ≡ e - a
  middle = s ∙ mid_len a e p k

  at_front : (i : ℕ) → i < a → get_or (within a e f p) i 0 ≡ get_or p i 0
  unfolding within
  at_front i b = get_or-append (take a p) _ 0 i (rw front b) ∙ get_or-take a p i 0 b

  at_back : (i : ℕ) → e ≤ i → get_or (within a e f p) i 0 ≡ get_or p i 0
  unfolding within
  at_back i b =
      let q = f (take (e - a) (drop a p)) in
      let r = drop (e - a) (drop a p) in
      let n : a + (e - a + (i - a - (e - a))) ≡ i = omega arith in
      get_or_second (take a p) (q ++ r) i (rw front (omega arith))
      ∙ rw (
        front,
        get_or_second q r (i - a) (rw middle (omega arith)),
        middle,
        get_or-drop (e - a) (drop a p) (i - a - (e - a)) 0,
        get_or-drop a p (e - a + (i - a - (e - a))) 0,
        n,
      )

-- ---- of a write

-- a row's cells, and the row after it
column_in : {n : ℕ} → Width n → (row column : ℕ) → column < n → (row * n + column) % n ≡ column
column_in k row column c =
    by_width (λ (w : ℕ). column < w → (row * w + column) % w ≡ column) (λ h. omega arith) (λ h. omega arith) k c

row_next : {n : ℕ} → Width n → (row : ℕ) → suc row * n ≡ row * n + n
row_next k row = by_width (λ (w : ℕ). suc row * w ≡ row * w + w) (omega arith) (omega arith) k

-- a cell of another column is before a cell or behind it
apart : {n : ℕ} → Width n → (i row column : ℕ) → column < n → (i % n ≡ column → ⊥) → (i < row * n + column) ⊎ (row * n + column + 1 ≤ i)
apart {n} k i row column c ne = by (ltb i (row * n + column)) refl
  where
    other : i ≡ row * n + column → ⊥
    other e = ne (ap (λ (m : ℕ). m % n) e ∙ column_in k row column c)

    by : (t : Bool) → ltb i (row * n + column) ≡ t → (i < row * n + column) ⊎ (row * n + column + 1 ≤ i)
    by true e = inl (ltb-true i (row * n + column) e)
    by false e = let u = other in inr (omega (arith, ltb-false i (row * n + column) e))

-- i is before f, or from t on, or not in the column o
abbrev Beyond : ℕ → ℕ → ℕ → ℕ → ℕ → Type 0
Beyond n f t o i = (i < f) ⊎ ((t ≤ i) ⊎ ((0 < o) × (i % n + 1 ≡ o → ⊥)))

module _ {n : ℕ} (k : Width n) (on : Bool) (f t o i : ℕ) (b : Beyond n f t o i) where
  part_outside : (a e : ℕ) (h : List ℕ → List ℕ) → ((l : List ℕ) → length (h l) ≡ length l) → (p : List ℕ)
      → a ≤ e → e ≤ length p → (i < a) ⊎ (e ≤ i) → get_or (within a e h p) i 0 ≡ get_or p i 0
  part_outside a e h s p m l d = ⊎_elim (λ x. at_front a e h p m l (s _) i x) (λ x. at_back a e h p m l (s _) i x) d

  -- of a stretch between f and t
  whole : (a e : ℕ) → f ≤ a → e ≤ t → o ≡ 0 → (i < a) ⊎ (e ≤ i)
  whole a e x y z = ⊎_elim (λ d. inl (omega arith)) (λ u. ⊎_elim (λ d. inr (omega arith)) (λ d. absurd (not-suc-le-zero (rw z at d.0))) u) b

  column_outside : (v column rows row : ℕ) (p : List ℕ) → column < n → o ≡ column + 1 → f ≤ row * n + column → (row + rows) * n + column + 1 ≤ t + n
      → (row + rows) * n ≤ length p → get_or (column_filled n on v column rows row p) i 0 ≡ get_or p i 0
  unfolding column_filled
  column_outside v column zero row p c z x d l = refl
  column_outside v column (suc m) row p c z x d l =
      let q = within (row * n + column) (row * n + column + 1) (filled on v) p in
      let u = cell_inside k {row = row} {column = column} {bottom = row + suc m} (omega arith) c in
      let y = rows_le k {a = suc row + m} {b = row + suc m} (omega arith) in
      let g = rows_le k {a = suc row} {b = row + suc m} (omega arith) in
      let r = row_next k row in
      let w = length_within (row * n + column) (row * n + column + 1) (filled on v) (length_filled on v) p in
      column_outside v column m (suc row) q c z (omega arith) (omega arith) (omega arith)
      ∙ part_outside (row * n + column) (row * n + column + 1) (filled on v) (length_filled on v) p (omega arith) (omega arith)
      (⊎_elim (λ h. inl (omega arith)) (λ h. ⊎_elim (λ h. inr (omega arith)) (λ h. apart k i row column c (λ e. h.1 (omega arith))) h) b)

  applied_outside : (w : Write) (p : List ℕ) → length p ≡ height * n → GoodWrite n w → Spans f t o n w → get_or (applied n on w p) i 0 ≡ get_or p i 0
  unfolding applied edit_shifted rows_shifted
  applied_outside Write.Nothing p l g r = refl
  applied_outside (Write.Fill a e v) p l g r = part_outside a e (filled on v) (length_filled on v) p g.0 (omega arith)
      (whole a e r.0 r.1.0 r.1.1)
  applied_outside (Write.FillAll a e v) p l g r =
      part_outside a e (filled false v) (length_filled false v) p g.0 (omega arith) (whole a e r.0 r.1.0 r.1.1)
  applied_outside (Write.Column top bottom c v) p l g r =
      let e : top + (bottom - top) ≡ bottom = omega arith in
      let z = rows_le k {a = bottom} {b = height} g.1.0 in
      column_outside v c (bottom - top) top p g.1.1 r.1.1 r.0 (rw e r.1.0) (rw e (omega arith))
  applied_outside (Write.Edit right at v) p l g r =
      let y = row_inside k at g in
      let x = first_range (guarded_at on p) at (row_end n at) (omega (arith, row_after_lem k at)) (omega (arith, length_guards on p)) in
      part_outside at (edit_end n (guarded_at on p) at) (shifted right 1 v) (length_shifted right 1 v) p x.0 (omega arith)
      (whole at (edit_end n (guarded_at on p) at) r.0 (omega arith) r.1.1)
  applied_outside (Write.Rows down top bottom) p l g r =
      let z = rows_le k {a = bottom} {b = height} g.1 in
      part_outside (top * n) (bottom * n) (shifted down n space) (length_shifted down n space) p (rows_le k g.0) (omega arith)
      (whole (top * n) (bottom * n) r.0 r.1.0 r.1.1)

-- ---- of a plan

record PlanSpans (f t o : ℕ) (x : Plan) : Type 0 where
  first : Spans f t o (plan_width x) x.first
  second : Spans f t o (plan_width x) x.second

of_form : {k : Kind} {g : List Bool} {c : Core} {x : Plan} → Sound g c → Form k g c x → PlanSpans (from k c) (to k c) (lane k c) x
of_form s (a_refusal a e) = record { first = tt; second = tt }
of_form s (a_reply y e n r i) = record { first = tt; second = tt }
of_form s (a_change y e f i) = record { first = tt; second = tt }
of_form s (a_write h a b o e i) = record { first = a.spans s; second = b.spans s }

module _ (p : List ℕ) (c : Core) (n : length p ≡ page_length c.screen) (g : List ℕ) (h : PossibleCore c g) (room i : ℕ) where
  carried_outside : (f t o : ℕ) → Beyond (width_of c.screen) f t o i → {z : Bool} (x : Plan) → PlanKept z (idle c) x → PlanSpans f t o x
      → get_or (carried p c x room).page i 0 ≡ get_or p i 0
  unfolding carried begun done
  carried_outside f t o b x k r =
      pick_if (λ (e : Effect). get_or e.page i 0 ≡ get_or p i 0) (sends x.reply)
      (λ d. pick_if (λ (e : Effect). get_or e.page i 0 ≡ get_or p i 0) (eqb room 0) (λ e. refl) (λ e. refl))
      (λ d.
      let w = columns_width x.next.screen.wide in
      let on = c.modes.protect in
      let u = subst (λ (m : Bool). Beyond (columns m) f t o i) (sym k.wide) b in
      applied_outside w on f t o i u x.second (applied (plan_width x) on x.first p)
      (length_applied (plan_width x) on x.first p ∙ size) k.good.two r.second
      ∙ applied_outside w on f t o i u x.first p size k.good.one r.first)
    where
      size : length p ≡ height * plan_width x
      size = n ∙ ap (λ (b : Bool). height * columns b) (sym k.wide)

  obeyed_outside : (tabs : List Bool) (d : Decoded)
      → (let a = area_of (changes d) in Beyond (width_of c.screen) (area_from a c.screen c.modes) (area_to a c.screen c.modes)
      (one_column a c.screen) i)
      → get_or (obeyed p c tabs d room).page i 0 ≡ get_or p i 0
  unfolding obeyed
  obeyed_outside tabs (Decoded.Wait q) o = refl
  obeyed_outside tabs (Decoded.Gather x m b) o = refl
  obeyed_outside tabs (Decoded.Take x m) o = refl
  obeyed_outside tabs (Decoded.Reject a) o = refl
  obeyed_outside tabs (Decoded.Do d) o =
      let l = length_guards c.modes.protect p ∙ n in
      carried_outside _ _ _ o _ (plan_kept (idle c) h.screen (guarded_at c.modes.protect p) l tabs d)
      (of_form (record { ok = h.screen; inside = screen_inside c.screen h.screen; size = l })
      (formed (guarded_at c.modes.protect p) (idle c) tabs d))

-- ---- of a step

beyond : (a : Area) (x : Screen) (m : Modes) (i : ℕ) → outside a x m i ≡ true
    → Beyond (width_of x) (area_from a x m) (area_to a x m) (one_column a x) i
beyond a x m i h =
    ⊎_elim (λ e. inl (ltb-true i (area_from a x m) e))
    (λ e. inr (⊎_elim (λ u. inl (leb-true (area_to a x m) i u))
    (λ u.
    let r = both_parts (ltb 0 (one_column a x)) _ u in
    inr (ltb-true 0 (one_column a x) r.0, eqb-false (column_of (width_of x) i + 1) (one_column a x) (not-true _ r.1)))
    (either_parts (leb (area_to a x m) i) _ e)))
    (either_parts (ltb i (area_from a x m)) _ h)

pub step_outside : (p : List ℕ) (s : State) (b room i : ℕ)
    → outside (area_of (changes (decode_rule s.core.pending b))) s.core.screen s.core.modes i ≡ true
    → get_or (step_rule p s b room).page i 0 ≡ get_or p i 0
unfolding step_rule step_inside goes_on inner_rule
step_outside p s b room i h =
    pick_if (λ (o : Outcome). get_or o.page i 0 ≡ get_or p i 0) (good p s)
    (λ e. pick_if (λ (o : Outcome). get_or o.page i 0 ≡ get_or p i 0) (sends s.sending)
    (λ u. pick_if (λ (o : Outcome). get_or o.page i 0 ≡ get_or p i 0) (eqb room 0) (λ z. refl) (λ z. refl))
    (λ u.
    let r = good_parts p s e in
    let w = possible_parts s r.1 in
    let d = decode_rule s.core.pending b in
    pick_if (λ (q : Effect). get_or q.page i 0 ≡ get_or p i 0) (ltb b 128)
    (λ z. obeyed_outside p s.core r.0 s.gathered w.core room i s.setup.tabs d
    (beyond (area_of (changes d)) s.core.screen s.core.modes i h)) (λ z. refl)))
    (λ e. refl)
