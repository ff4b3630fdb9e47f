-- The proposer's bytes paint the second page over the first, from power-on.
--     Fed, fed_leads     bytes that lead from a page and a state to others; the judge of bytes takes them
--     address_fed, attribute_fed, cell_fed     ESC = to a cell; a cell, with ESC G before it or not
--     differing_paints   the spans' bytes
--     by_last, differing_last     pages that end in equal cells
--     painted            the judge of bytes accepts them
-- Assumes nothing.
use Rattle.std.specs.Prelude.{◌≡◌, ℕ, suc, ◌+◌, ◌-◌, ◌*◌, ◌%◌, ◌<◌, ◌≤◌, Bool, true, false, not, eqb, ltb, leb, ◌⊎◌, List, [], ◌∷◌, ◌++◌, length, get_or, take, drop, set, replicate}
use mathlib.Core.Path.{refl, sym, ap, subst, ◌∙◌}
use mathlib.Core.Bool.{false≢true}
use mathlib.Core.List.{append_assoc}
use mathlib.Core.Logic.{inl, inr}
use native.Mathlib.Omega.{arith}
use lib.Dec.{lit<}
use lib.Seq.{append_snoc, set_at, set_split, split_at, drop-cons, length-take-le}
use lib.ListN.{length-append, length-set, drop_of_length-le}
use borrow.Author.Tests.{lt-ltb, le-ltb, le-leb, leb-true, ltb-true, ltb-false, eqb-true, eqb-false, eq-eqb, ne_eqb}
use Rattle.rules.specs.declared.Argument.TheVariants as Argument
use Rattle.rules.specs.declared.Contents.TheVariants as Contents
use Rattle.rules.specs.declared.Command.{Command}
use Rattle.rules.specs.declared.Core.{Core}
use Rattle.rules.specs.declared.Decoded.{Decoded}
use Rattle.rules.specs.declared.Land.TheVariants as Land
use Rattle.rules.specs.declared.Modes.{Modes}
use Rattle.rules.specs.declared.Move.TheVariants as Move
use Rattle.rules.specs.declared.Pending.{Pending}
use Rattle.rules.specs.declared.Personality.{Personality}
use Rattle.rules.specs.declared.Screen.{Screen}
use Rattle.rules.specs.declared.Sending.TheVariants as Sending
use Rattle.rules.specs.declared.Setup.{Setup}
use Rattle.rules.specs.declared.State.{State}
use Rattle.rules.specs.declared.Write.{Write}
use Rattle.rules.specs.Cell.{pick, both, either, among, between, code, written}
use Rattle.rules.specs.Row.{columns, row_of, column_of}
use Rattle.rules.specs.State.{segment_top, segment_bottom, cursor_of, with_cursor, changed, sends, sending_after, gathered_after, setup_after}
use Rattle.rules.specs.Search.{guarded_at, others, settled}
use Rattle.rules.specs.Change.{within, filled}
use Rattle.rules.specs.Possible.{power_on, remembered_ok, good}
use Rattle.rules.specs.Arguments.{is_attribute, attribute_of}
use Rattle.rules.specs.Decode.{decode_rule, idle_rule, escape_rule, lookup, judged, argument_rule}
use Rattle.rules.specs.Plan.{settling, writing, address_plan, move_plan, unless_guarded, storing, advancing, store_plan, takes_cell, attribute_plan}
use Rattle.rules.specs.Plan.{plan_rule}
use Rattle.rules.specs.Carry.{quiet, applied, landed, done, carried}
use Rattle.rules.specs.Step.{Outcome, outcome_of, obeyed, inner_rule, step_rule}
use Rattle.rules.proofs.Tests.{pick_if, both_parts, both_true, either_way, either_second}
use Rattle.rules.proofs.Kept.{step_good}
use Rattle.rules.proofs.Searching.{hit, around_here, length_guards, length_others, guard_at, open_at}
use Rattle.repaint.specs.Bytes.{power_on_at, Leads, end, byte, AcceptsBytes}
use Rattle.repaint.specs.Proposal.{Stretch, stretch, ends_row, lengthened, differing, shown_as, attribute_code, cell_bytes, cells_bytes, last_shown}
use Rattle.repaint.specs.Proposal.{start_bytes, stretch_bytes, stretches_bytes, is_text, all_text, served, paint_bytes}
use Rattle.repaint.specs.Theorems.{Served}
use Rattle.repaint.proofs.Leading.{on_good}

-- ---- bytes that lead from a page and a state to others

abbrev inner : List ℕ → State → ℕ → Outcome
inner p s b = outcome_of s (inner_rule p s.core s.setup.tabs b 0)

abbrev quietly : List ℕ → State → Outcome
quietly p s = record { answer = 0; taken = true; state = s; page = p; reply = [] }

data Fed : List ℕ → List ℕ → State → List ℕ → State → Type 0 where
  none : {p : List ℕ} {s : State} → Fed [] p s p s
  next : {b : ℕ} {bs p q r : List ℕ} {s t z : State} → sends s.sending ≡ false → inner p s b ≡ quietly q t → Fed bs q t r z → Fed (b ∷ bs) p s r z

fed_append : {a b p q r : List ℕ} {s t z : State} → Fed a p s q t → Fed b q t r z → Fed (a ++ b) p s r z
fed_append none y = y
fed_append (next u e x) y = next u e (fed_append x y)

step_fed : (b : ℕ) (p q : List ℕ) (s t : State) → good p s ≡ true → sends s.sending ≡ false → inner p s b ≡ quietly q t
    → step_rule p s b 0 ≡ quietly q t
unfolding step_rule
step_fed b p q s t g u e = rw (g, u) e

fed_leads : {bytes p q : List ℕ} {s t : State} → good p s ≡ true → Fed bytes p s q t → Leads q bytes p s
fed_leads g (none {s = s}) = end s
fed_leads g (next {b} {bs} {p} {q} {r} {s} {t} u e x) =
    let f = step_fed b p q s t g u e in
    let k : good q t ≡ true = rw f at (step_good p s b 0 g) in
    byte b bs p s (ap (λ (o : Outcome). o.answer) f) (subst (λ (o : Outcome). Leads r bs o.page o.state) (sym f) (fed_leads k x))

-- ---- the states on the way: as at power-on, but for the cursor, the attribute remembered and the sequence

abbrev modes_on : Modes
modes_on = record { protect = false; writeprotect = false; insert = false; autoscroll = true; locked = false; local = false }

abbrev screen_at : ℕ → Screen
screen_at i = record { wide = false; active = 0; split = 0; cursor0 = i; cursor1 = 0 }

abbrev core_at : Personality → ℕ → ℕ → Pending → Core
core_at m a i q = record { screen = screen_at i; modes = modes_on; bells = 0; pending = q; personality = m; attribute = a }

abbrev state_at : List ℕ → Setup → Personality → ℕ → ℕ → Pending → State
state_at g u m a i q = record { core = core_at m a i q; sending = Sending.Nothing; gathered = g; setup = u }

-- an open cell: settling stays there; with protect mode off each is
pub settled_open : (g : List Bool) (first to i : ℕ) → i < to → to ≤ length g → get_or g i false ≡ false → settled g first to i ≡ i
settled_open g first to i h k e =
    let t : get_or (others g) i false ≡ true = open_at g i (omega arith) ∙ ap not e in
    sym (around_here (others g) first to i (sym (hit (others g) i to h (omega (arith, length_others g)) refl t)) h)

settled_free : (p : List ℕ) (i : ℕ) → length p ≡ 1920 → i < 1920 → settled (guarded_at false p) 0 1920 i ≡ i
settled_free p i size h =
    settled_open (guarded_at false p) 0 1920 i h (omega (arith, length_guards false p)) (guard_at false p i (omega arith))

-- a fill of one cell, with protect mode off
one_filled : (v : ℕ) (p : List ℕ) (i : ℕ) → i < length p → within i (i + 1) (filled false v) p ≡ set p i v
unfolding within filled
one_filled v p i h =
    let e : i + 1 - i ≡ 1 = omega arith in
    sym (rw (e, drop-cons p i 0 h) (set_split p i v h))

module _ (g : List ℕ) (u : Setup) where
  module _ (m : Personality) {a i : ℕ} {q : Pending} {p : List ℕ} (b : ℕ) (h : b < 128) where
    waits : {bs r : List ℕ} {z : State} {w : Pending} → decode_rule q b ≡ Decoded.Wait w → Fed bs p (state_at g u m a i w) r z
        → Fed (b ∷ bs) p (state_at g u m a i q) r z
    unfolding inner_rule obeyed sending_after gathered_after setup_after changed
    waits {w = w} e f =
        let j : inner p (state_at g u m a i q) b ≡ quietly p (state_at g u m a i w) = rw (lt-ltb b 128 h, e) in
        next refl j f

  -- ---- ESC = to a cell

  module _ (m : Personality) (a i : ℕ) (p : List ℕ) (size : length p ≡ 1920) (at : ℕ) (h : at < 1920) where
    abbrev r : ℕ
    r = 0x20 + row_of 80 at

    abbrev k : ℕ
    k = 0x20 + column_of 80 at

    address : plan_rule (guarded_at false p) u.tabs (core_at m a i Pending.Idle) (Command.Go (Move.Address r k))
        ≡ settling (core_at m a i Pending.Idle) at
    unfolding plan_rule move_plan address_plan segment_top segment_bottom columns
    address =
        let t : among 0x20 24 r ≡ true = both_true (le-leb 0x20 r (omega arith)) (lt-ltb r 0x38 (omega arith)) in
        let z : among 0x20 80 k ≡ true = both_true (le-leb 0x20 k (omega arith)) (lt-ltb k 0x70 (omega arith)) in
        let e : (0 + (r - 0x20)) * 80 + (k - 0x20) ≡ at = omega arith in
        rw (t, z, e)

    settles : carried p (core_at m a i (Pending.AddressRow r)) (settling (core_at m a i Pending.Idle) at) 0 ≡ quiet 0 (core_at m a at Pending.Idle) p
    unfolding carried done landed applied segment_top segment_bottom with_cursor columns
    settles = rw (settled_free p at size h)

    goes : Fed (k ∷ []) p (state_at g u m a i (Pending.AddressRow r)) p (state_at g u m a at Pending.Idle)
    unfolding inner_rule obeyed decode_rule sending_after gathered_after setup_after changed
    goes =
        let j : inner p (state_at g u m a i (Pending.AddressRow r)) k
        ≡ quietly p (state_at g u m a at Pending.Idle) = rw (lt-ltb k 128 (omega arith), address, settles) in
        next refl j none

    address_fed : Fed (start_bytes at) p (state_at g u m a i Pending.Idle) p (state_at g u m a at Pending.Idle)
    unfolding start_bytes decode_rule idle_rule escape_rule lookup argument_rule
    address_fed = waits m 0x1b (lit< tt) refl (waits m 0x3d (lit< tt) refl (waits m r (omega arith) refl goes))

  -- ---- ESC G, in WY-60

  attribute_code_lem : (a : ℕ) → a < 31
      → (is_attribute (attribute_code a) ≡ true)
      × ((attribute_of (attribute_code a) ≡ a) × ((attribute_code a < 128) × (eqb (attribute_code a) 0x20 ≡ false)))
  unfolding is_attribute attribute_code attribute_of
  attribute_code_lem a h = by (either_way (ltb a 16))
    where
      by : (ltb a 16 ≡ true) ⊎ (ltb a 16 ≡ false)
          → (either (eqb (pick (ltb a 16) (0x30 + a) (0x70 + (a - 16))) 0x20)
          (either (between 0x30 0x3f (pick (ltb a 16) (0x30 + a) (0x70 + (a - 16))))
          (between 0x70 0x7e (pick (ltb a 16) (0x30 + a) (0x70 + (a - 16))))) ≡ true)
          × (((pick (ltb a 16) (0x30 + a) (0x70 + (a - 16))) % 16 + pick (ltb (pick (ltb a 16) (0x30 + a) (0x70 + (a - 16))) 0x70) 0 16 ≡ a)
          × ((pick (ltb a 16) (0x30 + a) (0x70 + (a - 16)) < 128) × (eqb (pick (ltb a 16) (0x30 + a) (0x70 + (a - 16))) 0x20 ≡ false)))
      by (inl e) =
          let l = ltb-true a 16 e in
          let t : between 0x30 0x3f (0x30 + a) ≡ true = both_true (le-leb 0x30 (0x30 + a) (omega arith)) (lt-ltb (0x30 + a) 0x40 (omega arith)) in
          let s : ltb (0x30 + a) 0x70 ≡ true = lt-ltb (0x30 + a) 0x70 (omega arith) in
          let n : eqb (0x30 + a) 0x20 ≡ false = ne_eqb (0x30 + a) 0x20 (λ z. omega (arith, z)) in
          rw (e, n, t, s) (refl, (omega arith, (omega arith, refl)))
      by (inr e) =
          let l = ltb-false a 16 e in
          let t : between 0x70 0x7e (0x70 + (a - 16))
          ≡ true = both_true (le-leb 0x70 (0x70 + (a - 16)) (omega arith)) (lt-ltb (0x70 + (a - 16)) 0x7f (omega arith)) in
          let s : ltb (0x70 + (a - 16)) 0x70 ≡ false = le-ltb (0x70 + (a - 16)) 0x70 (omega arith) in
          let n : eqb (0x70 + (a - 16)) 0x20 ≡ false = ne_eqb (0x70 + (a - 16)) 0x20 (λ z. omega (arith, z)) in
          rw (e, n, t, s) (either_second (between 0x30 0x3f (0x70 + (a - 16))) refl, (omega arith, (omega arith, refl)))

  module _ (a i b : ℕ) (p : List ℕ) (h : b < 31) where
    remembers : Fed (attribute_code b ∷ []) p (state_at g u Personality.Wy60 a i (Pending.Awaits Argument.Attribute)) p
        (state_at g u Personality.Wy60 b i Pending.Idle)
    unfolding inner_rule obeyed decode_rule argument_rule judged plan_rule attribute_plan takes_cell carried done landed applied sending_after gathered_after setup_after changed
    remembers =
        let c = attribute_code_lem b h in
        let j : inner p (state_at g u Personality.Wy60 a i (Pending.Awaits Argument.Attribute)) (attribute_code b)
        ≡ quietly p (state_at g u Personality.Wy60 b i Pending.Idle) =
        rw (lt-ltb (attribute_code b) 128 c.1.1.0, c.0, c.1.1.1, c.1.0) in
        next refl j none

    attribute_fed : Fed (0x1b ∷ 0x47 ∷ attribute_code b ∷ []) p (state_at g u Personality.Wy60 a i Pending.Idle) p
        (state_at g u Personality.Wy60 b i Pending.Idle)
    unfolding decode_rule idle_rule escape_rule lookup
    attribute_fed = waits Personality.Wy60 0x1b (lit< tt) refl (waits Personality.Wy60 0x47 (lit< tt) refl remembers)

  -- ---- a byte of text, before the last cell

  module _ (m : Personality) (a i : ℕ) (p : List ℕ) (size : length p ≡ 1920) (b : ℕ) (low : 0x20 ≤ b) (high : b < 0x7f) (h : i + 1 < 1920) where
    abbrev v : ℕ
    v = written (Contents.Text b) false a

    store : plan_rule (guarded_at false p) u.tabs (core_at m a i Pending.Idle) (Command.Store (Contents.Text b))
        ≡ writing (core_at m a i Pending.Idle) (Write.Fill i (i + 1) v) (Land.Settle (i + 1))
    unfolding plan_rule store_plan unless_guarded storing advancing cursor_of segment_top segment_bottom columns
    store = rw (guard_at false p i (omega arith), lt-ltb (i + 1) 1920 h)

    stored_page : applied 80 false Write.Nothing (applied 80 false (Write.Fill i (i + 1) v) p) ≡ set p i v
    unfolding applied
    stored_page = one_filled v p i (omega arith)

    stores : carried p (core_at m a i Pending.Idle) (writing (core_at m a i Pending.Idle) (Write.Fill i (i + 1) v) (Land.Settle (i + 1))) 0
        ≡ quiet 0 (core_at m a (i + 1) Pending.Idle) (set p i v)
    unfolding carried done landed segment_top segment_bottom with_cursor columns
    stores = rw (stored_page, settled_free (set p i v) (i + 1) (length-set p i v ∙ size) h)

    text_fed : Fed (b ∷ []) p (state_at g u m a i Pending.Idle) (set p i v) (state_at g u m a (i + 1) Pending.Idle)
    unfolding inner_rule obeyed decode_rule idle_rule sending_after gathered_after setup_after changed
    text_fed =
        let j : inner p (state_at g u m a i Pending.Idle) b ≡ quietly (set p i v) (state_at g u m a (i + 1) Pending.Idle) =
        rw (lt-ltb b 128 (omega arith), le-ltb b 0x20 low, lt-ltb b 0x7f high, store, stores) in
        next refl j none

  -- ---- a cell

  code_of : (y : ℕ) → y % 1024 < 128 → y % 128 ≡ y % 1024
  code_of y h = omega arith

  record TextCell (m : Personality) (y : ℕ) : Type 0 where
    remembered : remembered_ok m (shown_as y) ≡ true
    low : 0x20 ≤ code y
    high : code y < 0x7f
    is : written (Contents.Text (code y)) false (shown_as y) ≡ y

  text_cell : (m : Personality) (y : ℕ) → is_text m y ≡ true → TextCell m y
  unfolding is_text
  text_cell m y e =
      let r = both_parts (remembered_ok m (shown_as y)) _ e in
      let t = both_parts (leb 0x20 (y % 1024)) _ r.1 in
      let low = leb-true 0x20 (y % 1024) t.0 in
      let high = ltb-true (y % 1024) 0x7f t.1 in
      let c = code_of y (omega arith) in
      record { remembered = r.0; low = omega (arith, c, low); high = omega (arith, c, high); is = omega (arith, c) }

  -- where the attribute is not the remembered one, the personality is WY-60
  changes : (m : Personality) (a b : ℕ) → remembered_ok m a ≡ true → remembered_ok m b ≡ true → eqb b a ≡ false → (m ≡ Personality.Wy60) × (b < 31)
  unfolding remembered_ok
  changes Personality.Wy50 a b e f n = absurd (eqb-false b a n (eqb-true b 0 f ∙ sym (eqb-true a 0 e)))
  changes Personality.Wy60 a b e f n = (refl, ltb-true b 31 f)

  module _ (m : Personality) (a i y : ℕ) (p : List ℕ) (size : length p ≡ 1920) (h : i + 1 < 1920) (ok : remembered_ok m a ≡ true)
      (t : TextCell m y) where
    -- its byte, with its attribute remembered
    code_fed : Fed (code y ∷ []) p (state_at g u m (shown_as y) i Pending.Idle) (set p i y) (state_at g u m (shown_as y) (i + 1) Pending.Idle)
    code_fed =
        subst (λ (v : ℕ). Fed (code y ∷ []) p (state_at g u m (shown_as y) i Pending.Idle) (set p i v) (state_at g u m (shown_as y) (i + 1) Pending.Idle))
        t.is
        (text_fed m (shown_as y) i p size (code y) t.low t.high h)

    abbrev FedCell : List ℕ → Type 0
    FedCell bytes = Fed bytes p (state_at g u m a i Pending.Idle) (set p i y) (state_at g u m (shown_as y) (i + 1) Pending.Idle)

    attributed : (m ≡ Personality.Wy60) × (shown_as y < 31)
        → Fed (0x1b ∷ 0x47 ∷ attribute_code (shown_as y) ∷ []) p (state_at g u m a i Pending.Idle) p (state_at g u m (shown_as y) i Pending.Idle)
    attributed k =
        subst (λ (n : Personality). Fed (0x1b ∷ 0x47 ∷ attribute_code (shown_as y) ∷ []) p (state_at g u n a i Pending.Idle) p
        (state_at g u n (shown_as y) i Pending.Idle)) (sym k.0)
        (attribute_fed a i (shown_as y) p k.1)

    cell_fed : FedCell (cell_bytes a y)
    unfolding cell_bytes
    cell_fed =
        pick_if FedCell (eqb (shown_as y) a)
        (λ e. subst (λ (n : ℕ). Fed (code y ∷ []) p (state_at g u m n i Pending.Idle) (set p i y) (state_at g u m (shown_as y) (i + 1) Pending.Idle))
        (eqb-true (shown_as y) a e) code_fed)
        (λ e. fed_append (attributed (changes m a (shown_as y) ok t.remembered e)) code_fed)

  -- ---- spans

  module _ (m : Personality) where
    record Reaches (bytes p : List ℕ) (a i : ℕ) (q : List ℕ) : Type 0 where
      shown : ℕ
      place : ℕ
      fed : Fed bytes p (state_at g u m a i Pending.Idle) q (state_at g u m shown place Pending.Idle)

    reaches_after : {x y p q r : List ℕ} {a b i k : ℕ} → Fed x p (state_at g u m a i Pending.Idle) q (state_at g u m b k Pending.Idle)
        → Reaches y q b k r → Reaches (x ++ y) p a i r
    reaches_after x y = record { shown = y.shown; place = y.place; fed = fed_append x y.fed }

    -- a stretch begins at the cell
    abbrev begins : ℕ → List Stretch → Bool
    begins at [] = false
    begins at (s ∷ l) = eqb s.start at

    -- the bytes of stretches paint from any cursor, and those after the first ESC = from the cell where the first begins
    record Painting (at : ℕ) (t : List Stretch) (p q : List ℕ) : Type 0 where
      any : (a i : ℕ) → remembered_ok m a ≡ true → Reaches (stretches_bytes a t) p a i q
      on : begins at t ≡ true → (a : ℕ) → remembered_ok m a ≡ true → Reaches (drop 4 (stretches_bytes a t)) p a at q

    opened : (at : ℕ) (cells : List ℕ) (l : List Stretch) (p q : List ℕ) → length p ≡ 1920 → at < 1920
        → ((a : ℕ) → remembered_ok m a ≡ true → Reaches (cells_bytes a cells ++ stretches_bytes (last_shown a cells) l) p a at q)
        → Painting at (stretch at cells ∷ l) p q
    unfolding stretches_bytes stretch_bytes start_bytes
    opened at cells l p q size h r = record {
      any = λ a i ok. reaches_after (unfold start_bytes in address_fed m a i p size at h) (r a ok);
      on = λ e a ok. r a ok;
    }

    front : (a at x y : ℕ) (done cells rest q : List ℕ) (l : List Stretch) → length done ≡ at → suc at < 1920 → length (done ++ x ∷ rest) ≡ 1920
        → remembered_ok m a ≡ true → TextCell m y
        → Reaches (cells_bytes (shown_as y) cells ++ stretches_bytes (last_shown (shown_as y) cells) l) (done ++ y ∷ rest) (shown_as y) (suc at) q
        → Reaches (cells_bytes a (y ∷ cells) ++ stretches_bytes (last_shown a (y ∷ cells)) l) (done ++ x ∷ rest) a at q
    unfolding cells_bytes last_shown
    front a at x y done cells rest q l e h size ok t r =
        let s : set (done ++ x ∷ rest) at y ≡ done ++ y ∷ rest = set_at done x rest y at e in
        let f = cell_fed m a at y (done ++ x ∷ rest) size (omega arith) ok t in
        let k : at + 1 ≡ suc at = omega arith in
        rw (append_assoc (cell_bytes a y) (cells_bytes (shown_as y) cells) (stretches_bytes (last_shown (shown_as y) cells) l))
        (reaches_after (rw (s, k) at f) r)

    lengthened_paints : (at : ℕ) (done : List ℕ) (x y : ℕ) (a b : List ℕ) (t : List Stretch) → length done ≡ at → suc at < 1920
        → length (done ++ x ∷ a) ≡ 1920 → TextCell m y
        → Painting (suc at) t (done ++ y ∷ a) (done ++ y ∷ b) → Painting at (lengthened at y t) (done ++ x ∷ a) (done ++ y ∷ b)
    unfolding lengthened
    lengthened_paints at done x y a b [] e h size c r =
        opened at (y ∷ []) [] (done ++ x ∷ a) (done ++ y ∷ b) size (omega arith)
        (λ n ok. front n at x y done [] a (done ++ y ∷ b) [] e h size ok c
        (unfold cells_bytes last_shown in r.any (shown_as y) (suc at) c.remembered))
    lengthened_paints at done x y a b (s ∷ l) e h size c r =
        let p = done ++ x ∷ a in
        let q = done ++ y ∷ b in
        pick_if (λ (t : List Stretch). Painting at t p q) (both (eqb s.start (suc at)) (not (ends_row at)))
        (λ t. opened at (y ∷ s.cells) l p q size (omega arith)
        (λ n ok. front n at x y done s.cells a q l e h size ok c
        (unfold stretches_bytes stretch_bytes start_bytes in r.on (both_parts (eqb s.start (suc at)) _ t).0 (shown_as y) c.remembered)))
        (λ t. opened at (y ∷ []) (s ∷ l) p q size (omega arith)
        (λ n ok. front n at x y done [] a q (s ∷ l) e h size ok c (unfold cells_bytes last_shown in r.any (shown_as y) (suc at) c.remembered)))

    lengthened_begins : (at k v : ℕ) (t : List Stretch) → begins at (lengthened k v t) ≡ eqb k at
    unfolding lengthened
    lengthened_begins at k v [] = refl
    lengthened_begins at k v (s ∷ l) =
        pick_if (λ (t : List Stretch). begins at t ≡ eqb k at) (both (eqb s.start (suc k)) (not (ends_row k))) (λ e. refl) (λ e. refl)

    -- no stretch begins before the lists' first cell
    begins_later : (at k : ℕ) (a b : List ℕ) → at < k → begins at (differing k a b) ≡ false
    unfolding differing
    begins_later at k [] b h = refl
    begins_later at k (x ∷ a) [] h = refl
    begins_later at k (x ∷ a) (y ∷ b) h =
        pick_if (λ (t : List Stretch). begins at t ≡ false) (eqb x y) (λ e. begins_later at (suc k) a b (omega arith))
        (λ e. lengthened_begins at k y (differing (suc k) a b) ∙ ne_eqb k at (λ z. omega arith))

    equal_paints : (at x y : ℕ) (done a b : List ℕ) (t : List Stretch) → x ≡ y → begins at t ≡ false
        → Painting (suc at) t (done ++ y ∷ a) (done ++ y ∷ b) → Painting at t (done ++ x ∷ a) (done ++ y ∷ b)
    equal_paints at x y done a b t e f r = rw e (record { any = r.any; on = λ z. absurd (false≢true (sym f ∙ z)) })

    cell_paints : (rest : List ℕ) (at x y : ℕ) (done a b : List ℕ) → length done ≡ at → length a ≡ length b → 1 ≤ length rest
        → at + suc (length a) + length rest ≡ 1920
        → is_text m y ≡ true → Painting (suc at) (differing (suc at) a b) ((done ++ y ∷ []) ++ (a ++ rest)) ((done ++ y ∷ []) ++ (b ++ rest))
        → Painting at (pick (eqb x y) (differing (suc at) a b) (lengthened at y (differing (suc at) a b))) (done ++ (x ∷ (a ++ rest)))
        (done ++ (y ∷ (b ++ rest)))
    cell_paints rest at x y done a b e s r size h i =
        let k : Painting (suc at) (differing (suc at) a b) (done ++ y ∷ (a ++ rest)) (done ++ y ∷ (b ++ rest)) =
        rw (append_snoc done y (a ++ rest), append_snoc done y (b ++ rest)) at i in
        let whole : length (done ++ x ∷ (a ++ rest)) ≡ 1920 = omega (arith, length-append done (x ∷ (a ++ rest)), length-append a rest) in
        pick_if (λ (l : List Stretch). Painting at l (done ++ x ∷ (a ++ rest)) (done ++ y ∷ (b ++ rest))) (eqb x y)
        (λ z. equal_paints at x y done (a ++ rest) (b ++ rest) (differing (suc at) a b) (eqb-true x y z)
        (begins_later at (suc at) a b (omega arith)) k)
        (λ z. lengthened_paints at done x y (a ++ rest) (b ++ rest) (differing (suc at) a b) e (omega arith) whole (text_cell m y h) k)

    differing_paints : (rest : List ℕ) (at : ℕ) (done a b : List ℕ) → length done ≡ at → length a ≡ length b → 1 ≤ length rest
        → at + length a + length rest ≡ 1920 → all_text m b ≡ true
        → Painting at (differing at a b) (done ++ (a ++ rest)) (done ++ (b ++ rest))
    unfolding differing all_text stretches_bytes
    differing_paints rest at done [] [] e s r size h = record {
      any = λ n i ok. record { shown = n; place = i; fed = none };
      on = λ z. absurd
          (false≢true z);
    }
    differing_paints rest at done [] (y ∷ b) e s r size h = absurd (omega arith)
    differing_paints rest at done (x ∷ a) [] e s r size h = absurd (omega arith)
    differing_paints rest at done (x ∷ a) (y ∷ b) e s r size h =
        let t = both_parts (is_text m y) (all_text m b) h in
        let long : length (done ++ y ∷ []) ≡ suc at = omega (arith, length-append done (y ∷ [])) in
        let i = differing_paints rest (suc at) (done ++ y ∷ []) a b long (omega arith) r (omega arith) t.1 in
        cell_paints rest at x y done a b e (omega arith) r (omega arith) t.0 i

-- ---- pages that end in equal cells

pub differing_last : (at : ℕ) (a b : List ℕ) (z : ℕ) → length a ≡ length b → differing at (a ++ z ∷ []) (b ++ z ∷ []) ≡ differing at a b
unfolding differing
differing_last at [] [] z e = rw (eq-eqb z z refl)
differing_last at [] (y ∷ b) z e = absurd (omega arith)
differing_last at (x ∷ a) [] z e = absurd (omega arith)
differing_last at (x ∷ a) (y ∷ b) z e = rw (differing_last (suc at) a b z (omega arith))

text_front : (m : Personality) (a b : List ℕ) → all_text m (a ++ b) ≡ true → all_text m a ≡ true
unfolding all_text
text_front m [] b e = refl
text_front m (v ∷ a) b e = let r = both_parts (is_text m v) (all_text m (a ++ b)) e in both_true r.0 (text_front m a b r.1)

last_apart : (a : List ℕ) → length a ≡ 1920 → take 1919 a ++ get_or a 1919 0 ∷ [] ≡ a
last_apart a e =
    let d : drop 1920 a ≡ [] = drop_of_length-le a {i = 1920} (omega arith) in
    sym (rw d at (split_at a 1919 0 (omega arith)))

pub by_last : (P : List ℕ → List ℕ → Type 0) → ((a b : List ℕ) (z : ℕ) → length a ≡ 1919 → length b ≡ 1919 → P (a ++ z ∷ []) (b ++ z ∷ []))
    → (a b : List ℕ) → length a ≡ 1920 → length b ≡ 1920 → get_or a 1919 0 ≡ get_or b 1919 0 → P a b
by_last P f a b ea eb e =
    let x = f (take 1919 a) (take 1919 b) (get_or a 1919 0) (length-take-le 1919 a (omega arith)) (length-take-le 1919 b (omega arith)) in
    let y : P a (take 1919 b ++ get_or a 1919 0 ∷ []) = subst (λ (l : List ℕ). P l (take 1919 b ++ get_or a 1919 0 ∷ [])) (last_apart a ea) x in
    subst (λ (l : List ℕ). P a l) (ap (λ (z : ℕ). take 1919 b ++ z ∷ []) e ∙ last_apart b eb) y

remembers_normal : (m : Personality) → remembered_ok m 0 ≡ true
unfolding remembered_ok
remembers_normal Personality.Wy50 = refl
remembers_normal Personality.Wy60 = refl

pub served_parts : (m : Personality) (a b : List ℕ) → served m a b ≡ true → Served m a b
unfolding served
served_parts m a b e =
    let r = both_parts (both (eqb (length a) 1920) (eqb (length b) 1920)) _ e in
    let l = both_parts (eqb (length a) 1920) (eqb (length b) 1920) r.0 in
    let t = both_parts (both (all_text m a) (all_text m b)) _ r.1 in
    let k = both_parts (all_text m a) (all_text m b) t.0 in
    record { from = eqb-true _ _ l.0; to = eqb-true _ _ l.1; shown = k.0; wanted = k.1; last = eqb-true _ _ t.1 }

module _ (m : Personality) where
  start : power_on_at false m ≡ state_at (replicate 46 0) (power_on m).setup m 0 0 Pending.Idle
  unfolding power_on_at power_on
  start = refl

  ended_painted : (a b : List ℕ) (z : ℕ) → length a ≡ 1919 → length b ≡ 1919 → all_text m (b ++ z ∷ []) ≡ true
      → AcceptsBytes m false (a ++ z ∷ []) (b ++ z ∷ []) (paint_bytes (a ++ z ∷ []) (b ++ z ∷ []))
  ended_painted a b z ea eb h =
      let r = (differing_paints (replicate 46 0) (power_on m).setup m (z ∷ []) 0 [] a b refl (omega arith) (omega arith) (omega arith)
      (text_front m b (z ∷ []) h)
      ).any 0 0 (remembers_normal m) in
      let size : length (a ++ z ∷ []) ≡ 24 * columns false = unfold columns in omega (arith, length-append a (z ∷ [])) in
      let g : good (a ++ z ∷ []) (state_at (replicate 46 0) (power_on m).setup m 0 0 Pending.Idle) ≡ true =
      subst (λ (s : State). good (a ++ z ∷ []) s ≡ true) start (on_good false m (a ++ z ∷ []) size) in
      let l = fed_leads g r.fed in
      let k : Leads (b ++ z ∷ []) (paint_bytes (a ++ z ∷ []) (b ++ z ∷ [])) (a ++ z ∷ [])
      (state_at (replicate 46 0) (power_on m).setup m 0 0 Pending.Idle) =
      subst (λ (t : List Stretch). Leads (b ++ z ∷ []) (stretches_bytes 0 t) (a ++ z ∷ [])
      (state_at (replicate 46 0) (power_on m).setup m 0 0 Pending.Idle))
      (sym (differing_last 0 a b z (omega arith))) l in
      subst (λ (s : State). Leads (b ++ z ∷ []) (paint_bytes (a ++ z ∷ []) (b ++ z ∷ [])) (a ++ z ∷ []) s) (sym start) k

  pub painted : (a b : List ℕ) → served m a b ≡ true → AcceptsBytes m false a b (paint_bytes a b)
  painted a b e =
      let s = served_parts m a b e in
      by_last (λ (x y : List ℕ). all_text m y ≡ true → AcceptsBytes m false x y (paint_bytes x y)) ended_painted a b s.from s.to s.last
      s.wanted
