-- The conversion to the other width.
--     conversion     what holds of it
--     listed_length, listed_at, listed_is     numbers listed by a function
--     converts, is_seven, is_six, is_four     the rule where it is done, and where it is refused
--     home_lands, converted_length     home is a place to settle from; how long the page is
-- Assumes nothing.
use mathlib.Core.Path.{◌≡◌, refl, sym, ap, ap₂, subst, ◌∙◌}
use mathlib.Core.Bool.{Bool, true, false, false≢true, not}
use mathlib.Core.List.{List, [], ◌∷◌, ◌++◌, append-nil}
use Prim.Native.Nat.{ℕ, zero, suc, ◌+◌, ◌-◌, ◌*◌, ◌/◌, ◌%◌, ◌<◌, ◌≤◌}
use native.Mathlib.Nat.{zero-add}
use native.Mathlib.Omega.{arith}
use lib.Dec.{eqb, ltb, leb}
use lib.ListN.{length, get_or, take, drop, replicate, length-drop, take-append-drop}
use lib.Seq.{take_all}
use borrow.Author.Tests.{leb-true, le-leb, eqb-true, eqb-false, eq-eqb, ne_eqb, lt-ltb, le-ltb, ltb-true}
use Rattle.rules.specs.declared.Core.{Core}
use Rattle.rules.specs.declared.State.{State}
use Rattle.rules.specs.Cell.{pick, both, either, null}
use Rattle.rules.specs.Row.{Width, height, columns, row_of, column_of}
use Rattle.rules.specs.declared.Land.TheVariants as Land
use Rattle.rules.specs.Search.{guarded_at}
use Rattle.rules.specs.State.{width_of, segment_top, segment_bottom, with_cursor, with_screen, with_tabs, sends}
use Rattle.rules.specs.Possible.{no_stops, sending_ok, good}
use Rattle.rules.specs.Plan.{unsplit_screen}
use Rattle.rules.specs.Theorems.Good.{GoodLand}
use Rattle.rules.specs.Carry.{landed}
use Rattle.rules.specs.Convert.{tabulated, cell_for, other_width, converted, loses, core_on, stops_within, state_on, Turned, unturned, convert_rule}
use Rattle.rules.specs.Theorems.Conversion.{home_on, Back, Lost, Conversion}
use Rattle.rules.proofs.Tests.{both_parts}
use Rattle.rules.proofs.Rows.{columns_width, by_width, cell_inside}
use Rattle.rules.proofs.Searching.{length_guards}
use Rattle.rules.proofs.Screens.{unsplit_screen_lem}
use Rattle.rules.proofs.Sends.{not_sending}
use Rattle.rules.proofs.Kept.{PossibleCore, PossibleState, good_parts, good_whole, possible_parts, possible_whole, landed_kept}

-- ---- numbers listed by a function

pub listed_length : (f : ℕ → ℕ) (i n : ℕ) → length (tabulated f i n) ≡ n
unfolding tabulated
listed_length f i zero = refl
listed_length f i (suc n) = ap suc (listed_length f (suc i) n)

pub listed_at : (f : ℕ → ℕ) (i n k : ℕ) → k < n → get_or (tabulated f i n) k 0 ≡ f (i + k)
unfolding tabulated
listed_at f i zero k h = absurd (omega arith)
listed_at f i (suc n) zero h = let e : i + 0 ≡ i = omega arith in rw e
listed_at f i (suc n) (suc k) h = let e : i + suc k ≡ suc i + k = omega arith in rw e (listed_at f (suc i) n k (omega arith))

-- a list is that of its numbers
pub listed_is : (f : ℕ → ℕ) (i : ℕ) (l : List ℕ) → ((k : ℕ) → k < length l → f (i + k) ≡ get_or l k 0) → tabulated f i (length l) ≡ l
unfolding tabulated
listed_is f i [] h = refl
listed_is f i (x ∷ l) h =
    let e : i + 0 ≡ i = omega arith in
    ap₂ ◌∷◌ (rw e at (h 0 (omega arith)))
    (listed_is f (suc i) l (λ k b. let e : suc i + k ≡ i + suc k = omega arith in rw e (h (suc k) (omega arith))))

-- ---- the rule

module _ (p : List ℕ) (s : State) (t : List ℕ) where
  abbrev wide : Bool
  wide = s.core.screen.wide

  -- where it is done
  record Done : Type 0 where
    fine : good p s ≡ true
    long : length t ≡ height * other_width wide
    quiet : sends s.sending ≡ false
    kept : loses (columns wide) (other_width wide) 0 p ≡ false
    is : convert_rule p s t ≡ record { answer = 0; target = converted wide p; state = state_on (converted wide p) s }

  pub converts : good p s ≡ true → length t ≡ height * other_width wide → sends s.sending ≡ false
      → loses (columns wide) (other_width wide) 0 p ≡ false
      → convert_rule p s t ≡ record { answer = 0; target = converted wide p; state = state_on (converted wide p) s }
  unfolding convert_rule
  converts g n u k = rw (g, eq-eqb (length t) _ n, u, k)

  pub is_seven : both (good p s) (eqb (length t) (height * other_width wide)) ≡ false → convert_rule p s t ≡ unturned 7 t s
  unfolding convert_rule
  is_seven e = rw e

  pub is_six : both (good p s) (eqb (length t) (height * other_width wide)) ≡ true → sends s.sending ≡ true → convert_rule p s t ≡ unturned 6 t s
  unfolding convert_rule
  is_six e u = rw (e, u)

  pub is_four : both (good p s) (eqb (length t) (height * other_width wide)) ≡ true → sends s.sending ≡ false
      → loses (columns wide) (other_width wide) 0 p ≡ true → convert_rule p s t ≡ unturned 4 t s
  unfolding convert_rule
  is_four e u k = rw (e, u, k)

  -- it is done, or refused, and nothing has changed
  data Way : Type 0 where
    is_done : Done → Way
    is_refused : (n : ℕ) → (n ≡ 0 → ⊥) → convert_rule p s t ≡ unturned n t s → Way

  way : Way
  way = by (both (good p s) (eqb (length t) (height * other_width wide))) (sends s.sending)
      (loses (columns wide) (other_width wide) 0 p) refl refl refl
    where
      by : (a c d : Bool) → both (good p s) (eqb (length t) (height * other_width wide)) ≡ a → sends s.sending ≡ c
          → loses (columns wide) (other_width wide) 0 p ≡ d → Way
      by false c d e u k = is_refused 7 (λ z. omega (arith, z)) (is_seven e)
      by true true d e u k = is_refused 6 (λ z. omega (arith, z)) (is_six e u)
      by true false true e u k = is_refused 4 (λ z. omega (arith, z)) (is_four e u k)
      by true false false e u k =
          let r = both_parts (good p s) _ e in
          let n = eqb-true (length t) (height * other_width wide) r.1 in
          is_done record { fine = r.0; long = n; quiet = u; kept = k; is = converts r.0 n u k }

  done : (convert_rule p s t).answer ≡ 0 → Done
  done e = by way
    where
      by : Way → Done
      by (is_done d) = d
      by (is_refused n z i) = absurd (z (sym (ap (λ (r : Turned). r.answer) i) ∙ e))

  refused : ((convert_rule p s t).answer ≡ 0 → ⊥) → convert_rule p s t ≡ unturned (convert_rule p s t).answer t s
  refused e = by way
    where
      by : Way → convert_rule p s t ≡ unturned (convert_rule p s t).answer t s
      by (is_done d) = absurd (e (ap (λ (r : Turned). r.answer) d.is))
      by (is_refused n z i) = i ∙ ap (λ (n : ℕ). unturned n t s) (sym (ap (λ (r : Turned). r.answer) i))

-- ---- what is lost

-- a cell of l beyond w columns that is not 0, i being its first cell
record LostFrom (v w i : ℕ) (l : List ℕ) : Type 0 where
  at : ℕ
  inside : at < length l
  beyond : w ≤ column_of v (i + at)
  written : get_or l at 0 ≡ 0 → ⊥

either_true : (a : Bool) {b : Bool} → b ≡ true → either a b ≡ true
either_true true h = refl
either_true false h = h

-- some cell from i on is
loses_lost : (v w i : ℕ) (l : List ℕ) → loses v w i l ≡ true → LostFrom v w i l
unfolding loses
loses_lost v w i [] h = absurd (false≢true h)
loses_lost v w i (x ∷ l) h = by (λ k. loses_lost v w (suc i) l k) (leb w (column_of v i)) refl (eqb x 0) refl h
  where
    behind : LostFrom v w (suc i) l → LostFrom v w i (x ∷ l)
    behind r = let e : suc i + r.at ≡ i + suc r.at = omega arith in record {
      at = suc r.at;
      inside = omega (arith, r.inside);
      beyond = rw e at r.beyond;
      written = r.written;
    }

    by : (loses v w (suc i) l ≡ true → LostFrom v w (suc i) l) → (a : Bool) → leb w (column_of v i) ≡ a → (b : Bool) → eqb x 0 ≡ b
        → either (both a (not b)) (loses v w (suc i) l) ≡ true → LostFrom v w i (x ∷ l)
    by later false e b f k = behind (later k)
    by later true e true f k = behind (later k)
    by later true e false f k = let z : i + 0 ≡ i = omega arith in record {
      at = 0;
      inside = omega arith;
      beyond = rw z (leb-true w (column_of v i) e);
      written = eqb-false x 0 f;
    }

lost_loses : (v w i : ℕ) (l : List ℕ) (k : ℕ) → k < length l → w ≤ column_of v (i + k) → (get_or l k 0 ≡ 0 → ⊥) → loses v w i l ≡ true
unfolding loses
lost_loses v w i [] k h b n = absurd (omega arith)
lost_loses v w i (x ∷ l) zero h b n =
    let z : i + 0 ≡ i = omega arith in
    let c : w ≤ column_of v i = rw z at b in
    rw (le-leb w (column_of v i) c, ne_eqb x 0 n)
lost_loses v w i (x ∷ l) (suc k) h b n =
    let e : i + suc k ≡ suc i + k = omega arith in
    either_true (both (leb w (column_of v i)) (not (eqb x 0))) (lost_loses v w (suc i) l k (omega arith) (rw e at b) n)

module _ (p : List ℕ) (s : State) (t : List ℕ) where
  lost : (convert_rule p s t).answer ≡ 4 → Lost (columns s.core.screen.wide) (other_width s.core.screen.wide) p
  lost e = by (both (good p s) (eqb (length t) (height * other_width s.core.screen.wide))) refl (sends s.sending) refl
      (loses (columns s.core.screen.wide) (other_width s.core.screen.wide) 0 p) refl
    where
      told : {o : Turned} {n : ℕ} → convert_rule p s t ≡ o → o.answer ≡ n → n ≡ 4
      told i z = sym z ∙ sym (ap (λ (r : Turned). r.answer) i) ∙ e

      from : LostFrom (columns s.core.screen.wide) (other_width s.core.screen.wide) 0 p
          → Lost (columns s.core.screen.wide) (other_width s.core.screen.wide) p
      from r = let z : 0 + r.at ≡ r.at = zero-add r.at in record {
        cell = r.at;
        inside = r.inside;
        beyond = rw z at r.beyond;
        written = r.written;
      }

      by : (a : Bool) → both (good p s) (eqb (length t) (height * other_width s.core.screen.wide)) ≡ a → (c : Bool) → sends s.sending ≡ c
          → (d : Bool) → loses (columns s.core.screen.wide) (other_width s.core.screen.wide) 0 p ≡ d
          → Lost (columns s.core.screen.wide) (other_width s.core.screen.wide) p
      by false a c u d k = absurd (omega (arith, told (is_seven p s t a) refl))
      by true a true u d k = absurd (omega (arith, told (is_six p s t a u) refl))
      by true a false u true k = from (loses_lost (columns s.core.screen.wide) (other_width s.core.screen.wide) 0 p k)
      by true a false u false k =
          let r = both_parts (good p s) _ a in
          absurd (omega (arith, told (converts p s t r.0 (eqb-true (length t) (height * other_width s.core.screen.wide) r.1) u k) refl))

  barred : good p s ≡ true → length t ≡ height * other_width s.core.screen.wide → sends s.sending ≡ false
      → Lost (columns s.core.screen.wide) (other_width s.core.screen.wide) p → (convert_rule p s t).answer ≡ 4
  barred g n u r =
      let z : 0 + r.cell ≡ r.cell = zero-add r.cell in
      ap (λ (o : Turned). o.answer)
      (is_four p s t (rw (g, eq-eqb (length t) _ n)) u
      (lost_loses (columns s.core.screen.wide) (other_width s.core.screen.wide) 0 p r.cell r.inside (rw z r.beyond) r.written))

-- ---- the cells

-- the row and the column of a place in a row of w columns
row_at : {w : ℕ} → Width w → (row column : ℕ) → column < w → (row_of w (row * w + column) ≡ row) × (column_of w (row * w + column) ≡ column)
row_at k row column = by_width (λ (w : ℕ). column < w → (row_of w (row * w + column) ≡ row) × (column_of w (row * w + column) ≡ column))
    (λ h. (omega arith, omega arith)) (λ h. (omega arith, omega arith)) k

module _ (wide : Bool) (p : List ℕ) (row column : ℕ) (r : row < height) (c : column < other_width wide) where
  abbrev at : ℕ
  at = row * other_width wide + column

  there : get_or (converted wide p) at 0 ≡ cell_for (columns wide) (other_width wide) p at
  unfolding converted
  there = listed_at (cell_for (columns wide) (other_width wide) p) 0 (height * other_width wide) at (cell_inside (columns_width (not wide)) r c)
      ∙ rw (zero-add at) refl

  same_cell : column < columns wide → get_or (converted wide p) at 0 ≡ get_or p (row * columns wide + column) 0
  unfolding cell_for
  same_cell h =
      let x = row_at (columns_width (not wide)) row column c in
      there ∙ rw (x.0, x.1, lt-ltb column (columns wide) h)

  null_cell : columns wide ≤ column → get_or (converted wide p) at 0 ≡ null
  unfolding cell_for
  null_cell h =
      let x = row_at (columns_width (not wide)) row column c in
      there ∙ rw (x.1, le-ltb column (columns wide) h)

-- ---- a good page and state stay good

no_stops_lem : (n : ℕ) → no_stops (replicate n false) ≡ true
unfolding no_stops
no_stops_lem zero = refl
no_stops_lem (suc n) = no_stops_lem n

fewer_stops : (k n : ℕ) → no_stops (drop k (replicate n false)) ≡ true
unfolding no_stops
fewer_stops zero n = no_stops_lem n
fewer_stops (suc k) zero = refl
fewer_stops (suc k) (suc n) = fewer_stops k n

stops_within_lem : (w n : ℕ) (l : List Bool) → no_stops (drop w (take w l ++ replicate n false)) ≡ true
stops_within_lem zero n l = no_stops_lem n
stops_within_lem (suc w) n [] = fewer_stops (suc w) n
stops_within_lem (suc w) n (b ∷ l) = stops_within_lem w n l

pub home_lands : (wide : Bool) → GoodLand (unsplit_screen wide) (Land.Settle 0)
unfolding segment_top segment_bottom columns
home_lands true = (omega arith, omega arith)
home_lands false = (omega arith, omega arith)

pub converted_length : (wide : Bool) (p : List ℕ) → length (converted wide p) ≡ height * other_width wide
unfolding converted
converted_length wide p = listed_length _ 0 (height * other_width wide)

module _ (p : List ℕ) (s : State) (g : good p s ≡ true) (u : sends s.sending ≡ false) where
  abbrev q : List ℕ
  q = converted s.core.screen.wide p

  k : PossibleState s
  k = possible_parts s (good_parts p s g).1

  on_screen : PossibleCore (with_screen s.core (unsplit_screen (not s.core.screen.wide))) s.gathered
  on_screen = record {
    screen = unsplit_screen_lem (not s.core.screen.wide);
    bells = k.core.bells;
    remembered = k.core.remembered;
    pending = k.core.pending;
  }

  turned_good : good q (state_on q s) ≡ true
  unfolding state_on sending_ok landed with_cursor
  turned_good =
      good_whole q (state_on q s) (converted_length s.core.screen.wide p)
      (possible_whole (state_on q s) record {
        core = landed_kept (guarded_at s.core.modes.protect q) (Land.Settle 0)
            (with_screen s.core (unsplit_screen (not s.core.screen.wide))) s.gathered
            (length_guards s.core.modes.protect q ∙ converted_length s.core.screen.wide p) on_screen
            (home_lands (not s.core.screen.wide));
        sending = rw (not_sending s.sending u);
        setup = record {
          keys = k.setup.keys;
          labels = k.setup.labels;
          message = k.setup.message;
          attributes = k.setup.attributes;
          features = k.setup.features;
          tabs = stops_within_lem (other_width s.core.screen.wide) (132 - other_width s.core.screen.wide) s.setup.tabs;
        };
      })

-- ---- there and back

-- no cell is lost where all beyond are 0
none_lost : (v w i : ℕ) (l : List ℕ) → ((k : ℕ) → k < length l → w ≤ column_of v (i + k) → get_or l k 0 ≡ 0) → loses v w i l ≡ false
unfolding loses
none_lost v w i [] h = refl
none_lost v w i (x ∷ l) h =
    both_false (by (leb w (column_of v i)) refl)
    (none_lost v w (suc i) l (λ k b c. h (suc k) (omega arith) (let e : i + suc k ≡ suc i + k = omega arith in rw e c)))
  where
    both_false : {a b : Bool} → a ≡ false → b ≡ false → either a b ≡ false
    both_false e f = rw (e, f)

    by : (t : Bool) → leb w (column_of v i) ≡ t → both t (not (eqb x 0)) ≡ false
    by true e =
        let z : i + 0 ≡ i = omega arith in
        let x0 : x ≡ 0 = h 0 (omega arith) (rw z (leb-true w (column_of v i) e)) in
        rw x0
    by false e = refl

-- the tab stops of a possible state beyond its width are none
all_none : (l : List Bool) → no_stops l ≡ true → l ≡ replicate (length l) false
unfolding no_stops
all_none [] h = refl
all_none (true ∷ l) h = absurd (false≢true h)
all_none (false ∷ l) h = ap (λ (k : List Bool). false ∷ k) (all_none l h)

same_stops : (tabs : List Bool) → length tabs ≡ 132 → no_stops (drop 80 tabs) ≡ true → stops_within 80 (stops_within 132 tabs) ≡ tabs
same_stops tabs n h =
    let all : take 132 tabs ≡ tabs = take_all 132 tabs (omega arith) in
    let long : length (drop 80 tabs) ≡ 52 = omega (arith, length-drop 80 tabs) in
    let rest : drop 80 tabs ≡ replicate 52 false = all_none (drop 80 tabs) h ∙ ap (λ (k : ℕ). replicate k false) long in
    ap (λ (l : List Bool). take 80 l ++ replicate 52 false) (append-nil (take 132 tabs) ∙ all)
    ∙ (ap (λ (l : List Bool). take 80 tabs ++ l) (sym rest) ∙ take-append-drop 80 tabs)

-- the page
back_cell : (p : List ℕ) (k : ℕ) → k < 1920 → cell_for 132 80 (converted false p) k ≡ get_or p k 0
unfolding cell_for columns
back_cell p k h =
    let row : k / 80 < 24 = omega arith in
    let column : k % 80 < 80 = omega arith in
    let there : get_or (converted false p) (k / 80 * 132 + k % 80) 0
    ≡ get_or p (k / 80 * 80 + k % 80) 0 = same_cell false p (k / 80) (k % 80) row (omega arith) column in
    let whole : k / 80 * 80 + k % 80 ≡ k = omega arith in
    rw (lt-ltb (k % 80) 132 (omega arith)) (there ∙ rw whole)

back_page : (p : List ℕ) → length p ≡ 1920 → converted true (converted false p) ≡ p
back_page p n =
    let f = cell_for 132 80 (converted false p) in
    by_narrow (converted false p) ∙ (ap (tabulated f 0) (sym n) ∙ listed_is f 0 p (λ k h. ap f (zero-add k) ∙ back_cell p k (omega arith)))
  where
    by_narrow : (q : List ℕ) → converted true q ≡ tabulated (cell_for 132 80 q) 0 1920
    by_narrow q = unfold converted columns in refl

-- a widened page loses nothing
wide_kept : (p : List ℕ) → loses 132 80 0 (converted false p) ≡ false
wide_kept p =
    none_lost 132 80 0 (converted false p)
    (λ k h c.
    let n : k < 3168 = omega (arith, converted_length false p, long) in
    let e : 0 + k ≡ k = zero-add k in
    let d : 80 ≤ k % 132 = rw e at c in
    let whole : k / 132 * 132 + k % 132 ≡ k = omega arith in
    sym (ap (λ (j : ℕ). get_or (converted false p) j 0) whole) ∙ null_at p (k / 132) (k % 132) (omega arith) (omega arith) d)
  where
    long : height * other_width false ≡ 3168
    long = unfold columns in refl

    null_at : (p : List ℕ) (row column : ℕ) → row < 24 → column < 132 → 80 ≤ column → get_or (converted false p) (row * 132 + column) 0 ≡ 0
    null_at p row column r c h = unfold columns in null_cell false p row column r c h

-- both cores are at home on their page
back_core : (p q : List ℕ) (c : Core) → c.screen.wide ≡ false → core_on p (core_on q c) ≡ home_on p c
unfolding landed with_cursor
back_core p q c e = rw e

state_wide : (q : List ℕ) (s : State) → (state_on q s).core.screen.wide ≡ not s.core.screen.wide
unfolding state_on landed with_cursor
state_wide q s = refl

back_setup : (p q : List ℕ) (s : State) → s.core.screen.wide ≡ false → length s.setup.tabs ≡ 132 → no_stops (drop 80 s.setup.tabs) ≡ true
    → (state_on p (state_on q s)).setup ≡ s.setup
unfolding state_on landed with_cursor columns
back_setup p q s e n h = rw e (ap (with_tabs s.setup) (same_stops s.setup.tabs n h))

back_rest : (p q : List ℕ) (s : State) → let r = state_on p (state_on q s) in
    (r.core ≡ core_on p (core_on q s.core)) × ((r.sending ≡ s.sending) × (r.gathered ≡ s.gathered))
unfolding state_on
back_rest p q s = (refl, (refl, refl))

stops_none : (p : List ℕ) (s : State) → good p s ≡ true → s.core.screen.wide ≡ false → no_stops (drop 80 s.setup.tabs) ≡ true
unfolding columns
stops_none p s g e = rw e at (possible_parts s (good_parts p s g).1).setup.tabs

narrow_long : (p : List ℕ) (s : State) → good p s ≡ true → s.core.screen.wide ≡ false → length p ≡ 1920
unfolding columns
narrow_long p s g e = (good_parts p s g).0 ∙ rw e

long : {b : Bool} → b ≡ true → 1920 ≡ height * other_width b
unfolding columns
long e = rw e

sends_still : (q : List ℕ) (s : State) → sends (state_on q s).sending ≡ sends s.sending
unfolding state_on
sends_still q s = refl

lost_none : (p : List ℕ) (b : Bool) → b ≡ false → loses (columns true) (other_width true) 0 (converted b p) ≡ false
unfolding columns
lost_none p b e = rw e (wide_kept p)

back : (p : List ℕ) (s : State) (t u : List ℕ) → s.core.screen.wide ≡ false → length s.setup.tabs ≡ 132 → (convert_rule p s t).answer ≡ 0
    → length u ≡ length p → Back p s (convert_rule (convert_rule p s t).target (convert_rule p s t).state u)
back p s t u e n z m = rw (d.is, is) (record {
  answer = refl;
  page = page;
  core = rest.0 ∙ back_core _ q s.core e ∙ ap (λ (l : List ℕ). home_on l s.core) page;
  sending = rest.1.0;
  gathered = rest.1.1;
  setup = back_setup _ q s e n (stops_none p s d.fine e);
})
  where
    d : Done p s t
    d = done p s t z

    q : List ℕ
    q = converted s.core.screen.wide p

    w : State
    w = state_on q s

    narrow : w.core.screen.wide ≡ true
    narrow = state_wide q s ∙ ap not e

    page : converted w.core.screen.wide q ≡ p
    page = ap (λ (b : Bool). converted b q) narrow ∙ ap (λ (b : Bool). converted true (converted b p)) e ∙ back_page p (narrow_long p s d.fine e)

    rest : let r = state_on (converted w.core.screen.wide q) w in
        (r.core ≡ core_on (converted w.core.screen.wide q) (core_on q s.core)) × ((r.sending ≡ s.sending) × (r.gathered ≡ s.gathered))
    rest = back_rest (converted w.core.screen.wide q) q s

    is : convert_rule q w u
        ≡ record { answer = 0; target = converted w.core.screen.wide q; state = state_on (converted w.core.screen.wide q) w }
    is =
        converts q w u (turned_good p s d.fine d.quiet) (m ∙ narrow_long p s d.fine e ∙ long narrow) (sends_still q s ∙ d.quiet)
        (ap (λ (b : Bool). loses (columns b) (other_width b) 0 q) narrow ∙ lost_none p s.core.screen.wide e)

pub conversion : Conversion
conversion = record {
  stays_good = λ p s t z.
      let d = done p s t z in
      rw d.is (turned_good p s d.fine d.quiet, ap columns (state_wide (converted s.core.screen.wide p) s));
  refused = refused;
  lost = lost;
  barred = barred;
  cells = λ p s t row column z r a c. let d = done p s t z in rw d.is (same_cell s.core.screen.wide p row column r c a);
  nulls = λ p s t row column z r a c. let d = done p s t z in rw d.is (null_cell s.core.screen.wide p row column r c a);
  back = back;
}
