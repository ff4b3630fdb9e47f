-- The forward reading of the stretches: an equal cell is passed, and a stretch is one.
--     turn                       one stretch or none, and those from beyond it
--     reach_none, reach_stop, reach_turn, reach_go     a turn of the loop that looks for a stretch's end
--     put_none, put_then, put_copied     numbers put one after the other
-- Assumes nothing.
use Rattle.std.specs.Prelude.{◌≡◌, ℕ, suc, ◌+◌, ◌-◌, ◌/◌, ◌%◌, ◌<◌, ◌≤◌, Bool, true, false, not, eqb, ltb, leb, ◌⊎◌, List, [], ◌∷◌, ◌++◌, length, get_or, take, drop, set}
use Rattle.std.specs.List.{list_all}
use Rattle.std.proofs.lemmas.List.Edits.{sets-eq}
use borrow.Rule.Slice.PartMut.{put_mid}
use mathlib.Core.Path.{refl, sym, ap, ap₂, subst, ◌∙◌}
use mathlib.Core.List.{append-nil, append_assoc}
use mathlib.Core.Logic.{inl, inr}
use native.Mathlib.Numerals.{add-one}
use native.Mathlib.Omega.{arith}
use lib.ListN.{drop_of_length-le, length-append, length-take, length-drop}
use lib.Seq.{drop-cons, drop-drop, sets}
use borrow.Author.Tests.{eqb-true, eqb-false, eq-eqb, ne_eqb, lt-ltb, le-ltb}
use Rattle.rules.specs.declared.Personality.{Personality}
use Rattle.rules.specs.Cell.{pick, both, code}
use Rattle.rules.specs.Possible.{remembered_ok}
use Rattle.rules.proofs.Tests.{pick_if, either_way}
use Rattle.repaint.specs.Proposal.{Stretch, stretch, ends_row, lengthened, differing, attribute_code, cell_bytes, cells_bytes, last_shown}
use Rattle.repaint.specs.Proposal.{start_bytes, stretch_bytes, stretches_bytes, stretches, rows_of, columns_of, lengths_of, paint_bytes, is_text}
use Rattle.repaint.specs.Proposal.{all_text, served}
use Rattle.repaint.proofs.Passing.{and_both}
use Rattle.repaint.specs.Forward.{reach, stretches_from, one_of, beyond, shown_after, Put, SpansPut}

spans_equal : (at x y : ℕ) (a b : List ℕ) → eqb x y ≡ true → differing at (x ∷ a) (y ∷ b) ≡ differing (suc at) a b
unfolding differing
spans_equal at x y a b e = rw e

-- stretches from a later cell on: the differing cell stays alone
first_later : (at v k : ℕ) (a b : List ℕ) → suc at < k → lengthened at v (differing k a b) ≡ stretch at (v ∷ []) ∷ differing k a b
unfolding differing
first_later at v k [] b h = unfold lengthened in refl
first_later at v k (x ∷ a) [] h = unfold lengthened in refl
first_later at v k (x ∷ a) (y ∷ b) h =
    pick_if (λ (t : List Stretch). lengthened at v t ≡ stretch at (v ∷ []) ∷ t) (eqb x y) (λ e. first_later at v (suc k) a b (omega arith))
    (λ e. apart at v k y (differing (suc k) a b) h)
  where
    alone : (at v k : ℕ) (c : List ℕ) (l : List Stretch) → suc at < k → lengthened at v (stretch k c ∷ l) ≡ stretch at (v ∷ []) ∷ (stretch k c ∷ l)
    alone at v k c l h = unfold lengthened in rw (ne_eqb k (suc at) (λ z. omega arith))

    apart : (at v k y : ℕ) (t : List Stretch) → suc at < k → lengthened at v (lengthened k y t) ≡ stretch at (v ∷ []) ∷ lengthened k y t
    apart at v k y [] h = unfold lengthened in alone at v k (y ∷ []) [] h
    apart at v k y (s ∷ l) h =
        unfold lengthened in pick_if (λ (t : List Stretch). lengthened at v t ≡ stretch at (v ∷ []) ∷ t)
        (both (eqb s.start (suc k)) (not (ends_row k))) (λ e. alone at v k (y ∷ s.cells) l h) (λ e. alone at v k (y ∷ []) (s ∷ l) h)

-- at its row's end too
row_alone : (at v : ℕ) (t : List Stretch) → ends_row at ≡ true → lengthened at v t ≡ stretch at (v ∷ []) ∷ t
unfolding lengthened
row_alone at v [] e = refl
row_alone at v (s ∷ l) e = rw e (by (eqb s.start (suc at)))
  where
    by : (t : Bool) → pick (both t false) (stretch at (v ∷ s.cells) ∷ l) (stretch at (v ∷ []) ∷ (s ∷ l)) ≡ stretch at (v ∷ []) ∷ (s ∷ l)
    by true = refl
    by false = refl

-- before the stretch that begins at the next cell of its row
joins : (at v : ℕ) (c : List ℕ) (l : List Stretch) → ends_row at ≡ false → lengthened at v (stretch (suc at) c ∷ l) ≡ stretch at (v ∷ c) ∷ l
unfolding lengthened
joins at v c l e = rw (e, eq-eqb (suc at) (suc at) refl)

-- what follows a differing cell at `at`: m cells of its stretch
abbrev Follows : (at v m : ℕ) (a b : List ℕ) → Type 0
Follows at v m a b = lengthened at v (differing (suc at) a b) ≡ stretch at (v ∷ take m b) ∷ differing (suc at + m) (drop m a) (drop m b)

none_follow : (at v : ℕ) (a b : List ℕ) → lengthened at v (differing (suc at) a b) ≡ stretch at (v ∷ []) ∷ differing (suc at) a b → Follows at v 0 a b
none_follow at v a b e = let k : suc at + 0 ≡ suc at = omega arith in rw k e

more_follow : (at v x y m : ℕ) (a b : List ℕ) → ends_row at ≡ false → eqb x y ≡ false → Follows (suc at) y m a b → Follows at v (suc m) (x ∷ a) (y ∷ b)
unfolding differing
more_follow at v x y m a b t e f =
    let k : suc at + suc m ≡ suc (suc at) + m = omega arith in
    rw (e, f, k) (joins at v (y ∷ take m b) _ t)

follow : (at v : ℕ) (a b : List ℕ) → Follows at v (pick (ends_row at) 0 (reach (suc at) a b)) a b
unfolding reach
follow at v [] b =
    pick_if (λ (m : ℕ). Follows at v m [] b) (ends_row at) (λ t. none_follow at v [] b (row_alone at v _ t))
    (λ t. none_follow at v [] b (unfold lengthened differing in refl))
follow at v (x ∷ a) [] =
    pick_if (λ (m : ℕ). Follows at v m (x ∷ a) []) (ends_row at) (λ t. none_follow at v (x ∷ a) [] (row_alone at v _ t))
    (λ t. none_follow at v (x ∷ a) [] (unfold lengthened differing in refl))
follow at v (x ∷ a) (y ∷ b) =
    let i = follow (suc at) y a b in
    pick_if (λ (m : ℕ). Follows at v m (x ∷ a) (y ∷ b)) (ends_row at) (λ t. none_follow at v (x ∷ a) (y ∷ b) (row_alone at v _ t))
    (λ t. pick_if (λ (m : ℕ). Follows at v m (x ∷ a) (y ∷ b)) (eqb x y)
    (λ e. none_follow at v (x ∷ a) (y ∷ b) (rw (spans_equal (suc at) x y a b e) (first_later at v (suc (suc at)) a b (omega arith))))
    (λ e. more_follow at v x y (pick (ends_row (suc at)) 0 (reach (suc (suc at)) a b)) a b t e i))

-- a differing cell: its stretch, and those behind it
spans_stretch : (at x y n : ℕ) (a b : List ℕ) → eqb x y ≡ false → n ≡ reach at (x ∷ a) (y ∷ b)
    → differing at (x ∷ a) (y ∷ b) ≡ stretch at (take n (y ∷ b)) ∷ differing (at + n) (drop n (x ∷ a)) (drop n (y ∷ b))
unfolding differing reach
spans_stretch at x y n a b e f =
    let m = pick (ends_row at) 0 (reach (suc at) a b) in
    let g : n ≡ suc m = f ∙ rw e in
    let k : at + suc m ≡ suc at + m = omega arith in
    rw (g, e, k) (follow at y a b)

stretched : (at x y : ℕ) (a b : List ℕ) {n : ℕ} → eqb x y ≡ false → n ≡ reach at (x ∷ a) (y ∷ b) → 0 < n
unfolding reach
stretched at x y a b e f = rw (f, e) (omega arith)

-- ---- the loop that looks for the stretch's end

module _ (a b : List ℕ) (i : ℕ) (size : length a ≡ length b) where
  pub reach_none : length a ≤ i → reach i (drop i a) (drop i b) ≡ 0
  unfolding reach
  reach_none h = ap₂ (reach i) (drop_of_length-le a h) (drop_of_length-le b {i = i} (omega arith))

  module _ (h : i < length a) where
    opened : reach i (drop i a) (drop i b)
        ≡ pick (eqb (get_or a i 0) (get_or b i 0)) 0 (suc (pick (eqb ((i + 1) % 80) 0) 0 (reach (i + 1) (drop (i + 1) a) (drop (i + 1) b))))
    unfolding reach
    opened = rw (add-one i, drop-cons a i 0 h, drop-cons b i 0 (omega arith))

    pub reach_stop : get_or a i 0 ≡ get_or b i 0 → reach i (drop i a) (drop i b) ≡ 0
    reach_stop e = opened ∙ rw (eq-eqb (get_or a i 0) (get_or b i 0) e)

    pub reach_turn : (get_or a i 0 ≡ get_or b i 0 → ⊥) → (i + 1) % 80 ≡ 0 → reach i (drop i a) (drop i b) ≡ 1
    reach_turn n e = opened ∙ rw (ne_eqb (get_or a i 0) (get_or b i 0) n, eq-eqb ((i + 1) % 80) 0 e)

    pub reach_go : (get_or a i 0 ≡ get_or b i 0 → ⊥) → ((i + 1) % 80 ≡ 0 → ⊥)
        → reach i (drop i a) (drop i b) ≡ suc (reach (i + 1) (drop (i + 1) a) (drop (i + 1) b))
    reach_go n e = opened ∙ rw (ne_eqb (get_or a i 0) (get_or b i 0) n, ne_eqb ((i + 1) % 80) 0 e)

-- ---- one stretch or none, and those from beyond it

one_some : (at k : ℕ) (b : List ℕ) → 0 < k → one_of at k b ≡ stretch at (take k (drop at b)) ∷ []
unfolding one_of
one_some at k b h = rw (ne_eqb k 0 (λ e. omega arith))

one_none : (at k : ℕ) (b : List ℕ) → k ≡ 0 → one_of at k b ≡ []
unfolding one_of
one_none at k b e = rw (eq-eqb k 0 e)

pub turn : (a b : List ℕ) (at k : ℕ) → length a ≡ length b → at < length a → k ≡ reach at (drop at a) (drop at b)
    → stretches_from a b at ≡ one_of at k b ++ stretches_from a b (beyond at k)
turn a b at k size h e = by (either_way (eqb (get_or a at 0) (get_or b at 0)))
  where
    by : (eqb (get_or a at 0) (get_or b at 0) ≡ true) ⊎ (eqb (get_or a at 0) (get_or b at 0) ≡ false)
        → stretches_from a b at ≡ one_of at k b ++ stretches_from a b (beyond at k)
    by (inl z) =
        let s : k ≡ 0 = e ∙ reach_stop a b at size h (eqb-true _ _ z) in
        let d : differing at (drop at a) (drop at b) ≡ differing (at + 1) (drop (at + 1) a) (drop (at + 1) b) =
        rw (add-one at, drop-cons a at 0 h, drop-cons b at 0 (omega arith)) (spans_equal at (get_or a at 0) (get_or b at 0) _ _ z) in
        rw (one_none at k b s, eq-eqb k 0 s) d
    by (inr z) =
        let x = get_or a at 0 in
        let y = get_or b at 0 in
        let p = drop-cons a at 0 h in
        let q = drop-cons b at 0 (omega arith) in
        let g : k ≡ reach at (x ∷ drop (suc at) a) (y ∷ drop (suc at) b) = e ∙ ap₂ (reach at) p q in
        let some : 0 < k = stretched at x y _ _ z g in
        let d = spans_stretch at x y k (drop (suc at) a) (drop (suc at) b) z g in
        let f : differing at (drop at a) (drop at b) ≡ stretch at (take k (drop at b))
        ∷ differing (at + k) (drop k (drop at a)) (drop k (drop at b)) =
        rw (p, q) d in
        rw (one_some at k b some, ne_eqb k 0 (λ w. omega (arith, some, w))) (f ∙ rw (drop-drop k at a, drop-drop k at b))

-- ---- numbers put one after the other

sets_append : (r s : List ℕ) (n : ℕ) (w : List ℕ) → sets w n (r ++ s) ≡ sets (sets w n r) (n + length r) s
sets_append [] s n w = let e : n + 0 ≡ n = omega arith in rw e
sets_append (x ∷ r) s n w = let e : n + suc (length r) ≡ suc n + length r = omega arith in sets_append r s (suc n) (set w n x) ∙ rw e

pub put_none : (n : ℕ) (w : List ℕ) → Put n [] w n w
put_none n w = record { place = omega arith; room = refl }

pub put_then : {n r s : ℕ} {a b w v z : List ℕ} → Put n a w r v → Put r b v s z → Put n (a ++ b) w s z
put_then {n} {r} {s} {a} {b} {w} {v} {z} x y =
    record { place = omega (arith, x.place, y.place, length-append a b); room = y.room ∙ rw (x.place, x.room) (sym (sets_append a b n w)) }

pub put_copied : (n k : ℕ) (l w : List ℕ) {v : List ℕ} → n + length l ≤ length w → v ≡ l → k ≡ length l → Put n l w (n + length l) (put_mid n k w v)
put_copied n k l w {v} h e f = record {
  place = refl;
  room = rw (e, f, drop-drop (length l) n w) (sym (append_assoc (take n w) l (drop (n + length l) w)) ∙ sym (sets-eq l w n h));
}

-- ---- which pages are served

pub text_each : (m : Personality) (p : List ℕ) → list_all (is_text m) p ≡ all_text m p
unfolding all_text
text_each m [] = refl
text_each m (v ∷ p) = and_both (is_text m v) (text_each m p)

module _ (m : Personality) (a b : List ℕ) where
  pub served_from : (length a ≡ 1920 → ⊥) → false ≡ served m a b
  unfolding served
  served_from n = rw (ne_eqb (length a) 1920 n)

  module _ (ea : length a ≡ 1920) where
    pub served_to : (length b ≡ 1920 → ⊥) → false ≡ served m a b
    unfolding served
    served_to n = rw (eq-eqb (length a) 1920 ea, ne_eqb (length b) 1920 n)

    module _ (eb : length b ≡ 1920) where
      pub served_shown : all_text m a ≡ false → false ≡ served m a b
      unfolding served
      served_shown e = rw (eq-eqb (length a) 1920 ea, eq-eqb (length b) 1920 eb, e)

      pub served_wanted : all_text m a ≡ true → all_text m b ≡ false → false ≡ served m a b
      unfolding served
      served_wanted e f = rw (eq-eqb (length a) 1920 ea, eq-eqb (length b) 1920 eb, e, f)

      pub served_last : all_text m a ≡ true → all_text m b ≡ true → eqb (get_or a 1919 0) (get_or b 1919 0) ≡ served m a b
      unfolding served
      served_last e f = rw (eq-eqb (length a) 1920 ea, eq-eqb (length b) 1920 eb, e, f)

-- ---- a cell's bytes

pub text_made : (m : Personality) (v : ℕ) {r x y : Bool} → r ≡ both x y → x ≡ remembered_ok m (v / 1024)
    → y ≡ both (leb 0x20 (v % 1024)) (ltb (v % 1024) 0x7f)
    → r ≡ is_text m v
unfolding is_text
text_made m v e f g = e ∙ ap₂ both f g

pub code_low : (a : ℕ) → a < 16 → 0x30 + a ≡ attribute_code a
unfolding attribute_code
code_low a h = rw (lt-ltb a 16 h)

pub code_high : (a : ℕ) → 16 ≤ a → 0x60 + a ≡ attribute_code a
unfolding attribute_code
code_high a h = rw (le-ltb a 16 h) (omega arith)

module _ (a v : ℕ) where
  pub cell_same : v / 1024 ≡ a → cell_bytes a v ≡ code v ∷ []
  unfolding cell_bytes
  cell_same e = rw (eq-eqb (v / 1024) a e)

  pub cell_other : (v / 1024 ≡ a → ⊥) → cell_bytes a v ≡ 0x1b ∷ 0x47 ∷ attribute_code (v / 1024) ∷ code v ∷ []
  unfolding cell_bytes
  cell_other n = rw (ne_eqb (v / 1024) a n)

  module _ {n r : ℕ} {w w' : List ℕ} where
    pub put_same : v / 1024 ≡ a → Put n (v % 128 ∷ []) w r w' → Put n (cell_bytes a v) w r w'
    put_same e p = subst (λ (l : List ℕ). Put n l w r w') (sym (cell_same e)) p

    pub put_other : {x : ℕ} → (v / 1024 ≡ a → ⊥) → x ≡ attribute_code (v / 1024) → Put n (0x1b ∷ 0x47 ∷ x ∷ v % 128 ∷ []) w r w'
        → Put n (cell_bytes a v) w r w'
    put_other e f p =
        subst (λ (l : List ℕ). Put n l w r w') (sym (cell_other e)) (subst (λ (y : ℕ). Put n (0x1b ∷ 0x47 ∷ y ∷ v % 128 ∷ []) w r w') f p)

-- ---- cells put one after the other: what is to come makes of the slice what all make of the first

pub record Cells (part w₀ : List ℕ) (start first : ℕ) (i n a : ℕ) (w : List ℕ) : Type 0 where
  pub range : i ≤ length part
  pub long : length w ≡ length w₀
  pub count : n + length (cells_bytes a (drop i part)) ≡ start + length (cells_bytes first part)
  pub is : sets w n (cells_bytes a (drop i part)) ≡ sets w₀ start (cells_bytes first part)
  pub shown : last_shown a (drop i part) ≡ last_shown first part

pub cells_begin : (part w : List ℕ) (start a : ℕ) → Cells part w start a 0 start a w
cells_begin part w start a = record { range = omega arith; long = refl; count = refl; is = refl; shown = refl }

module _ {part w₀ : List ℕ} {start first i n a : ℕ} {w : List ℕ} (c : Cells part w₀ start first i n a w) where
  module _ (h : i < length part) where
    abbrev v : ℕ
    v = get_or part i 0

    cells_next : cells_bytes a (drop i part) ≡ cell_bytes a v ++ cells_bytes (v / 1024) (drop (i + 1) part)
    unfolding cells_bytes
    cells_next = rw (add-one i, drop-cons part i 0 h)

    shown_next : last_shown a (drop i part) ≡ last_shown (v / 1024) (drop (i + 1) part)
    unfolding last_shown
    shown_next = rw (add-one i, drop-cons part i 0 h)

    pub cells_fit : start + length (cells_bytes first part) ≤ length w₀ → n + length (cell_bytes a v) ≤ length w
    cells_fit k =
        omega (arith, c.count, c.long, ap length cells_next, length-append (cell_bytes a v) (cells_bytes (v / 1024) (drop (i + 1) part)), k)

    pub cells_go : {r : ℕ} {w' : List ℕ} → Put n (cell_bytes a v) w r w' → length w' ≡ length w → Cells part w₀ start first (i + 1) r (v / 1024) w'
    cells_go {r} {w'} p k =
        let x = cell_bytes a v in
        let y = cells_bytes (v / 1024) (drop (i + 1) part) in
        record {
          range = omega arith;
          long = k ∙ c.long;
          count = omega (arith, c.count, ap length cells_next, length-append x y, p.place);
          is = rw (p.place, p.room) (sym (sets_append x y n w) ∙ (ap (λ (z : List ℕ). sets w n z) (sym cells_next) ∙ c.is));
          shown = sym shown_next ∙ c.shown;
        }

  cells_none : length part ≤ i → cells_bytes a (drop i part) ≡ []
  unfolding cells_bytes
  cells_none h = rw (drop_of_length-le part {i = i} h)

  shown_none : length part ≤ i → last_shown a (drop i part) ≡ a
  unfolding last_shown
  shown_none h = rw (drop_of_length-le part {i = i} h)

  pub cells_done : length part ≤ i → Put start (cells_bytes first part) w₀ n w × (a ≡ last_shown first part)
  cells_done h =
      let e = cells_none h in
      (record { place = omega (arith, c.count, ap length e); room = sym (ap (λ (z : List ℕ). sets w n z) e) ∙ c.is }, sym (shown_none h) ∙ c.shown)

-- ---- the span of a stretch

module _ (b : List ℕ) (at k n : ℕ) (x y z : List ℕ) where
  pub span_none : k ≡ 0 → SpansPut n (one_of at k b) x y z n x y z
  span_none e =
      subst (λ (l : List Stretch). SpansPut n l x y z n x y z) (sym (one_none at k b e))
      (record { rows = put_none n x; columns = put_none n y; lengths = put_none n z })

  pub span_some : (r : ℕ) → 0 < k → at + k ≤ length b → r ≡ n + 1
      → SpansPut n (one_of at k b) x y z r (set x n (at / 80 + 1)) (set y n (at % 80 + 1)) (set z n k)
  span_some r h l e =
      let t : length (take k (drop at b)) ≡ k = omega (arith, length-take k (drop at b), length-drop at b) in
      subst (λ (s : List Stretch). SpansPut n s x y z r (set x n (at / 80 + 1)) (set y n (at % 80 + 1)) (set z n k)) (sym (one_some at k b h))
      (record {
        rows = record { place = e; room = refl };
        columns = record { place = e; room = refl };
        lengths = record { place = e; room = ap (λ (q : ℕ). set z n q) (sym t) };
      })

-- ---- the bytes of a stretch

start_length : (at : ℕ) → length (start_bytes at) ≡ 4
unfolding start_bytes
start_length at = refl

module _ (b : List ℕ) (at k a : ℕ) where
  abbrev cells : List ℕ
  cells = take k (drop at b)

  one_bytes : 0 < k → stretches_bytes a (one_of at k b) ≡ start_bytes at ++ cells_bytes a cells
  unfolding stretches_bytes stretch_bytes
  one_bytes h = ap (stretches_bytes a) (one_some at k b h) ∙ append-nil (start_bytes at ++ cells_bytes a cells)

  one_shown : 0 < k → shown_after a (one_of at k b) ≡ last_shown a cells
  unfolding shown_after
  one_shown h = ap (shown_after a) (one_some at k b h)

  none_bytes : k ≡ 0 → stretches_bytes a (one_of at k b) ≡ []
  unfolding stretches_bytes
  none_bytes e = ap (stretches_bytes a) (one_none at k b e)

  none_shown : k ≡ 0 → shown_after a (one_of at k b) ≡ a
  unfolding shown_after
  none_shown e = ap (shown_after a) (one_none at k b e)

  pub one_size : 0 < k → length (stretches_bytes a (one_of at k b)) ≡ 4 + length (cells_bytes a cells)
  one_size h = omega (arith, ap length (one_bytes h), length-append (start_bytes at) (cells_bytes a cells), start_length at)

  module _ {n r q : ℕ} {w z : List ℕ} where
    pub stretch_some : {m : ℕ} {v : List ℕ} → 0 < k → Put n (0x1b ∷ 0x3d ∷ (0x20 + at / 80) ∷ (0x20 + at % 80) ∷ []) w m v
        → Put m (cells_bytes a cells) v r z × (q ≡ last_shown a cells)
        → Put n (stretches_bytes a (one_of at k b)) w r z × (q ≡ shown_after a (one_of at k b))
    unfolding start_bytes
    stretch_some h p c = (subst (λ (l : List ℕ). Put n l w r z) (sym (one_bytes h)) (put_then p c.0), c.1 ∙ sym (one_shown h))

  pub stretch_none : (n : ℕ) (w : List ℕ) → k ≡ 0 → Put n (stretches_bytes a (one_of at k b)) w n w × (a ≡ shown_after a (one_of at k b))
  stretch_none n w e = (subst (λ (l : List ℕ). Put n l w n w) (sym (none_bytes e)) (put_none n w), sym (none_shown e))

-- ---- the loop over stretches

rows_append : (l m : List Stretch) → rows_of (l ++ m) ≡ rows_of l ++ rows_of m
rows_append [] m = refl
rows_append (s ∷ l) m = rw (rows_append l m)

columns_append : (l m : List Stretch) → columns_of (l ++ m) ≡ columns_of l ++ columns_of m
columns_append [] m = refl
columns_append (s ∷ l) m = rw (columns_append l m)

lengths_append : (l m : List Stretch) → lengths_of (l ++ m) ≡ lengths_of l ++ lengths_of m
lengths_append [] m = refl
lengths_append (s ∷ l) m = rw (lengths_append l m)

pub rows_length : (l : List Stretch) → length (rows_of l) ≡ length l
rows_length [] = refl
rows_length (s ∷ l) = ap suc (rows_length l)

bytes_append : (a : ℕ) (l m : List Stretch) → stretches_bytes a (l ++ m) ≡ stretches_bytes a l ++ stretches_bytes (shown_after a l) m
unfolding stretches_bytes shown_after
bytes_append a [] m = refl
bytes_append a (s ∷ l) m =
    ap (λ (z : List ℕ). stretch_bytes a s ++ z) (bytes_append (last_shown a s.cells) l m)
    ∙ sym (append_assoc (stretch_bytes a s) (stretches_bytes (last_shown a s.cells) l) (stretches_bytes (shown_after (last_shown a s.cells) l) m))

shown_append : (a : ℕ) (l m : List Stretch) → shown_after a (l ++ m) ≡ shown_after (shown_after a l) m
unfolding shown_after
shown_append a [] m = refl
shown_append a (s ∷ l) m = shown_append (last_shown a s.cells) l m

pub record Going (a b x₀ y₀ z₀ o₀ : List ℕ) (at n k c : ℕ) (x y z o : List ℕ) : Type 0 where
  pub done : List Stretch
  pub is : done ++ stretches_from a b at ≡ stretches a b
  pub range : at ≤ 1920
  pub spans : SpansPut 0 done x₀ y₀ z₀ n x y z
  pub bytes : Put 0 (stretches_bytes 0 done) o₀ k o
  pub shown : c ≡ shown_after 0 done
  pub long_x : length x ≡ length x₀
  pub long_y : length y ≡ length y₀
  pub long_z : length z ≡ length z₀
  pub long_o : length o ≡ length o₀

pub going_begin : (a b x y z o : List ℕ) → Going a b x y z o 0 0 0 0 x y z o
unfolding stretches_bytes shown_after
going_begin a b x y z o = record {
  done = [];
  is = refl;
  range = omega arith;
  spans = record { rows = put_none 0 x; columns = put_none 0 y; lengths = put_none 0 z };
  bytes = put_none 0 o;
  shown = refl;
  long_x = refl;
  long_y = refl;
  long_z = refl;
  long_o = refl;
}

reach_short : (at : ℕ) (a b : List ℕ) → reach at a b ≤ length a
unfolding reach
reach_short at [] b = omega arith
reach_short at (x ∷ a) [] = omega arith
reach_short at (x ∷ a) (y ∷ b) =
    let i = reach_short (suc at) a b in
    pick_if (λ (n : ℕ). n ≤ suc (length a)) (eqb x y) (λ e. omega arith)
    (λ e. pick_if (λ (n : ℕ). suc n ≤ suc (length a)) (ends_row at) (λ t. omega arith) (λ t. omega arith))

module _ (a b : List ℕ) (la : length a ≡ 1920) (lb : length b ≡ 1920) (at to : ℕ) (h : at < 1920)
    (e : to ≡ at + reach at (drop at a) (drop at b)) where
  pub end_range : (at ≤ to) × (to ≤ 1920)
  end_range = omega (arith, reach_short at (drop at a) (drop at b), length-drop at a)

  size_is : to - at ≡ reach at (drop at a) (drop at b)
  size_is = omega arith

  abbrev one : List Stretch
  one = one_of at (to - at) b

  step : stretches_from a b at ≡ one ++ stretches_from a b (beyond at (to - at))
  step = turn a b at (to - at) (la ∙ sym lb) (omega (arith, la)) size_is

  pub nearer : {next : ℕ} → next ≡ beyond at (to - at) → (at < next) × (next ≤ 1920)
  nearer {next} q =
      rw q (pick_if (λ (n : ℕ). (at < n) × (n ≤ 1920)) (eqb (to - at) 0) (λ z. omega arith)
      (λ z. let y = eqb-false (to - at) 0 z in omega (arith, end_range, y)))

  module _ {x₀ y₀ z₀ o₀ x y z o : List ℕ} {n k c : ℕ} (g : Going a b x₀ y₀ z₀ o₀ at n k c x y z o) where
    whole : (g.done ++ one) ++ stretches_from a b (beyond at (to - at)) ≡ stretches a b
    whole = append_assoc g.done one (stretches_from a b (beyond at (to - at))) ∙ (ap (λ (l : List Stretch). g.done ++ l) (sym step) ∙ g.is)

    count : n ≡ length g.done
    count = omega (arith, g.spans.rows.place, rows_length g.done)

    sizes : length g.done + length one ≤ length (stretches a b)
    sizes =
        omega (arith, ap length whole, length-append (g.done ++ one) (stretches_from a b (beyond at (to - at))), length-append g.done one)

    one_long : at < to → length one ≡ 1
    one_long l = ap length (one_some at (to - at) b (omega arith))

    pub span_fits : (v v₀ : List ℕ) → length v ≡ length v₀ → length (stretches a b) ≤ length v₀ → at < to → n < length v
    span_fits v v₀ l f t = omega (arith, count, sizes, one_long t, l, f)

    pub span_few : length (stretches a b) ≤ 960 → n ≤ 1920
    span_few f = omega (arith, count, sizes, f)

    abbrev rest : List Stretch
    rest = stretches_from a b (beyond at (to - at))

    sized : length (stretches_bytes 0 g.done) + length (stretches_bytes (shown_after 0 g.done) one) ≤ length (paint_bytes a b)
    sized =
        let p = ap (λ (l : List Stretch). length (stretches_bytes 0 l)) whole in
        let q = ap length (bytes_append 0 (g.done ++ one) rest) in
        let r = ap length (bytes_append 0 g.done one) in
        omega (
          arith,
          p,
          q,
          r,
          length-append (stretches_bytes 0 (g.done ++ one)) (stretches_bytes (shown_after 0 (g.done ++ one)) rest),
          length-append
              (stretches_bytes 0 g.done) (stretches_bytes (shown_after 0 g.done) one),
        )

    pub bytes_fit : length (paint_bytes a b) ≤ length o₀ → k + length (stretches_bytes c one) ≤ length o
    bytes_fit f =
        let s = ap (λ (q : ℕ). length (stretches_bytes q one)) g.shown in
        omega (arith, s, sized, g.bytes.place, g.long_o, f)

    pub going_on : {next n' k' c' : ℕ} {x' y' z' o' : List ℕ} → SpansPut n one x y z n' x' y' z'
        → Put k (stretches_bytes c one) o k' o' × (c' ≡ shown_after c one)
        → length x' ≡ length x → length y' ≡ length y → length z' ≡ length z → length o' ≡ length o → next ≡ beyond at (to - at)
        → Going a b x₀ y₀ z₀ o₀ next n' k' c' x' y' z' o'
    going_on {next} {n'} {k'} {c'} {x'} {y'} {z'} {o'} s p lx ly lz lo q = record {
      done = g.done ++ one;
      is = rw q whole;
      range = (nearer q).1;
      spans = record {
        rows = subst (λ (l : List ℕ). Put 0 l x₀ n' x') (sym (rows_append g.done one)) (put_then g.spans.rows s.rows);
        columns = subst (λ (l : List ℕ). Put 0 l y₀ n' y') (sym (columns_append g.done one)) (put_then g.spans.columns s.columns);
        lengths = subst (λ (l : List ℕ). Put 0 l z₀ n' z') (sym (lengths_append g.done one)) (put_then g.spans.lengths s.lengths);
      };
      bytes = subst (λ (l : List ℕ). Put 0 l o₀ k' o') (sym (bytes_append 0 g.done one))
          (put_then g.bytes (subst (λ (j : ℕ). Put k (stretches_bytes j one) o k' o') g.shown p.0));
      shown = p.1 ∙ (ap (λ (j : ℕ). shown_after j one) g.shown ∙ sym (shown_append 0 g.done one));
      long_x = lx ∙ g.long_x;
      long_y = ly ∙ g.long_y;
      long_z = lz ∙ g.long_z;
      long_o = lo ∙ g.long_o;
    }

pub going_done : {a b x₀ y₀ z₀ o₀ x y z o : List ℕ} {at n k c : ℕ} → length a ≡ 1920 → 1920 ≤ at → Going a b x₀ y₀ z₀ o₀ at n k c x y z o
    → SpansPut 0 (stretches a b) x₀ y₀ z₀ n x y z × Put 0 (paint_bytes a b) o₀ k o
going_done {a} {b} {x₀} {y₀} {z₀} {o₀} {x} {y} {z} {o} {at} {n} {k} {c} la h g =
    let e : stretches_from a b at ≡ [] = ap (λ (l : List ℕ). differing at l (drop at b)) (drop_of_length-le a {i = at} (omega arith))
    ∙ none_left at (drop at b) in
    let f : g.done ≡ stretches a b = sym (append-nil g.done) ∙ (ap (λ (l : List Stretch). g.done ++ l) (sym e) ∙ g.is) in (
      subst (λ (l : List Stretch). SpansPut 0 l x₀ y₀ z₀ n x y z) f g.spans,
      subst (λ (l : List Stretch). Put 0 (stretches_bytes 0 l) o₀ k o) f
          g.bytes,
    )
  where
    none_left : (at : ℕ) (l : List ℕ) → differing at [] l ≡ []
    none_left at l = unfold differing in refl
