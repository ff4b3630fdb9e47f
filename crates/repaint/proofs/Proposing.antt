-- What request A12 says of the proposer, and power-on at a width.
--     proposing, power_ons     the statements of specs/Theorems
-- Assumes nothing.
use Rattle.std.specs.Prelude.{◌≡◌, ℕ, zero, suc, ◌+◌, ◌≤◌, Bool, true, false, not, eqb, leb, ◌⊎◌, List, [], ◌∷◌, ◌++◌, length, take, drop, replicate, Ok, Err}
use mathlib.Core.Path.{refl, sym, ap, subst, ◌∙◌}
use mathlib.Core.Logic.{inl, inr}
use native.Mathlib.Omega.{arith}
use lib.ListN.{length-replicate}
use lib.Seq.{sets, sets-eq, length-sets, take_at, length-take-le}
use borrow.Author.Tests.{leb-true, eq-eqb, le-leb}
use Rattle.rules.specs.declared.Personality.{Personality}
use Rattle.rules.specs.Cell.{pick, both, either}
use Rattle.rules.specs.Row.{columns, column_of, wide_cells}
use Rattle.rules.specs.Search.{guarded_at, settled}
use Rattle.rules.specs.State.{segment_top, segment_bottom, with_cursor}
use Rattle.rules.specs.Possible.{power_on, blank, good}
use Rattle.rules.specs.Room.{over}
use Rattle.rules.specs.Fields.{page_width, is_page}
use Rattle.rules.specs.Carry.{landed}
use Rattle.rules.specs.Convert.{Turned, converted, loses, state_on, convert_rule}
use Rattle.rules.proofs.Tests.{both_parts, both_true, either_way}
use Rattle.rules.proofs.Searching.{length_guards, guard_at}
use Rattle.rules.proofs.Kept.{good_whole, power_on_possible}
use Rattle.rules.proofs.Convert.{converts, converted_length}
use Rattle.repaint.specs.Spans.{Accepts, Pages}
use Rattle.repaint.specs.Pass.{pages_width}
use Rattle.repaint.specs.Bytes.{power_on_at}
use Rattle.repaint.specs.Proposal.{differing, stretches, paint_bytes, served, Proposed, refused_with, fitting, rows_of, columns_of, lengths_of}
use Rattle.repaint.specs.Proposal.{propose_rule, refusal_number, told, Proposes}
use Rattle.repaint.specs.Forward.{Put, SpansPut, Holding}
use Rattle.repaint.specs.declared.ProposeRefusal.{ProposeRefusal}
use Rattle.repaint.specs.Theorems.{spans_for, Served, Proposing, PowerOns}
use Rattle.repaint.proofs.Passing.{width_80, widths}
use Rattle.repaint.proofs.Verdicts.{Run, run_accepts}
use Rattle.repaint.proofs.Stretching.{differing_run, Few, few}
use Rattle.repaint.proofs.Painting.{settled_open, differing_last, by_last, served_parts, painted}
use Rattle.repaint.proofs.Longest.{longest_spans}
use Rattle.repaint.proofs.Forwards.{rows_length}

-- ---- what is proposed

module _ (m : Personality) (a b : List ℕ) (s : Served m a b) where
  alike : length a ≡ length b
  alike = s.from ∙ sym s.to

  accepted : Accepts 80 a b (spans_for a b)
  accepted =
      let w : 80 ≡ pages_width a b = width_80 a b alike s.from in
      let p : Pages (pages_width a b) a b = record { alike = alike; width = inl (sym w, s.from) } in
      let r = differing_run a b s.from alike 1920 0 refl in
      subst (λ (k : ℕ). Accepts k a b (spans_for a b)) (sym w) (run_accepts a b p (subst (λ (k : ℕ). Run k a b 0 (spans_for a b)) w r))

  few_page : Few 0 (stretches a b)
  few_page = by_last (λ (x y : List ℕ). Few 0 (differing 0 x y)) ended a b s.from s.to s.last
    where
      ended : (a b : List ℕ) (z : ℕ) → length a ≡ 1919 → length b ≡ 1919 → Few 0 (differing 0 (a ++ z ∷ []) (b ++ z ∷ []))
      ended a b z e f = rw (differing_last 0 a b z (omega arith)) (few 0 a b (omega arith))

-- ---- what is refused

served_whole : (m : Personality) (a b : List ℕ) → Served m a b → served m a b ≡ true
unfolding served
served_whole m a b s =
    both_true (both_true (eq-eqb _ _ s.from) (eq-eqb _ _ s.to)) (both_true (both_true s.shown s.wanted) (eq-eqb _ _ s.last))

unserved : (m : Personality) (a b : List ℕ) → (Served m a b → ⊥) → served m a b ≡ false
unserved m a b n = by (either_way (served m a b))
  where
    by : (served m a b ≡ true) ⊎ (served m a b ≡ false) → served m a b ≡ false
    by (inl e) = absurd (n (served_parts m a b e))
    by (inr e) = e

page_test : (a b : List ℕ) → length a ≡ length b → (length a ≡ 1920) ⊎ (length a ≡ 3168) → both (eqb (length a) (length b)) (is_page (length a)) ≡ true
page_test a b e l = both_true (eq-eqb _ _ e) (by l)
  where
    known : (n : ℕ) → (n ≡ 1920) ⊎ (n ≡ 3168) → is_page n ≡ true
    known n (inl k) = rw k (unfold page_width in refl)
    known n (inr k) = rw k (unfold page_width in refl)

    by : (length a ≡ 1920) ⊎ (length a ≡ 3168) → is_page (length a) ≡ true
    by k = known (length a) k

le_then : {x y z : ℕ} → x ≤ y → y ≤ z → x ≤ z
le_then h k = omega arith

pick_answer : (t : Bool) (x y : Proposed) → (pick t x y).answer ≡ pick t x.answer y.answer
pick_answer true x y = refl
pick_answer false x y = refl

module _ (m : Personality) (a b rows columns lengths out : List ℕ) where
  abbrev fit : Bool
  fit = fitting (length (stretches a b)) (length (paint_bytes a b)) rows columns lengths out

  answer_served : Served m a b → (propose_rule m a b rows columns lengths out).answer ≡ pick fit 0 6
  unfolding propose_rule
  answer_served s = rw (page_test a b (s.from ∙ sym s.to) (inl s.from), served_whole m a b s) (pick_answer fit _ _)

  not_three : Served m a b → (propose_rule m a b rows columns lengths out).answer ≡ 3 → ⊥
  not_three s e = by fit (sym (answer_served s) ∙ e)
    where
      by : (t : Bool) → pick {A = ℕ} t 0 6 ≡ 3 → ⊥
      by true z = omega (arith, z)
      by false z = omega (arith, z)

  is_three : length a ≡ length b → (length a ≡ 1920) ⊎ (length a ≡ 3168) → (Served m a b → ⊥)
      → propose_rule m a b rows columns lengths out ≡ refused_with 3 rows columns lengths out
  unfolding propose_rule
  is_three e l n = rw (page_test a b e l, unserved m a b n)

  enough : Served m a b → 960 ≤ length rows → 960 ≤ length columns → 960 ≤ length lengths → 7772 ≤ length out
      → (propose_rule m a b rows columns lengths out).answer ≡ 0
  enough s r c l o =
      let f = few_page m a b s in
      let n : length (stretches a b) ≤ 960 = omega (arith, f.all) in
      let k : length (paint_bytes a b) ≤ 7772 = f.bytes 0 in
      let t : fit ≡ true =
      both_true
      (both_true (le-leb _ (length rows) (le_then n r))
      (both_true (le-leb _ (length columns) (le_then n c)) (le-leb _ (length lengths) (le_then n l))))
      (le-leb _ (length out) (le_then k o)) in
      answer_served s ∙ ap (λ (z : Bool). pick {A = ℕ} z 0 6) t

-- lists of 960 numbers and 7,772 bytes hold what is proposed
pub holding : (m : Personality) (a b x y z o : List ℕ) → served m a b ≡ true → 960 ≤ length x → 960 ≤ length y → 960 ≤ length z → 7772 ≤ length o
    → Holding a b x y z o
holding m a b x y z o e hx hy hz ho =
    let f = few_page m a b (served_parts m a b e) in
    let n : length (stretches a b) ≤ 960 = omega (arith, f.all) in
    let k : length (paint_bytes a b) ≤ 7772 = f.bytes 0 in
    record { rows = le_then n hx; columns = le_then n hy; lengths = le_then n hz; few = n; bytes = le_then k ho }

pub served_lengths : (m : Personality) (a b : List ℕ) → served m a b ≡ true → (length a ≡ 1920) × (length b ≡ 1920)
served_lengths m a b e = let s = served_parts m a b e in (s.from, s.to)

pub proposing : Proposing
proposing = record {
  spans_accepted = λ m a b e. accepted m a b (served_parts m a b e);
  bytes_accepted = painted;
  longest = λ m a b e. let s = served_parts m a b e in longest_spans a b s.from (s.from ∙ sym s.to);
  spans = λ m a b e. omega (arith, (few_page m a b (served_parts m a b e)).all);
  bytes = λ m a b e. (few_page m a b (served_parts m a b e)).bytes 0;
  excepted = λ m a b rows columns lengths out e s. not_three m a b rows columns lengths out s e;
  refused = is_three;
  roomy = enough;
}

-- ---- power-on at a width

on_good : (m : Personality) → good blank (power_on m) ≡ true
unfolding blank power_on columns
on_good m = good_whole blank (power_on m) refl (power_on_possible m)

settled_home : (q : List ℕ) → length q ≡ 3168 → settled (guarded_at false q) 0 3168 0 ≡ 0
settled_home q e =
    settled_open (guarded_at false q) 0 3168 0 (omega arith) (omega (arith, e, length_guards false q)) (guard_at false q 0 (omega (arith, e)))

on_wide : (m : Personality) (q : List ℕ) → length q ≡ 3168 → state_on q (power_on m) ≡ power_on_at true m
unfolding state_on power_on_at power_on landed with_cursor segment_top segment_bottom columns
on_wide m q e = rw (settled_home q e)

-- a blank page loses nothing
lose_next : (t r : Bool) → r ≡ false → either (both t (not (eqb 0 0))) r ≡ false
lose_next true r e = e
lose_next false r e = e

none_lost : (v w i n : ℕ) → loses v w i (replicate n 0) ≡ false
unfolding loses
none_lost v w i zero = refl
none_lost v w i (suc n) = lose_next (leb w (column_of v i)) (loses v w (suc i) (replicate n 0)) (none_lost v w (suc i) n)

blank_lost : loses 80 132 0 blank ≡ false
unfolding blank
blank_lost = none_lost 80 132 0 1920

converts_on : (m : Personality) (t : List ℕ) → length t ≡ wide_cells
    → convert_rule blank (power_on m) t ≡ record { answer = 0; target = converted false blank; state = state_on (converted false blank) (power_on m) }
unfolding power_on columns
converts_on m t e = converts blank (power_on m) t (on_good m) e refl blank_lost

wide_blank : length (converted false blank) ≡ 3168
unfolding columns
wide_blank = converted_length false blank

pub power_ons : PowerOns
unfolding power_on_at power_on
power_ons = record {
  narrow = λ m. refl;
  wide = λ m t e.
      let k = converts_on m t e in
      (ap (λ (r : Turned). r.answer) k, ap (λ (r : Turned). r.state) k ∙ on_wide m (converted false blank) wide_blank);
}

-- ---- the call

-- what was put at the front, read back
pub put_front : {l w v : List ℕ} {n k : ℕ} → Put 0 l w n v → n ≤ length w → k ≡ n → take k v ≡ l
put_front {l} {w} {v} {n} {k} p h e =
    let z : length l ≡ n = omega (arith, p.place) in
    let q : v ≡ l ++ drop (length l) w = p.room ∙ front l w (omega (arith, z)) in
    rw e (ap (take n) q ∙ take_at l (drop (length l) w) n z)
  where
    front : (l w : List ℕ) → length l ≤ length w → sets w 0 l ≡ l ++ drop (length l) w
    front l w h = let z : 0 + length l ≡ length l = omega arith in sets-eq l w 0 (omega arith) ∙ rw z

pub over_part : (r w : List ℕ) {v : List ℕ} (n : ℕ) → n ≤ length r → v ≡ take n r → v ++ drop n w ≡ over (take n r) w
unfolding over
over_part r w n h e = rw e (ap (λ (k : ℕ). take n r ++ drop k w) (sym (length-take-le n r h)))

module _ (m : Personality) (a b x y z o : List ℕ) where
  abbrev test : Bool
  test = both (eqb (length a) (length b)) (is_page (length a))

  no_test : pages_width a b ≡ 0 → test ≡ false
  unfolding pages_width
  no_test e = by (either_way (eqb (length a) (length b)))
    where
      by : (eqb (length a) (length b) ≡ true) ⊎ (eqb (length a) (length b) ≡ false) → test ≡ false
      by (inl t) = let k : page_width (length a) ≡ 0 = rw t at e in rw (t, k)
      by (inr t) = rw t

  is_test : (pages_width a b ≡ 0 → ⊥) → test ≡ true
  is_test n = by (widths a b)
    where
      by_width : length a ≡ length b → ((pages_width a b ≡ 80) × (length a ≡ 1920)) ⊎ ((pages_width a b ≡ 132) × (length a ≡ 3168)) → test ≡ true
      by_width e (inl k) = page_test a b e (inl k.1)
      by_width e (inr k) = page_test a b e (inr k.1)

      by : ((pages_width a b ≡ 0) × ((w : ℕ) → Pages w a b → ⊥)) ⊎ Pages (pages_width a b) a b → test ≡ true
      by (inl k) = absurd (n k.0)
      by (inr p) = by_width p.alike p.width

  abbrev rule : Proposed
  rule = propose_rule m a b x y z o

  same_of : (e : ProposeRefusal) → rule ≡ refused_with (refusal_number e) x y z o → Proposes rule (told (Err e)) x y z o
  same_of e f =
      subst (λ (q : Proposed). Proposes q (told (Err e)) x y z o) (sym f)
      (record { answer = refl; spans = refl; bytes = refl; rows = refl; columns = refl; lengths = refl; out = refl })

  rule_seven : pages_width a b ≡ 0 → rule ≡ refused_with 7 x y z o
  unfolding propose_rule
  rule_seven e = rw (no_test e)

  pub gives_seven : pages_width a b ≡ 0 → Proposes rule (told (Err ProposeRefusal.WrongLength)) x y z o
  gives_seven e = same_of ProposeRefusal.WrongLength (rule_seven e)

  module _ (t : pages_width a b ≡ 0 → ⊥) where
    rule_three : served m a b ≡ false → rule ≡ refused_with 3 x y z o
    unfolding propose_rule
    rule_three f = rw (is_test t, f)

    pub gives_three : served m a b ≡ false → Proposes rule (told (Err ProposeRefusal.NotServed)) x y z o
    gives_three f = same_of ProposeRefusal.NotServed (rule_three f)

    module _ (s : served m a b ≡ true) {n k : ℕ} (en : n ≡ length (stretches a b)) (ek : k ≡ length (paint_bytes a b)) where
      fits_as : (v : Bool) → both (both (leb n (length x)) (both (leb n (length y)) (leb n (length z)))) (leb k (length o)) ≡ v
          → fitting (length (stretches a b)) (length (paint_bytes a b)) x y z o ≡ v
      fits_as v e = rw (en, ek) at e

      rule_six : fitting (length (stretches a b)) (length (paint_bytes a b)) x y z o ≡ false → rule ≡ refused_with 6 x y z o
      unfolding propose_rule
      rule_six f = rw (is_test t, s, f)

      pub gives_six : both (both (leb n (length x)) (both (leb n (length y)) (leb n (length z)))) (leb k (length o)) ≡ false
          → Proposes rule (told (Err ProposeRefusal.NoRoom)) x y z o
      gives_six f = same_of ProposeRefusal.NoRoom (rule_six (fits_as false f))

      abbrev all : Proposed
      all = record {
        answer = 0;
        spans = length (stretches a b);
        bytes = length (paint_bytes a b);
        rows = over (rows_of (stretches a b)) x;
        columns = over (columns_of (stretches a b)) y;
        lengths = over (lengths_of (stretches a b)) z;
        out = over (paint_bytes a b) o;
      }

      rule_done : fitting (length (stretches a b)) (length (paint_bytes a b)) x y z o ≡ true → rule ≡ all
      unfolding propose_rule
      rule_done f = rw (is_test t, s, f)

      pub gives_all : {x' y' z' o' : List ℕ} → both (both (leb n (length x)) (both (leb n (length y)) (leb n (length z)))) (leb k (length o)) ≡ true
          → x' ≡ over (rows_of (stretches a b)) x → y' ≡ over (columns_of (stretches a b)) y → z' ≡ over (lengths_of (stretches a b)) z
          → o' ≡ over (paint_bytes a b) o
          → Proposes rule (told (Ok (record { spans = n; bytes = k }))) x' y' z' o'
      gives_all {x'} {y'} {z'} {o'} f ex ey ez eo =
          subst (λ (q : Proposed). Proposes q (told (Ok (record { spans = n; bytes = k }))) x' y' z' o') (sym (rule_done (fits_as true f)))
          (record { answer = refl; spans = en; bytes = ek; rows = ex; columns = ey; lengths = ez; out = eo })

-- ---- what is made beside the rooms

abbrev fresh : List ℕ
fresh = replicate 960 0

abbrev fresh_bytes : List ℕ
fresh_bytes = replicate 7772 0

fresh_length : length fresh ≡ 960
fresh_length = length-replicate {A = ℕ} 960 0

bytes_length : length fresh_bytes ≡ 7772
bytes_length = length-replicate {A = ℕ} 7772 0

pub holding_fresh : (m : Personality) (a b : List ℕ) → served m a b ≡ true → Holding a b fresh fresh fresh fresh_bytes
holding_fresh m a b e =
    holding m a b fresh fresh fresh fresh_bytes e (omega (arith, fresh_length)) (omega (arith, fresh_length)) (omega (arith, fresh_length))
    (omega (arith, bytes_length))

abbrev pub Made : List ℕ → List ℕ → ℕ → ℕ → List ℕ → List ℕ → List ℕ → List ℕ → Type 0
Made a b n k r c l o = SpansPut 0 (stretches a b) fresh fresh fresh n r c l × Put 0 (paint_bytes a b) fresh_bytes k o

put_long : {l w v : List ℕ} {n : ℕ} → Put 0 l w n v → length v ≡ length w
put_long {l} {w} p = ap length p.room ∙ length-sets w 0 l

module _ (m : Personality) (a b : List ℕ) (s : served m a b ≡ true) {n k : ℕ} {r c l o : List ℕ} (p : Made a b n k r c l o) where
  pub made_count : n ≡ length (stretches a b)
  made_count = omega (arith, p.0.rows.place, rows_length (stretches a b))

  pub made_size : k ≡ length (paint_bytes a b)
  made_size = omega (arith, p.1.place)

  pub made_few : (n ≤ 960) × (k ≤ 7772)
  made_few = let h = holding_fresh m a b s in (omega (arith, made_count, h.few), omega (arith, made_size, h.bytes, bytes_length))

  pub made_fit : (n ≤ 960) × ((n ≤ length r) × ((n ≤ length c) × ((n ≤ length l) × (k ≤ length o))))
  made_fit =
      let f = made_few in (
        f.0,
        (
          omega (arith, f.0, put_long p.0.rows, fresh_length),
          (
            omega (arith, f.0, put_long p.0.columns, fresh_length),
            (omega (arith, f.0, put_long p.0.lengths, fresh_length), omega (arith, f.1, put_long p.1, bytes_length)),
          ),
        ),
      )

  pub made_given : (t : pages_width a b ≡ 0 → ⊥) (x y z w : List ℕ) {x' y' z' w' : List ℕ}
      → both (both (leb n (length x)) (both (leb n (length y)) (leb n (length z)))) (leb k (length w)) ≡ true
      → (x' ≡ over (take n r) x) × ((y' ≡ over (take n c) y) × ((z' ≡ over (take n l) z) × (w' ≡ over (take k o) w)))
      → Proposes (propose_rule m a b x y z w) (told (Ok (record { spans = n; bytes = k }))) x' y' z' w'
  made_given t x y z w f g =
      let q = made_few in
      gives_all m a b x y z w t s made_count made_size f
      (g.0 ∙ ap (λ (v : List ℕ). over v x) (put_front p.0.rows (omega (arith, q.0, fresh_length)) refl))
      (g.1.0 ∙ ap (λ (v : List ℕ). over v y) (put_front p.0.columns (omega (arith, q.0, fresh_length)) refl))
      (g.1.1.0 ∙ ap (λ (v : List ℕ). over v z) (put_front p.0.lengths (omega (arith, q.0, fresh_length)) refl))
      (g.1.1.1 ∙ ap (λ (v : List ℕ). over v w) (put_front p.1 (omega (arith, q.1, bytes_length)) refl))

pub rooms : (n k x y z w : ℕ) → both (both (leb n x) (both (leb n y) (leb n z))) (leb k w) ≡ true → (n ≤ x) × ((n ≤ y) × ((n ≤ z) × (k ≤ w)))
rooms n k x y z w e =
    let a = both_parts (both (leb n x) (both (leb n y) (leb n z))) (leb k w) e in
    let b = both_parts (leb n x) (both (leb n y) (leb n z)) a.0 in
    let c = both_parts (leb n y) (leb n z) b.1 in
    (leb-true n x b.0, (leb-true n y c.0, (leb-true n z c.1, leb-true k w a.1)))
