-- The exported calls of repainting, from the promises of the crate `repaint`.
--     put_on, put_done                     the numbers of spans, put by a loop
--     bytes_named                          the judge of bytes
--     propose_fits                         how many spans the proposer gives
--     propose_all                          the proposer, with its spans as numbers
--     propose_unnamed, propose_named       and with a number for its personality
-- Assumes nothing.
use mathlib.Core.Path.{◌≡◌, refl, sym, ap, subst, ◌∙◌}
use mathlib.Core.Bool.{Bool, true, false}
use mathlib.Core.List.{List, [], ◌∷◌, ◌++◌, map}
use mathlib.Core.Logic.{◌⊎◌, inl, inr}
use Prim.Native.Nat.{ℕ, zero, suc, ◌+◌, ◌*◌, ◌≤◌, ◌<◌, zero-le}
use native.Mathlib.Omega.{arith}
use lib.Dec.{leb, eqb}
use lib.ListN.{length, get_or, set, take, drop}
use lib.Seq.{length-take-le, get_or-take, take_at}
use borrow.Author.Tests.{leb-true, leb-false, le-leb, lt-leb}
use Rattle.rules.specs.declared.Personality.{Personality}
use Rattle.rules.specs.Cell.{pick, both}
use Rattle.rules.specs.Room.{over}
use Rattle.rules.specs.Fields.{is_page}
use Rattle.rules.proofs.Tests.{pick_if, either_way, both_parts}
use Rattle.repaint.specs.declared.ProposeResult.{ProposeResult}
use Rattle.repaint.specs.declared.Span.{Span}
use Rattle.repaint.specs.Spans.{spans_of}
use Rattle.repaint.specs.Bytes.{BytesVerdict}
use Rattle.repaint.specs.Proposal.{Stretch, span_of, stretches, rows_of, columns_of, lengths_of, paint_bytes, served, refused_with, fitting, Proposed}
use Rattle.repaint.specs.Proposal.{propose_rule, Proposes}
use Rattle.repaint.specs.Theorems.{spans_for}
use Rattle.repaint.proofs.Leading.{copy_step, copy_done}
use Rattle.repaint.proofs.Proposing.{proposing}
use Rattle.wy50.specs.Raw.{is_personality, personality_at}
use Rattle.wy50.specs.Repainting.{RawBytesVerdict, span_numbers, RawProposed, unproposed, proposed, numbers_rule, raw_propose, RawProposes}
use Rattle.wy50.specs.Repainting.{span_room}

-- ---- the numbers of spans

pub numbers_long : (l : List Span) → length (span_numbers l) ≡ 3 * length l
unfolding span_numbers
numbers_long [] = refl
numbers_long (s ∷ l) = let k = numbers_long l in omega (arith, k)

-- three lists of one length
record Alike (x y z : List ℕ) : Type 0 where
  columns : length y ≡ length x
  lengths : length z ≡ length x

alike_next : {r c n : ℕ} {x y z : List ℕ} → Alike (r ∷ x) (c ∷ y) (n ∷ z) → Alike x y z
alike_next e = record { columns = omega (arith, e.columns); lengths = omega (arith, e.lengths) }

numbers_length : (x y z : List ℕ) → Alike x y z → length (span_numbers (spans_of x y z)) ≡ 3 * length x
unfolding span_numbers
numbers_length [] y z e = refl
numbers_length (r ∷ x) [] z e = absurd (omega (arith, e.columns))
numbers_length (r ∷ x) (c ∷ y) [] e = absurd (omega (arith, e.lengths))
numbers_length (r ∷ x) (c ∷ y) (n ∷ z) e = let k = numbers_length x y z (alike_next e) in omega (arith, k)

-- the i-th of each list, where it stands among the numbers
record Stands (x y z : List ℕ) (i : ℕ) (f : List ℕ) (k : ℕ) : Type 0 where
  row : get_or f k 0 ≡ get_or x i 0
  column : get_or f (k + 1) 0 ≡ get_or y i 0
  size : get_or f (k + 2) 0 ≡ get_or z i 0

stands : (x y z : List ℕ) (i : ℕ) → Alike x y z → i < length x → Stands x y z i (span_numbers (spans_of x y z)) (3 * i)
unfolding span_numbers
stands [] y z i e h = absurd (omega arith)
stands (r ∷ x) [] z i e h = absurd (omega (arith, e.columns))
stands (r ∷ x) (c ∷ y) [] i e h = absurd (omega (arith, e.lengths))
stands (r ∷ x) (c ∷ y) (n ∷ z) zero e h = record { row = refl; column = refl; size = refl }
stands (r ∷ x) (c ∷ y) (n ∷ z) (suc i) e h =
    let s = stands x y z i (alike_next e) (omega arith) in
    let k : 3 * suc i ≡ suc (suc (suc (3 * i))) = omega arith in
    let k₁ : 3 * suc i + 1 ≡ suc (suc (suc (3 * i + 1))) = omega arith in
    let k₂ : 3 * suc i + 2 ≡ suc (suc (suc (3 * i + 2))) = omega arith in
    record { row = rw k s.row; column = rw k₁ s.column; size = rw k₂ s.size }

-- three stores more
three : (f w : List ℕ) {c : List ℕ} (k p q r : ℕ) → k + 2 < length f → k + 2 < length w → get_or f k 0 ≡ p → get_or f (k + 1) 0 ≡ q → get_or f (k + 2) 0 ≡ r
    → c ≡ take k f ++ drop k w → set (set (set c k p) (k + 1) q) (k + 2) r ≡ take (k + 3) f ++ drop (k + 3) w
three f w {c} k p q r h g ep eq er e =
    let one : k + 1 + 1 ≡ k + 2 = omega arith in
    let two : k + 2 + 1 ≡ k + 3 = omega arith in
    let a : set c k p ≡ take (k + 1) f ++ drop (k + 1) w = rw (← ep) (copy_step f w k (omega arith) (omega arith) e) in
    let b : set (set c k p) (k + 1) q ≡ take (k + 1 + 1) f ++ drop (k + 1 + 1) w = rw (← eq) (copy_step f w (k + 1) (omega arith) (omega arith) a) in
    let b' : set (set c k p) (k + 1) q ≡ take (k + 2) f ++ drop (k + 2) w = rw one at b in
    let d : set (set (set c k p) (k + 1) q) (k + 2) r ≡ take (k + 2 + 1) f ++ drop (k + 2 + 1) w = rw (← er) (copy_step f w (k + 2) h g b') in
    rw two at d

module _ (n : ℕ) (x y z w : List ℕ) (long : (n ≤ length x) × ((n ≤ length y) × (n ≤ length z))) where
  abbrev first : List ℕ
  first = span_numbers (spans_of (take n x) (take n y) (take n z))

  count : length (take n x) ≡ n
  count = length-take-le n x long.0

  alike : Alike (take n x) (take n y) (take n z)
  alike = record { columns = length-take-le n y long.1.0 ∙ sym count; lengths = length-take-le n z long.1.1 ∙ sym count }

  first_length : length first ≡ 3 * n
  first_length = numbers_length (take n x) (take n y) (take n z) alike ∙ ap (λ (k : ℕ). 3 * k) count

  pub put_on : {c : List ℕ} (i : ℕ) → i < n → 3 * n ≤ length w → c ≡ take (3 * i) first ++ drop (3 * i) w
      → set (set (set c (3 * i) (get_or x i 0)) (3 * i + 1) (get_or y i 0)) (3 * i + 2) (get_or z i 0) ≡ take (3 * (i + 1)) first ++ drop (3 * (i + 1)) w
  put_on {c} i h g q =
      let k : 3 * (i + 1) ≡ 3 * i + 3 = omega arith in
      let s = stands (take n x) (take n y) (take n z) i alike (omega (arith, count, h)) in
      rw k
      (three first w (3 * i) (get_or x i 0) (get_or y i 0) (get_or z i 0) (omega (arith, first_length, h)) (omega (arith, g, h))
      (s.row ∙ get_or-take n x i 0 h) (s.column ∙ get_or-take n y i 0 h) (s.size ∙ get_or-take n z i 0 h) q)

  pub put_done : {c : List ℕ} (i : ℕ) → n ≤ i → i ≤ n → c ≡ take (3 * i) first ++ drop (3 * i) w → c ≡ over first w
  put_done i h g q = copy_done first w (3 * i) (omega (arith, first_length, h)) (omega (arith, first_length, g)) q

-- ---- the judge of bytes

module _ (v : ℕ) (a b bytes : List ℕ) where
  pub bytes_named : {m : Personality} {k r : ℕ} → is_personality v ≡ true → m ≡ personality_at v → BytesVerdict m a b bytes k → r ≡ k
      → RawBytesVerdict v a b bytes r
  bytes_named {k = k} on e h f =
      subst (λ (n : ℕ). RawBytesVerdict v a b bytes n) (sym f)
      (RawBytesVerdict.named on (subst (λ (n : Personality). BytesVerdict n a b bytes k) e h))

-- ---- the proposer

lists_hold : (l : List Stretch) → spans_of (rows_of l) (columns_of l) (lengths_of l) ≡ map span_of l
lists_hold [] = refl
lists_hold (s ∷ l) = rw (lists_hold l)

pub spans_count : (l : List Stretch) → length (map span_of l) ≡ length l
spans_count [] = refl
spans_count (s ∷ l) = ap suc (spans_count l)

rows_count : (l : List Stretch) → length (rows_of l) ≡ length l
rows_count [] = refl
rows_count (s ∷ l) = ap suc (rows_count l)

columns_count : (l : List Stretch) → length (columns_of l) ≡ length l
columns_count [] = refl
columns_count (s ∷ l) = ap suc (columns_count l)

lengths_count : (l : List Stretch) → length (lengths_of l) ≡ length l
lengths_count [] = refl
lengths_count (s ∷ l) = ap suc (lengths_count l)

-- what fits the lists that are made fits the room, and the other way round
room_leb : (n k i : ℕ) → k ≡ span_room n → i ≤ 960 → leb i k ≡ leb (3 * i) n
room_leb n k i e f = by (either_way (leb (3 * i) n))
  where
    by : (leb (3 * i) n ≡ true) ⊎ (leb (3 * i) n ≡ false) → leb i k ≡ leb (3 * i) n
    by (inl t) = let g = leb-true (3 * i) n t in le-leb i k (omega (arith, e, f, g)) ∙ sym t
    by (inr t) = let g = leb-false (3 * i) n t in lt-leb i k (omega (arith, e, g)) ∙ sym t

both_same : (s t : Bool) → both (both s (both s s)) t ≡ both s t
both_same true t = refl
both_same false t = refl

front : (l w : List ℕ) {x : List ℕ} (n : ℕ) → length l ≡ n → x ≡ over l w → take n x ≡ l
unfolding over
front l w n e f = ap (take n) f ∙ take_at l (drop (length l) w) n e

-- no more spans than the first list has room for
module _ (m : Personality) (a b o x y z : List ℕ) where
  spans_fit : (propose_rule m a b x y z o).spans ≤ length x
  unfolding propose_rule
  spans_fit =
      let n = length (stretches a b) in
      let fits = both (leb n (length x)) (both (leb n (length y)) (leb n (length z))) in
      pick_if (λ (q : Proposed). q.spans ≤ length x) (both (eqb (length a) (length b)) (is_page (length a)))
      (λ e.
      pick_if (λ (q : Proposed). q.spans ≤ length x) (served m a b)
      (λ f.
      pick_if (λ (q : Proposed). q.spans ≤ length x) (both fits (leb (length (paint_bytes a b)) (length o)))
      (λ t. leb-true n (length x) (both_parts (leb n (length x)) _ (both_parts fits _ t).0).0) (λ t. zero-le)) (λ f. zero-le)) (λ e. zero-le)

  pub propose_fits : {r : ProposeResult} {x' y' z' o' : List ℕ} → Proposes (propose_rule m a b x y z o) r x' y' z' o' → r.spans ≤ length x
  propose_fits h = subst (λ (n : ℕ). n ≤ length x) (sym h.spans) spans_fit

-- x, y, z are the lists lent, and x', y', z' what they are then; the numbers put are those of the first spans of these
module _ (m : Personality) (a b w o x y z : List ℕ) where
  module _ {x' y' z' o' w' : List ℕ} {r : ProposeResult} (ex : length x ≡ span_room (length w)) (ey : length y ≡ length x) (ez : length z ≡ length x)
      (h : Proposes (propose_rule m a b x y z o) r x' y' z' o')
      (put : w' ≡ over (span_numbers (spans_of (take r.spans x') (take r.spans y') (take r.spans z'))) w) where
    abbrev page : Bool
    page = both (eqb (length a) (length b)) (is_page (length a))

    abbrev l : List Stretch
    l = stretches a b

    abbrev rule : Proposed
    rule = propose_rule m a b x y z o

    abbrev Gives : RawProposed → Type 0
    Gives q = RawProposes q r w' o'

    refused : (n : ℕ) → rule ≡ refused_with n x y z o → Gives (unproposed n w o)
    unfolding span_numbers over
    refused n f =
        let g = subst (λ (q : Proposed). Proposes q r x' y' z' o') f h in
        let none : w' ≡ w = rw g.spans at put in
        record { answer = g.answer; spans = g.spans; bytes = g.bytes; numbers = none; out = g.out }

    rule_seven : page ≡ false → rule ≡ refused_with 7 x y z o
    unfolding propose_rule
    rule_seven f = rw f

    rule_three : page ≡ true → served m a b ≡ false → rule ≡ refused_with 3 x y z o
    unfolding propose_rule
    rule_three f g = rw (f, g)

    abbrev fit : Bool
    fit = fitting (length l) (length (paint_bytes a b)) x y z o

    rule_six : page ≡ true → served m a b ≡ true → fit ≡ false → rule ≡ refused_with 6 x y z o
    unfolding propose_rule
    rule_six f g t = rw (f, g, t)

    abbrev all_of : Proposed
    all_of = record {
      answer = 0;
      spans = length l;
      bytes = length (paint_bytes a b);
      rows = over (rows_of l) x;
      columns = over (columns_of l) y;
      lengths = over (lengths_of l) z;
      out = over (paint_bytes a b) o;
    }

    rule_done : page ≡ true → served m a b ≡ true → fit ≡ true → rule ≡ all_of
    unfolding propose_rule
    rule_done f g t = rw (f, g, t)

    done : rule ≡ all_of → Gives (proposed (spans_for a b) (paint_bytes a b) w o)
    done f =
        let g = subst (λ (q : Proposed). Proposes q r x' y' z' o') f h in
        let ix : take r.spans x' ≡ rows_of l = front (rows_of l) x r.spans (rows_count l ∙ sym g.spans) g.rows in
        let iy : take r.spans y' ≡ columns_of l = front (columns_of l) y r.spans (columns_count l ∙ sym g.spans) g.columns in
        let iz : take r.spans z' ≡ lengths_of l = front (lengths_of l) z r.spans (lengths_count l ∙ sym g.spans) g.lengths in
        let i : w' ≡ over (span_numbers (spans_for a b)) w = rw (ix, iy, iz, lists_hold l) at put in
        record { answer = g.answer; spans = g.spans ∙ sym (spans_count l); bytes = g.bytes; numbers = i; out = g.out }

    same_fit : served m a b ≡ true → fit ≡ both (leb (length (span_numbers (spans_for a b))) (length w)) (leb (length (paint_bytes a b)) (length o))
    same_fit s =
        let n : length (span_numbers (spans_for a b)) ≡ 3 * length l = numbers_long (spans_for a b) ∙ ap (λ (i : ℕ). 3 * i) (spans_count l) in
        rw (ey, ez, n)
        (both_same (leb (length l) (length x)) (leb (length (paint_bytes a b)) (length o))
        ∙ ap (λ (t : Bool). both t (leb (length (paint_bytes a b)) (length o)))
        (room_leb (length w) (length x) (length l) ex (proposing.spans m a b s)))

    abbrev room : Bool
    room = both (leb (length (span_numbers (spans_for a b))) (length w)) (leb (length (paint_bytes a b)) (length o))

    abbrev filled : RawProposed
    filled = pick room (proposed (spans_for a b) (paint_bytes a b) w o) (unproposed 6 w o)

    pub propose_all : Gives (numbers_rule m a b w o)
    unfolding numbers_rule
    propose_all = by_page (either_way page)
      where
        by_room : page ≡ true → served m a b ≡ true → (room ≡ true) ⊎ (room ≡ false) → Gives filled
        by_room f g (inl t) = rw t (done (rule_done f g (same_fit g ∙ t)))
        by_room f g (inr t) = rw t (refused 6 (rule_six f g (same_fit g ∙ t)))

        by_served : page ≡ true → (served m a b ≡ true) ⊎ (served m a b ≡ false) → Gives (pick (served m a b) filled (unproposed 3 w o))
        by_served f (inl g) = rw g (by_room f g (either_way room))
        by_served f (inr g) = rw g (refused 3 (rule_three f g))

        by_page : (page ≡ true) ⊎ (page ≡ false) → Gives (pick page (pick (served m a b) filled (unproposed 3 w o)) (unproposed 7 w o))
        by_page (inl f) = rw f (by_served f (either_way (served m a b)))
        by_page (inr f) = rw f (refused 7 (rule_seven f))

module _ (v : ℕ) (a b w o : List ℕ) where
  pub propose_unnamed : is_personality v ≡ false → RawProposes (raw_propose v a b w o) (record { answer = 7; spans = 0; bytes = 0 }) w o
  unfolding raw_propose
  propose_unnamed off = rw off (record { answer = refl; spans = refl; bytes = refl; numbers = refl; out = refl })

  pub propose_named : {m : Personality} {r : ProposeResult} {x y : List ℕ} → is_personality v ≡ true → m ≡ personality_at v
      → RawProposes (numbers_rule m a b w o) r x y → RawProposes (raw_propose v a b w o) r x y
  unfolding raw_propose
  propose_named {m} {r} {x} {y} on e h = rw on (subst (λ (n : Personality). RawProposes (numbers_rule n a b w o) r x y) e h)
