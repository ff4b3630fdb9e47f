-- The pass finds the verdict: its answer is `Accepted` exactly if `Accepts` holds of the list.
-- Assumes nothing.
use Rattle.std.specs.Prelude.{◌≡◌, ℕ, zero, suc, ◌+◌, ◌-◌, ◌<◌, ◌≤◌, Bool, true, false, eqb, leb, ◌⊎◌, List, [], ◌∷◌, length, get_or, drop}
use mathlib.Core.Path.{refl, sym, ap, ◌∙◌}
use mathlib.Core.Bool.{false≢true}
use mathlib.Core.Logic.{inl, inr}
use native.Mathlib.Omega.{arith}
use native.Mathlib.Numerals.{add-one}
use lib.Seq.{drop-cons}
use borrow.Author.Tests.{leb-true, leb-false, eqb-true, eq-eqb, le-leb}
use Rattle.rules.proofs.Tests.{either_way, both_parts}
use Rattle.repaint.specs.declared.Span.{Span}
use Rattle.repaint.specs.declared.Verdict.{Verdict}
use Rattle.repaint.specs.Spans.{first, after, none, span_at, Covers, Within, Accepts, Pages, verdict_number, SpansVerdict, spans_of, ListsVerdict}
use Rattle.repaint.specs.Pass.{pages_width, alike, equal, fits, turned, passed, finished, beyond}
use Rattle.repaint.proofs.Passing.{Fits, lies, fits_parts, fits_whole, eq_or_not, widths, same_beyond, turn_misfit, turn_differs, turn_moves}
use Rattle.repaint.proofs.Passing.{finish_wrong, finish_accepted, finish_refused}

-- ---- equal cells
abbrev pub Alike : List ℕ → List ℕ → ℕ → ℕ → Type 0
Alike a b k e = (j : ℕ) → k ≤ j → j < e → get_or a j 0 ≡ get_or b j 0

alike_head : (a b : List ℕ) (k n j : ℕ) → eqb (get_or a k 0) (get_or b k 0) ≡ true → (suc k ≤ j → get_or a j 0 ≡ get_or b j 0) → k ≤ j
    → get_or a j 0 ≡ get_or b j 0
alike_head a b k n j e tail l = by_case (eq_or_not k j)
  where
    by_case : (k ≡ j) ⊎ (k ≡ j → ⊥) → get_or a j 0 ≡ get_or b j 0
    by_case (inl x) = rw x at (eqb-true (get_or a k 0) (get_or b k 0) e)
    by_case (inr x) = tail (omega arith)

alike_means : (a b : List ℕ) (k n : ℕ) → alike a b k n ≡ true → Alike a b k (k + n)
unfolding alike
alike_means a b k zero e j l m = absurd (omega arith)
alike_means a b k (suc n) e j l m =
    let p = both_parts (eqb (get_or a k 0) (get_or b k 0)) (alike a b (suc k) n) e in
    alike_head a b k n j p.0 (λ x. alike_means a b (suc k) n p.1 j x (omega arith)) l

alike_made : (a b : List ℕ) (k n : ℕ) → Alike a b k (k + n) → alike a b k n ≡ true
unfolding alike
alike_made a b k zero h = refl
alike_made a b k (suc n) h = rw
    (eq-eqb (get_or a k 0) (get_or b k 0) (h k (omega arith) (omega arith)), alike_made a b (suc k) n (λ j l m. h j (omega arith) (omega arith)))

pub same_means : (a b : List ℕ) (k e : ℕ) → equal a b k e ≡ true → (k ≤ e) × Alike a b k e
unfolding equal
same_means a b k e t =
    let p = both_parts (leb k e) _ t in
    let l = leb-true k e p.0 in
    (l, λ j x y. alike_means a b k (e - k) p.1 j x (omega arith))

pub same_made : (a b : List ℕ) (k e : ℕ) → k ≤ e → Alike a b k e → equal a b k e ≡ true
unfolding equal
same_made a b k e l h = rw (le-leb k e l, alike_made a b k (e - k) (λ j x y. h j x (omega arith)))

-- ---- the pass as a relation: the shortest way to show that a proposer's list is accepted (`run_accepts`)
pub data Run (w : ℕ) (a b : List ℕ) : ℕ → List Span → Type 0 where
  ended : {k : ℕ} → k ≤ length a → Alike a b k (length a) → Run w a b k []
  more : {k : ℕ} {s : Span} {ss : List Span} → Fits w s → k ≤ first w s → Alike a b k (first w s) → Run w a b (after w s) ss → Run w a b k (s ∷ ss)

module _ (a b : List ℕ) (pages : Pages (pages_width a b) a b) where
  abbrev w : ℕ
  w = pages_width a b

  abbrev Meets : ℕ → List Span → Type 0
  Meets k ss = equal a b (passed a b k ss) (length a) ≡ true

  most : length a ≤ 3168
  most = by_case pages.width
    where
      by_case : ((w ≡ 80) × (length a ≡ 1920)) ⊎ ((w ≡ 132) × (length a ≡ 3168)) → length a ≤ 3168
      by_case (inl x) = omega (arith, x.1)
      by_case (inr x) = omega (arith, x.1)

  inside : (s : Span) → fits w s ≡ true → after w s ≤ length a
  inside s f = let l = lies a b s w s.row s.column refl refl refl f in l.ends

  stays : (s : Span) → turned a b beyond s ≡ beyond
  stays s = by_case (either_way (fits w s))
    where
      by_case : (fits w s ≡ true) ⊎ (fits w s ≡ false) → turned a b beyond s ≡ beyond
      by_case (inl f) = sym (turn_differs a b beyond s f (sym (same_beyond a b beyond (first w s) (omega (arith, inside s f, most)))))
      by_case (inr f) = sym (turn_misfit a b beyond s f)

  lost : (ss : List Span) → passed a b beyond ss ≡ beyond
  unfolding passed
  lost [] = refl
  lost (s ∷ ss) = rw (stays s) (lost ss)

  no_more : (ss : List Span) → Meets beyond ss → ⊥
  no_more ss e = absurd (false≢true (same_beyond a b beyond (length a) (omega (arith, most)) ∙ (rw (lost ss) at e)))

  run_head : (s : Span) (ss : List Span) (k : ℕ) → (Meets (after w s) ss → Run w a b (after w s) ss) → Meets (turned a b k s) ss
      → Run w a b k (s ∷ ss)
  run_head s ss k tail e = by_fit (either_way (fits w s))
    where
      by_same : fits w s ≡ true → (equal a b k (first w s) ≡ true) ⊎ (equal a b k (first w s) ≡ false) → Run w a b k (s ∷ ss)
      by_same f (inl g) =
          let m = same_means a b k (first w s) g in
          more (fits_parts w s f) m.0 m.1 (tail (rw (← turn_moves a b k s f g) at e))
      by_same f (inr g) = absurd (no_more ss (rw (← turn_differs a b k s f g) at e))

      by_fit : (fits w s ≡ true) ⊎ (fits w s ≡ false) → Run w a b k (s ∷ ss)
      by_fit (inl f) = by_same f (either_way (equal a b k (first w s)))
      by_fit (inr f) = absurd (no_more ss (rw (← turn_misfit a b k s f) at e))

  run_of : (ss : List Span) (k : ℕ) → Meets k ss → Run w a b k ss
  unfolding passed
  run_of [] k e = let m = same_means a b k (length a) e in ended m.0 m.1
  run_of (s ∷ ss) k e = run_head s ss k (λ m. run_of ss (after w s) m) e

  of_run_lem : {k : ℕ} {ss : List Span} → Run w a b k ss → Meets k ss
  unfolding passed
  of_run_lem {k} (ended l h) = same_made a b k (length a) l h
  of_run_lem {k} (more {s = s} f l h r) = rw (← turn_moves a b k s (sym (fits_whole w s f)) (same_made a b k (first w s) l h)) (of_run_lem r)

  -- ---- what the relation says of the list, where the cells before k are judged
  record From (k : ℕ) (ss : List Span) : Type 0 where
    start : k ≤ length a
    ahead : (i : ℕ) → i < length ss → k ≤ first w (span_at ss i)
    in_order_lem : (i j : ℕ) → i < j → j < length ss → first w (span_at ss i) < first w (span_at ss j)
    apart : (i j c : ℕ) → i < j → j < length ss → Covers w (span_at ss i) c → Covers w (span_at ss j) c → ⊥
    within : (i : ℕ) → i < length ss → Within w (span_at ss i)
    not_empty : (i : ℕ) → i < length ss → 1 ≤ (span_at ss i).size
    covering : (c : ℕ) → k ≤ c → c < length a → (get_or a c 0 ≡ get_or b c 0 → ⊥) → (i : ℕ) × ((i < length ss) × Covers w (span_at ss i) c)

  le_or_lt : (m n : ℕ) → (m ≤ n) ⊎ (n < m)
  le_or_lt m n = by_case (leb m n) refl
    where
      by_case : (t : Bool) → leb m n ≡ t → (m ≤ n) ⊎ (n < m)
      by_case true e = inl (leb-true m n e)
      by_case false e = inr (leb-false m n e)

  from_none : (k : ℕ) → k ≤ length a → Alike a b k (length a) → From k []
  from_none k l h = record {
    start = l;
    ahead = λ i x. absurd (omega arith);
    in_order_lem = λ i j x y. absurd (omega arith);
    apart = λ i j c x y. absurd (omega arith);
    within = λ i x. absurd (omega arith);
    not_empty = λ i x. absurd (omega arith);
    covering = λ c x y n. absurd (n (h c x y));
  }

  module _ (k : ℕ) (s : Span) (ss : List Span) where
    from_more : Fits w s → k ≤ first w s → Alike a b k (first w s) → From (after w s) ss → From k (s ∷ ss)
    from_more f l h r = record {
      start = omega (arith, r.start);
      ahead = ahead';
      in_order_lem = in_order';
      apart = apart';
      within = within';
      not_empty = not_empty';
      covering = covering';
    }
      where
        ahead' : (i : ℕ) → i < length (s ∷ ss) → k ≤ first w (span_at (s ∷ ss) i)
        ahead' zero x = l
        ahead' (suc i) x = omega (arith, r.ahead i (omega arith))

        in_order' : (i j : ℕ) → i < j → j < length (s ∷ ss) → first w (span_at (s ∷ ss) i) < first w (span_at (s ∷ ss) j)
        in_order' i zero x y = absurd (omega arith)
        in_order' zero (suc j) x y = omega (arith, r.ahead j (omega arith), f.some)
        in_order' (suc i) (suc j) x y = r.in_order_lem i j (omega arith) (omega arith)

        apart' : (i j c : ℕ) → i < j → j < length (s ∷ ss) → Covers w (span_at (s ∷ ss) i) c → Covers w (span_at (s ∷ ss) j) c → ⊥
        apart' i zero c x y p q = absurd (omega arith)
        apart' zero (suc j) c x y p q = omega (arith, r.ahead j (omega arith), p.1, q.0)
        apart' (suc i) (suc j) c x y p q = r.apart i j c (omega arith) (omega arith) p q

        within' : (i : ℕ) → i < length (s ∷ ss) → Within w (span_at (s ∷ ss) i)
        within' zero x = record { top = f.top; bottom = f.bottom; left = f.left; right = f.right }
        within' (suc i) x = r.within i (omega arith)

        not_empty' : (i : ℕ) → i < length (s ∷ ss) → 1 ≤ (span_at (s ∷ ss) i).size
        not_empty' zero x = f.some
        not_empty' (suc i) x = r.not_empty i (omega arith)

        covering' : (c : ℕ) → k ≤ c → c < length a → (get_or a c 0 ≡ get_or b c 0 → ⊥)
            → (i : ℕ) × ((i < length (s ∷ ss)) × Covers w (span_at (s ∷ ss) i) c)
        covering' c x y n = by_start (le_or_lt (first w s) c)
          where
            by_end : first w s ≤ c → (after w s ≤ c) ⊎ (c < after w s) → (i : ℕ) × ((i < length (s ∷ ss)) × Covers w (span_at (s ∷ ss) i) c)
            by_end u (inl v) = let q = r.covering c v y n in (suc q.0, (omega (arith, q.1.0), q.1.1))
            by_end u (inr v) = (0, (omega arith, (u, v)))

            by_start : (first w s ≤ c) ⊎ (c < first w s) → (i : ℕ) × ((i < length (s ∷ ss)) × Covers w (span_at (s ∷ ss) i) c)
            by_start (inl u) = by_end u (le_or_lt (after w s) c)
            by_start (inr u) = absurd (n (h c x u))

    module _ (r : From k (s ∷ ss)) where
      first_fits : Fits w s
      first_fits = let x = r.within 0
          (omega arith) in record { top = x.top; bottom = x.bottom; left = x.left; some = r.not_empty 0 (omega arith); right = x.right }

      gap : Alike a b k (first w s)
      gap j x y = by_case (eq_or_not (get_or a j 0) (get_or b j 0))
        where
          by_index : (i : ℕ) → i < length (s ∷ ss) → Covers w (span_at (s ∷ ss) i) j → ⊥
          by_index zero u v = omega (arith, v.0)
          by_index (suc i) u v = omega (arith, v.0, r.in_order_lem 0 (suc i) (omega arith) u)

          by_case : (get_or a j 0 ≡ get_or b j 0) ⊎ (get_or a j 0 ≡ get_or b j 0 → ⊥) → get_or a j 0 ≡ get_or b j 0
          by_case (inl e) = e
          by_case (inr n) = let q = r.covering j x (omega (arith, inside s (sym (fits_whole w s first_fits)))) n in absurd
              (by_index q.0 q.1.0 q.1.1)

      from_rest : From (after w s) ss
      from_rest = record {
        start = inside s (sym (fits_whole w s first_fits));
        ahead = ahead';
        in_order_lem = λ i j x y. r.in_order_lem (suc i) (suc j) (omega arith) (omega arith);
        apart = λ i j c x y p q. r.apart (suc i) (suc j) c (omega arith) (omega arith) p q;
        within = λ i x. r.within (suc i) (omega arith);
        not_empty = λ i x. r.not_empty (suc i) (omega arith);
        covering = covering';
      }
        where
          ahead' : (i : ℕ) → i < length ss → after w s ≤ first w (span_at ss i)
          ahead' i x = by_case (le_or_lt (after w s) (first w (span_at ss i)))
            where
              by_case : (after w s ≤ first w (span_at ss i)) ⊎ (first w (span_at ss i) < after w s) → after w s ≤ first w (span_at ss i)
              by_case (inl e) = e
              by_case (inr n) = absurd (r.apart 0 (suc i) (first w (span_at ss i)) (omega arith) (omega arith)
                  (omega (arith, r.in_order_lem 0 (suc i) (omega arith) (omega arith)), n)
                  (omega arith, omega (arith, r.not_empty (suc i) (omega arith))))

          covering' : (c : ℕ) → after w s ≤ c → c < length a → (get_or a c 0 ≡ get_or b c 0 → ⊥) → (i : ℕ) × ((i < length ss) × Covers w (span_at ss i) c)
          covering' c x y n = let q = r.covering c (omega (arith, r.ahead 0 (omega arith))) y n in by_index q.0 q.1.0 q.1.1
            where
              by_index : (i : ℕ) → i < length (s ∷ ss) → Covers w (span_at (s ∷ ss) i) c → (i : ℕ) × ((i < length ss) × Covers w (span_at ss i) c)
              by_index zero u v = absurd (omega (arith, v.1))
              by_index (suc i) u v = (i, (omega arith, v))

  from_run : {k : ℕ} {ss : List Span} → Run w a b k ss → From k ss
  from_run {k} (ended l h) = from_none k l h
  from_run {k} (more {s = s} {ss = ss} f l h r) = from_more k s ss f l h (from_run r)

  run_from : (ss : List Span) (k : ℕ) → From k ss → Run w a b k ss
  run_from [] k r = ended r.start (λ j x y. by_case j x y (eq_or_not (get_or a j 0) (get_or b j 0)))
    where
      by_case : (j : ℕ) → k ≤ j → j < length a → (get_or a j 0 ≡ get_or b j 0) ⊎ (get_or a j 0 ≡ get_or b j 0 → ⊥) → get_or a j 0 ≡ get_or b j 0
      by_case j x y (inl e) = e
      by_case j x y (inr n) = let q = r.covering j x y n in absurd (omega (arith, q.1.0))
  run_from (s ∷ ss) k r = more (first_fits k s ss r) (r.ahead 0 (omega arith)) (gap k s ss r) (run_from ss (after w s) (from_rest k s ss r))

  pub run_accepts : {ss : List Span} → Run w a b 0 ss → Accepts w a b ss
  run_accepts run =
      let r = from_run run in
      record {
        in_order_lem = r.in_order_lem;
        apart = r.apart;
        within = r.within;
        not_empty = r.not_empty;
        covering = λ c x n. r.covering c
            (omega arith) x n;
      }

  accepts_of : (ss : List Span) → Meets 0 ss → Accepts w a b ss
  accepts_of ss e = run_accepts (run_of ss 0 e)

  of_accepts : (ss : List Span) → Accepts w a b ss → Meets 0 ss
  of_accepts ss r =
      of_run_lem (run_from ss 0
      (record {
        start = omega arith;
        ahead = λ i x. omega arith;
        in_order_lem = r.in_order_lem;
        apart = r.apart;
        within = r.within;
        not_empty = r.not_empty;
        covering = λ c z x n. r.covering c x n;
      }))

-- ---- the verdict
module _ (a b : List ℕ) (ss : List Span) where
  some_width : Pages (pages_width a b) a b → pages_width a b ≡ 0 → ⊥
  some_width p z = by_case p.width
    where
      by_case : ((pages_width a b ≡ 80) × (length a ≡ 1920)) ⊎ ((pages_width a b ≡ 132) × (length a ≡ 3168)) → ⊥
      by_case (inl x) = omega (arith, x.0)
      by_case (inr x) = omega (arith, x.0)

  by_answer : Pages (pages_width a b) a b → (equal a b (passed a b 0 ss) (length a) ≡ true) ⊎ (equal a b (passed a b 0 ss) (length a) ≡ false)
      → SpansVerdict a b ss (verdict_number (finished a b (passed a b 0 ss)))
  by_answer p (inl t) = rw (← finish_accepted a b (passed a b 0 ss) (some_width p) t)
      (SpansVerdict.accepted (pages_width a b) p (accepts_of a b p ss t))
  by_answer p (inr t) = rw (← finish_refused a b (passed a b 0 ss) (some_width p) t)
      (SpansVerdict.refused (pages_width a b) p (λ x. false≢true (sym t ∙ of_accepts a b p ss x)))

  pub verdict : SpansVerdict a b ss (verdict_number (finished a b (passed a b 0 ss)))
  verdict = by_width (widths a b)
    where
      by_width : ((pages_width a b ≡ 0) × ((w : ℕ) → Pages w a b → ⊥)) ⊎ Pages (pages_width a b) a b
          → SpansVerdict a b ss (verdict_number (finished a b (passed a b 0 ss)))
      by_width (inl z) = rw (← finish_wrong a b (passed a b 0 ss) z.0) (SpansVerdict.wrong z.1)
      by_width (inr p) = by_answer p (either_way (equal a b (passed a b 0 ss) (length a)))

-- ---- a loop over the list: what is left of it, from the cell reached
pub pass_step : (a b : List ℕ) (ss : List Span) (next i : ℕ) → i < length ss
    → passed a b (turned a b next (span_at ss i)) (drop (i + 1) ss) ≡ passed a b next (drop i ss)
unfolding passed
pass_step a b ss next i l = rw (add-one, drop-cons ss i none)

pub pass_ends : (a b : List ℕ) (ss : List Span) (next i : ℕ) → length ss ≤ i → next ≡ passed a b next (drop i ss)
unfolding passed
pass_ends a b ss next i l = rw (drop_all ss i l)
  where
    drop_all : (l : List Span) (n : ℕ) → length l ≤ n → drop n l ≡ []
    drop_all [] zero h = refl
    drop_all [] (suc n) h = refl
    drop_all (x ∷ l) zero h = absurd (omega arith)
    drop_all (x ∷ l) (suc n) h = drop_all l n (omega arith)

pub pass_verdict : (a b : List ℕ) (ss : List Span) (next i : ℕ) (r : Verdict) → length ss ≤ i → passed a b next (drop i ss) ≡ passed a b 0 ss
    → r ≡ finished a b next → SpansVerdict a b ss (verdict_number r)
pass_verdict a b ss next i r l e f = rw (f, pass_ends a b ss next i l ∙ e) (verdict a b ss)

-- one span more is passed
pub pass_on : (a b : List ℕ) (ss : List Span) (next i r : ℕ) → i < length ss → passed a b next (drop i ss) ≡ passed a b 0 ss
    → r ≡ turned a b next (span_at ss i) → passed a b r (drop (i + 1) ss) ≡ passed a b 0 ss
pass_on a b ss next i r l e t = rw (t, pass_step a b ss next i l) e

-- no pages, and a span that is refused
module _ (a b : List ℕ) (ss : List Span) where
  pub spans_wrong : ((pages_width a b ≡ 0 → ⊥) → ⊥) → SpansVerdict a b ss 7
  spans_wrong h = by (widths a b)
    where
      by : ((pages_width a b ≡ 0) × ((w : ℕ) → Pages w a b → ⊥)) ⊎ Pages (pages_width a b) a b → SpansVerdict a b ss 7
      by (inl z) = SpansVerdict.wrong z.1
      by (inr p) = absurd (h (some_width a b ss p))

  pub spans_beyond : (pages_width a b ≡ 0 → ⊥) → passed a b 0 ss ≡ beyond → SpansVerdict a b ss 3
  spans_beyond n k = by (widths a b)
    where
      by : ((pages_width a b ≡ 0) × ((w : ℕ) → Pages w a b → ⊥)) ⊎ Pages (pages_width a b) a b → SpansVerdict a b ss 3
      by (inl z) = absurd (n z.0)
      by (inr p) =
          let q : equal a b (passed a b 0 ss) (length a) ≡ false = rw k (sym (same_beyond a b beyond (length a) (omega (arith, most a b p)))) in
          SpansVerdict.refused (pages_width a b) p (λ x. false≢true (sym q ∙ of_accepts a b p ss x))

  pub beyond_stays : (pages_width a b ≡ 0 → ⊥) → passed a b beyond ss ≡ beyond
  beyond_stays n = by (widths a b)
    where
      by : ((pages_width a b ≡ 0) × ((w : ℕ) → Pages w a b → ⊥)) ⊎ Pages (pages_width a b) a b → passed a b beyond ss ≡ beyond
      by (inl z) = absurd (n z.0)
      by (inr p) = lost a b p ss

pub spans_lost : (a b : List ℕ) (ss : List Span) (next i : ℕ) → (pages_width a b ≡ 0 → ⊥) → i < length ss → passed a b next (drop i ss) ≡ passed a b 0 ss
    → beyond ≡ turned a b next (span_at ss i) → SpansVerdict a b ss 3
spans_lost a b ss next i n l e t =
    spans_beyond a b ss n (sym (pass_on a b ss next i beyond l e t) ∙ beyond_stays a b (drop (i + 1) ss) n)

-- ---- parallel lists, of which x, y and z are left
pub record Left (a b rs cs ls : List ℕ) (next : ℕ) (x y z : List ℕ) : Type 0 where
  pub columns : length x ≡ length y
  pub lengths : length x ≡ length z
  pub is : passed a b next (spans_of x y z) ≡ passed a b 0 (spans_of rs cs ls)

pub lists_whole : {a b rs cs ls x y z : List ℕ} → x ≡ rs → y ≡ cs → z ≡ ls → length rs ≡ length cs → length rs ≡ length ls → Left a b rs cs ls 0 x y z
lists_whole e f g p q = rw (e, f, g) (record { columns = p; lengths = q; is = refl })

module _ {a b rs cs ls : List ℕ} {next : ℕ} {x y z : List ℕ} (h : Left a b rs cs ls next x y z) where
  module _ {r c l : ℕ} {x' y' z' : List ℕ} (e : x ≡ r ∷ x') (f : y ≡ c ∷ y') (g : z ≡ l ∷ z') where
    begun : passed a b (turned a b next (record { row = r; column = c; size = l })) (spans_of x' y' z') ≡ passed a b 0 (spans_of rs cs ls)
    unfolding passed
    begun = sym (rw (e, f, g) refl) ∙ h.is

    pub lists_step : {next' : ℕ} → next' ≡ turned a b next (record { row = r; column = c; size = l }) → Left a b rs cs ls next' x' y' z'
    lists_step t = record {
      columns = omega (arith, h.columns, ap length e, ap length f);
      lengths = omega (arith, h.lengths, ap length e, ap length g);
      is = rw t begun;
    }

    pub lists_lost : length rs ≡ length cs → length rs ≡ length ls → (pages_width a b ≡ 0 → ⊥)
        → beyond ≡ turned a b next (record { row = r; column = c; size = l }) → ListsVerdict a b rs cs ls 3
    lists_lost p q n t =
        ListsVerdict.parallel p q (spans_beyond a b (spans_of rs cs ls) n (sym (lists_step t).is ∙ beyond_stays a b (spans_of x' y' z') n))

  pub lists_verdict : length rs ≡ length cs → length rs ≡ length ls → length x ≡ 0 → (r : Verdict) → r ≡ finished a b next
      → ListsVerdict a b rs cs ls (verdict_number r)
  unfolding passed
  lists_verdict p q n r t =
      let e : next ≡ passed a b 0 (spans_of rs cs ls) = ended x n ∙ h.is in
      ListsVerdict.parallel p q (rw (t, e) (verdict a b (spans_of rs cs ls)))
    where
      ended : (x : List ℕ) → length x ≡ 0 → next ≡ passed a b next (spans_of x y z)
      ended [] k = refl
      ended (s ∷ x) k = absurd (omega (arith, k))
