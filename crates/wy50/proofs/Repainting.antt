-- The calls of repainting together.
--     repainting     the statement of specs/Repainting
-- Assumes nothing.
use mathlib.Core.Path.{◌≡◌, refl, sym, ap, subst, ◌∙◌}
use mathlib.Core.Bool.{Bool, true, false, false≢true}
use mathlib.Core.List.{List, [], ◌∷◌, ◌++◌, append_assoc}
use mathlib.Core.Logic.{inl}
use Prim.Native.Nat.{ℕ, ◌≤◌}
use native.Mathlib.Omega.{arith}
use lib.Dec.{leb, eqb}
use lib.ListN.{length, take, drop, length-append}
use lib.Seq.{take-append_seam, drop-append-le}
use borrow.Author.Tests.{le-leb}
use Rattle.rules.specs.Cell.{pick, both}
use Rattle.rules.specs.Room.{over}
use Rattle.rules.specs.Fields.{page_width, is_page}
use Rattle.rules.proofs.Tests.{pick_if, both_true}
use Rattle.repaint.specs.declared.Span.{Span}
use Rattle.repaint.specs.Spans.{Pages, SpansVerdict}
use Rattle.repaint.specs.Proposal.{stretches, paint_bytes, served}
use Rattle.repaint.specs.Theorems.{spans_for}
use Rattle.repaint.proofs.Proposing.{served_lengths, proposing}
use Rattle.repaint.proofs.Judges.{judging}
use Rattle.wy50.specs.Raw.{is_personality, personality_at}
use Rattle.wy50.specs.Repainting.{RawBytesVerdict, span_numbers, spans_in, RawProposed, unproposed, proposed, numbers_rule, raw_propose, with_rest}
use Rattle.wy50.specs.Repainting.{Repainting}
use Rattle.wy50.proofs.RepaintCalls.{numbers_long, spans_count}

-- ---- one answer

bytes_one : (v : ℕ) (a b l : List ℕ) {r s : ℕ} → RawBytesVerdict v a b l r → RawBytesVerdict v a b l s → r ≡ s
bytes_one v a b l (RawBytesVerdict.named on x) (RawBytesVerdict.named on' y) = judging.bytes_one (personality_at v) a b l _ _ x y
bytes_one v a b l (RawBytesVerdict.named on x) (RawBytesVerdict.unnamed off) = absurd (false≢true (sym off ∙ on))
bytes_one v a b l (RawBytesVerdict.unnamed off) (RawBytesVerdict.named on x) = absurd (false≢true (sym off ∙ on))
bytes_one v a b l (RawBytesVerdict.unnamed off) (RawBytesVerdict.unnamed off') = refl

-- ---- what is proposed

-- the spans of their numbers, whatever stands behind them
spans_back : (l : List Span) (t : List ℕ) → take (length l) (spans_in (span_numbers l ++ t)) ≡ l
unfolding span_numbers spans_in
spans_back [] t = refl
spans_back (s ∷ l) t = ap (λ (r : List Span). s ∷ r) (spans_back l t)

over_back : (l w : List ℕ) → take (length l) (over l w) ≡ l
unfolding over
over_back l w = take-append_seam l (drop (length l) w)

over_beyond : (l w t : List ℕ) → length l ≤ length w → over l (w ++ t) ≡ over l w ++ t
unfolding over
over_beyond l w t h = ap (λ (d : List ℕ). l ++ d) (drop-append-le (length l) w t h) ∙ sym (append_assoc l (drop (length l) w) t)

module _ (v : ℕ) (a b w o : List ℕ) where
  abbrev known : Bool
  known = is_personality v

  abbrev page : Bool
  page = both (eqb (length a) (length b)) (is_page (length a))

  abbrev is_served : Bool
  is_served = served (personality_at v) a b

  abbrev room : Bool
  room = both (leb (length (span_numbers (spans_for a b))) (length w)) (leb (length (paint_bytes a b)) (length o))

  abbrev all : RawProposed
  all = proposed (spans_for a b) (paint_bytes a b) w o

  abbrev by_room : RawProposed
  by_room = pick room all (unproposed 6 w o)

  abbrev by_served : RawProposed
  by_served = pick is_served by_room (unproposed 3 w o)

  abbrev by_page : RawProposed
  by_page = pick page by_served (unproposed 7 w o)

  rule : raw_propose v a b w o ≡ pick known by_page (unproposed 7 w o)
  unfolding raw_propose numbers_rule
  rule = refl

  record Done : Type 0 where
    on : known ≡ true
    text : is_served ≡ true
    gives : raw_propose v a b w o ≡ all

  abbrev Zero : RawProposed → Type 0
  Zero q = q.answer ≡ 0 → Done

  is_done : Zero (raw_propose v a b w o)
  is_done =
      subst Zero (sym rule)
      (pick_if Zero known
      (λ p.
      pick_if Zero page
      (λ f.
      pick_if Zero is_served
      (λ g. pick_if Zero room (λ t e. record { on = p; text = g; gives = rule ∙ rw (p, f, g, t) }) (λ t e. absurd (omega (arith, e))))
      (λ g e. absurd (omega (arith, e)))) (λ f e. absurd (omega (arith, e)))) (λ p e. absurd (omega (arith, e))))

  spans_accepted : (raw_propose v a b w o).answer ≡ 0
      → SpansVerdict a b (take (raw_propose v a b w o).spans (spans_in (raw_propose v a b w o).numbers)) 0
  unfolding over
  spans_accepted e =
      let d = is_done e in
      let n = served_lengths (personality_at v) a b d.text in
      let p : Pages 80 a b = record { alike = n.0 ∙ sym n.1; width = inl (refl, n.0) } in
      let q : SpansVerdict a b (spans_for a b) 0 = SpansVerdict.accepted 80 p (proposing.spans_accepted (personality_at v) a b d.text) in
      subst (λ (r : RawProposed). SpansVerdict a b (take r.spans (spans_in r.numbers)) 0) (sym d.gives)
      (subst (λ (l : List Span). SpansVerdict a b l 0) (sym (spans_back (spans_for a b) (drop (length (span_numbers (spans_for a b))) w))) q)

  bytes_accepted : (raw_propose v a b w o).answer ≡ 0 → RawBytesVerdict v a b (take (raw_propose v a b w o).bytes (raw_propose v a b w o).out) 0
  bytes_accepted e =
      let d = is_done e in
      subst (λ (r : RawProposed). RawBytesVerdict v a b (take r.bytes r.out) 0) (sym d.gives)
      (subst (λ (l : List ℕ). RawBytesVerdict v a b l 0) (sym (over_back (paint_bytes a b) o))
      (RawBytesVerdict.named d.on (judging.bytes_accepted (personality_at v) a b d.text)))

  page_served : is_served ≡ true → page ≡ true
  unfolding page_width
  page_served s = let n = served_lengths (personality_at v) a b s in rw (n.0, n.1)

  few : is_served ≡ true → length (span_numbers (spans_for a b)) ≤ 2880
  few s = omega (arith, numbers_long (spans_for a b), spans_count (stretches a b), proposing.spans (personality_at v) a b s)

  roomy : known ≡ true → is_served ≡ true → 2880 ≤ length w → 7772 ≤ length o → (raw_propose v a b w o).answer ≡ 0
  roomy p s hw ho =
      let k = proposing.bytes (personality_at v) a b s in
      let t : room ≡ true = both_true (le-leb _ (length w) (omega (arith, few s, hw))) (le-leb _ (length o) (omega (arith, k, ho))) in
      rw (rule, p, page_served s, s, t)

pick_with : (t : List ℕ) (c : Bool) {x y : RawProposed} (x' y' : RawProposed) → (c ≡ true → x ≡ with_rest t x') → y ≡ with_rest t y'
    → pick c x y ≡ with_rest t (pick c x' y')
pick_with t true x' y' f g = f refl
pick_with t false x' y' f g = g

module _ (v : ℕ) (a b w t o : List ℕ) (h : 2880 ≤ length w) where
  same_room : is_served v a b w o ≡ true → room v a b (w ++ t) o ≡ room v a b w o
  same_room s =
      let n = few v a b w o s in
      let x : leb (length (span_numbers (spans_for a b))) (length (w ++ t))
      ≡ true = le-leb _ (length (w ++ t)) (omega (arith, n, h, length-append w t)) in
      let y : leb (length (span_numbers (spans_for a b))) (length w) ≡ true = le-leb _ (length w) (omega (arith, n, h)) in
      rw (x, y)

  same_all : is_served v a b w o ≡ true → all v a b (w ++ t) o ≡ with_rest t (all v a b w o)
  same_all s =
      ap (λ (l : List ℕ). record {
        answer = 0;
        spans = length (spans_for a b);
        bytes = length (paint_bytes a b);
        numbers = l;
        out = over
            (paint_bytes a b) o;
      })
      (over_beyond (span_numbers (spans_for a b)) w t (omega (arith, few v a b w o s, h)))

  same_filled : is_served v a b w o ≡ true → by_room v a b (w ++ t) o ≡ with_rest t (by_room v a b w o)
  same_filled s = rw (same_room s) (pick_with t (room v a b w o) (all v a b w o) (unproposed 6 w o) (λ k. same_all s) refl)

  beyond : raw_propose v a b (w ++ t) o ≡ with_rest t (raw_propose v a b w o)
  beyond =
      rule v a b (w ++ t) o
      ∙ (pick_with t (known v a b w o) (by_page v a b w o) (unproposed 7 w o)
      (λ p. pick_with t (page v a b w o) (by_served v a b w o) (unproposed 7 w o)
      (λ f. pick_with t (is_served v a b w o) (by_room v a b w o) (unproposed 3 w o) same_filled refl) refl) refl
      ∙ ap (with_rest t) (sym (rule v a b w o)))

pub repainting : Repainting
repainting = record {
  spans_one = judging.spans_one;
  bytes_one = λ v a b l r s x y. bytes_one v a b l x y;
  spans_accepted = spans_accepted;
  bytes_accepted = bytes_accepted;
  roomy = roomy;
  beyond = beyond;
}
