-- Where a stream starts.
--     on_state, on_page     power-on
--     turns                 the conversion of its page and state, to whatever page of the length
--     starts                the statement of specs/Watch
--     narrow_on, turned, at_width     what the program's start leaves
--     wide_columns, narrow_columns, wide_length, narrow_length     lengths by the width
--     columns_most, row_within, row_is     a row by the width
-- Assumes nothing.
use Rattle.std.proofs.Common.{◌≡◌, ℕ, zero, suc, ◌+◌, ◌-◌, ◌*◌, ◌<◌, ◌≤◌, Bool, true, false, not, eqb, leb, List, [], length, take, drop, replicate, sym, refl, ap, ◌∙◌, subst, arith, eq-eqb}
use Rattle.std.proofs.Math.Nat.{mul-le-mul_right}
use mathlib.Core.Bool.{false≢true}
use Rattle.rules.specs.declared.Personality.{Personality}
use Rattle.rules.specs.declared.State.{State}
use Rattle.rules.specs.Cell.{pick, both, either}
use Rattle.rules.specs.Row.{height, columns, column_of, narrow_cells, wide_cells}
use Rattle.rules.specs.State.{sends}
use Rattle.rules.specs.Possible.{power_on, blank, good}
use Rattle.rules.specs.Step.{Outcome}
use Rattle.rules.specs.Calls.{power_on_rule}
use Rattle.rules.specs.Convert.{converted, loses, state_on, Turned, convert_rule}
use Rattle.rules.proofs.Kept.{good_whole, power_on_possible}
use Rattle.rules.proofs.Convert.{converts, conversion}
use Rattle.alert.specs.Cells.{row_on}
use Rattle.alert.specs.Watch.{start_on, Starts}

pub on_state : (m : Personality) (p : List ℕ) → (power_on_rule m p).state ≡ power_on m
unfolding power_on_rule
on_state m p = by_test (eqb (length p) narrow_cells)
  where
    by_test : (t : Bool) → (pick {A = Outcome} t (record { answer = 0; taken = false; state = power_on m; page = blank; reply = [] })
        (record { answer = 7; taken = false; state = power_on m; page = p; reply = [] })).state ≡ power_on m
    by_test true = refl
    by_test false = refl

pub on_page : (m : Personality) (p : List ℕ) → length p ≡ narrow_cells → (power_on_rule m p).page ≡ blank
unfolding power_on_rule
on_page m p e = rw (eq-eqb (length p) narrow_cells e)

-- a blank page loses nothing
lose_next : (t r : Bool) → r ≡ false → either (both t (not (eqb 0 0))) r ≡ false
lose_next true r e = e
lose_next false r e = e

none_lost : (v w i n : ℕ) → loses v w i (replicate n 0) ≡ false
unfolding loses
none_lost v w i zero = refl
none_lost v w i (suc n) = lose_next (leb w (column_of v i)) (loses v w (suc i) (replicate n 0)) (none_lost v w (suc i) n)

on_good : (m : Personality) → good blank (power_on m) ≡ true
unfolding blank power_on columns
on_good m = good_whole blank (power_on m) refl (power_on_possible m)

kept : loses 80 132 0 blank ≡ false
unfolding blank
kept = none_lost 80 132 0 1920

abbrev wide : Personality → Turned
wide m = record { answer = 0; target = converted false blank; state = state_on (converted false blank) (power_on m) }

done : (m : Personality) (t : List ℕ) → length t ≡ wide_cells → convert_rule blank (power_on m) t ≡ wide m
unfolding power_on columns
done m t e = converts blank (power_on m) t (on_good m) e refl kept

done_on : (m : Personality) → start_on true m ≡ wide m
unfolding start_on
done_on m = done m (replicate wide_cells 0) refl

pub turns : (m : Personality) (t : List ℕ) → length t ≡ wide_cells → convert_rule blank (power_on m) t ≡ start_on true m
turns m t e = done m t e ∙ sym (done_on m)

quiet_on : (m : Personality) → sends (wide m).state.sending ≡ false
unfolding state_on power_on
quiet_on m = refl

stays : (m : Personality)
    → (good (start_on true m).target (start_on true m).state ≡ true) × (columns (start_on true m).state.core.screen.wide ≡ columns true)
unfolding start_on power_on
stays m = conversion.stays_good blank (power_on m) (replicate wide_cells 0) (ap (λ (r : Turned). r.answer) (done m (replicate wide_cells 0) refl))

starts_narrow : (m : Personality) → Starts false m
unfolding start_on power_on
starts_narrow m = record { answer = refl; fine = on_good m; width = refl; quiet = refl }

pub starts : (w : Bool) (m : Personality) → Starts w m
starts true m = record {
  answer = ap (λ (r : Turned). r.answer) (done_on m);
  fine = (stays m).0;
  width = (stays m).1;
  quiet = ap (λ (r : Turned). sends r.state.sending) (done_on m) ∙ quiet_on m;
}
starts false m = starts_narrow m

-- ---- what the program's start leaves

pub narrow_on : (m : Personality) {p : List ℕ} {s : State} → s ≡ power_on m → p ≡ blank → (s ≡ (start_on false m).state) × (p ≡ (start_on false m).target)
unfolding start_on
narrow_on m es ep = (es, ep)

pub turned : (m : Personality) (t : List ℕ) {p q : List ℕ} {s u : State} → p ≡ blank → s ≡ power_on m → length t ≡ wide_cells
    → u ≡ (convert_rule p s t).state → q ≡ (convert_rule p s t).target → (u ≡ (start_on true m).state) × (q ≡ (start_on true m).target)
turned m t {p} {q} {s} {u} ep es n eu eq =
    let k : convert_rule p s t ≡ start_on true m = rw (ep, es) (turns m t n) in
    (eu ∙ ap (λ (r : Turned). r.state) k, eq ∙ ap (λ (r : Turned). r.target) k)

pub at_width : (m : Personality) (w : Bool) {v : Bool} {p : List ℕ} {s : State} → w ≡ v → (s ≡ (start_on v m).state) × (p ≡ (start_on v m).target)
    → (s ≡ (start_on w m).state) × (p ≡ (start_on w m).target)
at_width m w {v} {p} {s} e x = subst (λ (b : Bool). (s ≡ (start_on b m).state) × (p ≡ (start_on b m).target)) (sym e) x

-- ---- lengths by the width

pub wide_columns : columns true ≡ 132
unfolding columns
wide_columns = refl

pub narrow_columns : columns false ≡ 80
unfolding columns
narrow_columns = refl

pub wide_length : (w : Bool) {n : ℕ} → n ≡ height * columns w → w ≡ true → n ≡ wide_cells
unfolding columns
wide_length true e h = e
wide_length false e h = absurd (false≢true h)

pub narrow_length : (w : Bool) {n : ℕ} → n ≡ height * columns w → w ≡ false → n ≡ narrow_cells
unfolding columns
narrow_length false e h = e
narrow_length true e h = absurd (false≢true (sym h))

pub columns_most : (w : Bool) → columns w ≤ 132
unfolding columns
columns_most true = omega arith
columns_most false = omega arith

-- a row by its places
module _ (w : Bool) (p : List ℕ) (r : ℕ) {n : ℕ} (e : n ≡ columns w) where
  pub row_within : r < 24 → r * n + n ≤ 24 * columns w
  row_within h = rw e (omega (arith, mul-le-mul_right {m = suc r} {n = 24} (columns w) h))

  pub row_is : take (r * n + n - r * n) (drop (r * n) p) ≡ row_on w p r
  row_is = let z : r * n + n - r * n ≡ n = omega arith in rw z (rw e refl)
