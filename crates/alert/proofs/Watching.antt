-- Laws of the host stream.
--     obeyed                                  one byte
--     Finishing, finish_begin, finish_on, finish_over, finish_none     the loop over what is left of a send
--     finish_step, over_still                 one turn of it
--     Watching, watch_begin, watch_on, watch_done     the loop over bytes: the bytes to come bring about what all of them do
--     fed, fed_none, fed_more, came           bytes that were read piece by piece
-- Assumes nothing.
use Rattle.std.proofs.Common.{◌≡◌, ℕ, zero, suc, ◌+◌, ◌-◌, ◌<◌, ◌≤◌, Bool, true, false, List, [], ◌∷◌, ◌++◌, length, get_or, drop, sym, refl, ap, ◌∙◌, add-one, arith, drop_of_length-le, drop-cons}
use Rattle.rules.specs.declared.Personality.{Personality}
use Rattle.rules.specs.declared.State.{State}
use Rattle.rules.specs.Cell.{pick}
use Rattle.rules.specs.State.{sends}
use Rattle.rules.specs.Step.{Outcome, step_rule}
use Rattle.rules.specs.Calls.{run_rule}
use Rattle.alert.specs.Watch.{start_on, Took, Ended, goes_on, Watch, watch, watched_as, stepped, resumed, finished, most_times, watched, watched_all}
use Rattle.alert.specs.Watch.{FedBy, Fed, Came}

as_watched : (o : Outcome) (p d : List ℕ) (s : State) {p' d' : List ℕ} {t : State} {was is : Bool} → t ≡ o.state → p' ≡ o.page
    → was ≡ s.core.modes.protect → is ≡ t.core.modes.protect → d' ≡ pick (goes_on was is) p' d → watch p' d' t ≡ watched_as o (watch p d s)
as_watched o p d s et ep ew ei ed = rw (ed, ew, ei, et, ep)

-- one byte, and the send that it began
pub obeyed : (n b : ℕ) (p d : List ℕ) (s : State) {m : ℕ} {p' p'' d' : List ℕ} {t u : State} {was is : Bool} → Took (step_rule p s b n) t p'
    → was ≡ s.core.modes.protect → is ≡ t.core.modes.protect → d' ≡ pick (goes_on was is) p' d → m ≡ n
    → ((d : List ℕ) → watch p'' d u ≡ finished m most_times (watch p' d t)) → watch p'' d' u ≡ watched n (watch p d s) b
unfolding watched stepped
obeyed n b p d s {p' = p'} {d' = d'} {t = t} k ew ei ed em f =
    f d'
    ∙ (ap (λ (j : ℕ). finished j most_times (watch p' d' t)) em
    ∙ ap (finished n most_times) (as_watched (step_rule p s b n) p d s k.state k.page ew ei ed))

-- ---- a send goes on until it is over

-- k times more from here come to what most_times from the start do, whatever page was drawn
pub record Finishing (n k : ℕ) (p₀ : List ℕ) (s₀ : State) (p : List ℕ) (s : State) : Type 0 where
  pub is : (d : List ℕ) → finished n k (watch p d s) ≡ finished n most_times (watch p₀ d s₀)

pub finish_begin : (n : ℕ) (p : List ℕ) (s : State) → Finishing n most_times p s p s
finish_begin n p s = record { is = λ d. refl }

pub finish_step : (n k : ℕ) (x : Watch) → sends x.state.sending ≡ true → finished n (suc k) x ≡ finished n k (resumed n x)
unfolding finished
finish_step n k x e = rw e

resumed_is : (n : ℕ) (p d : List ℕ) (s : State) {p' : List ℕ} {t : State} → Ended (run_rule p s [] n) t p' → resumed n (watch p d s) ≡ watch p' d t
unfolding resumed
resumed_is n p d s h = rw (h.page, h.state)

pub finish_on : {n m k : ℕ} {p₀ : List ℕ} {s₀ : State} {p : List ℕ} {s : State} {p' : List ℕ} {t : State} {b : Bool} → 0 < k → m ≡ n
    → b ≡ sends s.sending → b ≡ true → Ended (run_rule p s [] m) t p' → Finishing n k p₀ s₀ p s → Finishing n (k - 1) p₀ s₀ p' t
finish_on {k = zero} h em eb e r f = absurd (omega arith)
finish_on {n} {m} {k = suc k} {p = p} {s = s} {p' = p'} {t = t} h em eb e r f =
    let z : suc k - 1 ≡ k = omega arith in
    record {
      is = λ d.
          ap (λ (j : ℕ). finished n j (watch p' d t)) z
          ∙ (ap (finished n k) (sym (resumed_is n p d s (rw em at r)))
          ∙ (sym (finish_step n k (watch p d s) (sym eb ∙ e)) ∙ f.is d));
    }

pub over_still : (n k : ℕ) (x : Watch) → sends x.state.sending ≡ false → finished n k x ≡ x
unfolding finished
over_still n zero x e = refl
over_still n (suc k) x e = rw e

pub finish_over : {n k : ℕ} {p₀ : List ℕ} {s₀ : State} {p : List ℕ} {s : State} {b : Bool} → b ≡ sends s.sending → b ≡ false
    → Finishing n k p₀ s₀ p s → (d : List ℕ) → watch p d s ≡ finished n most_times (watch p₀ d s₀)
finish_over {n} {k} {p = p} {s = s} eb e f d = sym (over_still n k (watch p d s) (sym eb ∙ e)) ∙ f.is d

pub finish_none : {n k : ℕ} {p₀ : List ℕ} {s₀ : State} {p : List ℕ} {s : State} → k ≤ 0 → Finishing n k p₀ s₀ p s
    → (d : List ℕ) → watch p d s ≡ finished n most_times (watch p₀ d s₀)
unfolding finished
finish_none {k = zero} h f d = f.is d
finish_none {k = suc k} h f d = absurd (omega arith)

-- the bytes l bring x to z
pub record Watching (n : ℕ) (x : Watch) (l : List ℕ) (z : Watch) : Type 0 where
  pub is : watched_all n x l ≡ z

pub watch_begin : (n : ℕ) (x : Watch) (l : List ℕ) → Watching n x l (watched_all n x l)
watch_begin n x l = record { is = refl }

pub watch_on : (l : List ℕ) (i : ℕ) {n m : ℕ} {x y z : Watch} → i < length l → m ≡ n → y ≡ watched m x (get_or l i 0) → Watching n x (drop i l) z
    → Watching n y (drop (i + 1) l) z
unfolding watched_all
watch_on l i h em ey w = record { is = rw (ey, em, add-one i) (rw (drop-cons l i 0 h) at w).is }

pub watch_done : (l : List ℕ) (i : ℕ) {n : ℕ} {x z : Watch} → length l ≤ i → Watching n x (drop i l) z → x ≡ z
unfolding watched_all
watch_done l i h w = (rw (drop_of_length-le l {i = i} h) at w).is

pub fed : {l : List ℕ} {n : ℕ} {x y : Watch} → FedBy l n x y → Fed n x y
fed {l} f = record { bytes = l; is = f.is }

pub fed_none : {n : ℕ} {x y : Watch} → y ≡ x → Fed n x y
unfolding watched_all
fed_none e = record { bytes = []; is = e }

watched_append : (n : ℕ) (x : Watch) (l k : List ℕ) → watched_all n x (l ++ k) ≡ watched_all n (watched_all n x l) k
unfolding watched_all
watched_append n x [] k = refl
watched_append n x (b ∷ l) k = watched_append n (watched n x b) l k

pub fed_more : {n m : ℕ} {x y z : Watch} → m ≡ n → Fed n x y → Fed m y z → Fed n x z
fed_more {n} {m} {x} {y} e a b = record {
  bytes = a.bytes ++ b.bytes;
  is = b.is ∙ ap (λ (q : ℕ). watched_all q y b.bytes) e ∙ ap (λ (w : Watch). watched_all n w b.bytes) a.is
      ∙ sym (watched_append n x a.bytes b.bytes);
}

pub came : (wide : Bool) (m : Personality) {first kept page drawn : List ℕ} {n : ℕ} {s t : State} → s ≡ (start_on wide m).state
    → first ≡ (start_on wide m).target
    → Fed n (watch first kept s) (watch page drawn t) → Came page drawn t
came wide m {kept = kept} {n = n} es ep f = record { wide = wide; personality = m; kept = kept; room = n; fed = rw ep at (rw es at f) }
