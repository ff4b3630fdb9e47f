-- The judge of bytes: one run without reply room says whether each byte answers 0.
--     leads_of, of_leads     a clean run, and bytes that lead
--     paints_leads, leads_paints     the run and the comparison say whether the bytes are accepted
--     on_good     power-on at a width is possible
-- Assumes nothing.
use Rattle.std.specs.Prelude.{◌≡◌, ℕ, suc, ◌+◌, ◌-◌, ◌*◌, ◌<◌, ◌≤◌, Bool, true, false, eqb, leb, ◌⊎◌, List, [], ◌∷◌, ◌++◌, length, get_or, take, drop, set}
use mathlib.Core.Path.{refl, sym, ap, ap₂, subst, ◌∙◌}
use mathlib.Core.Bool.{false≢true}
use mathlib.Core.List.{append-nil}
use mathlib.Core.Logic.{inl, inr}
use native.Mathlib.Omega.{arith}
use native.Mathlib.Numerals.{add-one}
use lib.ListN.{length-take, drop_of_length-le}
use lib.Seq.{append_snoc, drop-cons, take-suc, take_all, set_at}
use borrow.Author.Tests.{leb-false, ltb-false, eqb-true, eqb-false, eq-eqb, ne_eqb}
use Rattle.rules.specs.declared.Core.{Core}
use Rattle.rules.specs.declared.Personality.{Personality}
use Rattle.rules.specs.declared.State.{State}
use Rattle.rules.specs.Cell.{both, between, same}
use Rattle.rules.specs.Row.{columns}
use Rattle.rules.specs.State.{with_screen, sends}
use Rattle.rules.specs.Possible.{power_on, possible, good}
use Rattle.rules.specs.Plan.{unsplit_screen}
use Rattle.rules.specs.Step.{Outcome, step_inside, step_rule}
use Rattle.rules.specs.Room.{over}
use Rattle.rules.specs.Calls.{Ran, ended, refusal, joined, repeated, run_rule}
use Rattle.rules.proofs.Tests.{either_way, both_parts, both_true}
use Rattle.rules.specs.Possible.{core_ok, setup_ok, no_stops, screen_ok, unsplit_ok, attributes_ok, features_ok, remembered_ok, pending_ok, sending_ok}
use Rattle.rules.specs.Slot.{texts_ok, text_ok, all_text}
use Rattle.rules.specs.Arguments.{is_attribute, feature_place}
use Rattle.rules.proofs.Kept.{step_good, run_keeps, good_whole}
use Rattle.rules.proofs.RowSteps.{same_is, same_refl}
use Rattle.rules.proofs.Left.{step_good_most, step_unused}
use Rattle.repaint.specs.declared.Verdict.{Verdict}
use Rattle.repaint.specs.Spans.{Pages, verdict_number}
use Rattle.repaint.specs.Pass.{pages_width, equal}
use Rattle.repaint.specs.Bytes.{power_on_at, Leads, end, byte, AcceptsBytes, BytesVerdict, clean, paints}
use Rattle.repaint.proofs.Passing.{widths}
use Rattle.repaint.proofs.Verdicts.{same_means, same_made}

-- ---- one byte of a run without reply room

pub record Clean (o : Ran) (n : ℕ) : Type 0 where
  pub answer : o.answer ≡ 0
  pub taken : o.taken ≡ n
  pub refused : o.refused ≡ 0

pub clean_parts : (o : Ran) (n : ℕ) → clean o n ≡ true → Clean o n
unfolding clean
clean_parts o n e =
    let r = both_parts (eqb o.answer 0) _ e in
    let t = both_parts (eqb o.taken n) _ r.1 in
    record { answer = eqb-true _ _ r.0; taken = eqb-true _ _ t.0; refused = eqb-true _ _ t.1 }

pub clean_whole : (o : Ran) (n : ℕ) → Clean o n → clean o n ≡ true
unfolding clean
clean_whole o n c = both_true (eq-eqb _ _ c.answer) (both_true (eq-eqb _ _ c.taken) (eq-eqb _ _ c.refused))

module _ (b : ℕ) (bs p : List ℕ) (s : State) where
  abbrev o : Outcome
  o = step_rule p s b 0

  abbrev rest : Ran
  rest = repeated bs o.page o.state 0

  inside : sends s.sending ≡ true → repeated (b ∷ bs) p s 0 ≡ ended p s 0 (b ∷ bs)
  unfolding repeated
  inside e = rw e

  stops : sends s.sending ≡ false → eqb o.answer 6 ≡ true → repeated (b ∷ bs) p s 0 ≡ ended p s 6 (b ∷ bs)
  unfolding repeated
  stops e f = rw (e, f)

  goes : sends s.sending ≡ false → eqb o.answer 6 ≡ false → repeated (b ∷ bs) p s 0 ≡ joined o rest
  unfolding repeated
  goes e f = let z : 0 - length o.reply ≡ 0 = omega arith in rw (e, f, z)

  -- an answer that is not counted and does not stop is 0
  zero_of : good p s ≡ true → sends s.sending ≡ false → eqb o.answer 6 ≡ false → refusal o.answer ≡ 0 → o.answer ≡ 0
  zero_of g u n r = by (either_way (between 1 4 o.answer))
    where
      most : o.answer ≤ 6
      most = step_good_most p s b 0 g u

      five : o.answer ≡ 5 → ⊥
      five = step_unused p s b 0

      six : o.answer ≡ 6 → ⊥
      six = eqb-false o.answer 6 n

      by : (between 1 4 o.answer ≡ true) ⊎ (between 1 4 o.answer ≡ false) → o.answer ≡ 0
      by (inl t) = absurd (one (rw t at r))
        where
          one : ◌≡◌ {A = ℕ} 1 0 → ⊥
          one e = omega (arith, e)
      by (inr t) = by_zero (either_way (leb 1 o.answer))
        where
          by_zero : (leb 1 o.answer ≡ true) ⊎ (leb 1 o.answer ≡ false) → o.answer ≡ 0
          by_zero (inl l) = let k : 5 ≤ o.answer = ltb-false o.answer 5 (rw l at t) in absurd (omega (arith, most, five, six, k))
          by_zero (inr l) = omega (arith, leb-false 1 o.answer l)

  -- without room a byte inside a send answers 6
  outside : good p s ≡ true → o.answer ≡ 0 → sends s.sending ≡ false
  unfolding step_rule step_inside
  outside g e = by (either_way (sends s.sending))
    where
      six : ◌≡◌ {A = ℕ} 6 0 → ⊥
      six z = omega (arith, z)

      by : (sends s.sending ≡ true) ⊎ (sends s.sending ≡ false) → sends s.sending ≡ false
      by (inl u) = absurd (six (rw (g, u) at e))
      by (inr u) = u

  joined_clean : (x : Outcome) (r : Ran) (n : ℕ) → Clean (joined x r) (suc n) → Clean r n × (refusal x.answer ≡ 0)
  unfolding joined
  joined_clean x r n c =
      let e = c.refused in
      (record { answer = c.answer; taken = omega (arith, c.taken); refused = omega (arith, e) }, omega (arith, e))

  clean_joined : (x : Outcome) (r : Ran) (n : ℕ) → x.answer ≡ 0 → Clean r n → Clean (joined x r) (suc n)
  unfolding joined
  clean_joined x r n e c =
      let z : refusal x.answer ≡ 0 = ap refusal e in
      record { answer = c.answer; taken = omega (arith, c.taken); refused = omega (arith, z, c.refused) }

  joined_page : (x : Outcome) (r : Ran) → (joined x r).page ≡ r.page
  unfolding joined
  joined_page x r = refl

  step_leads : good p s ≡ true → (Clean rest (length bs) → Leads rest.page bs o.page o.state)
      → Clean (repeated (b ∷ bs) p s 0) (suc (length bs)) → Leads (repeated (b ∷ bs) p s 0).page (b ∷ bs) p s
  step_leads g tail c = by_send (either_way (sends s.sending))
    where
      by_six : sends s.sending ≡ false → (eqb o.answer 6 ≡ true) ⊎ (eqb o.answer 6 ≡ false)
          → Leads (repeated (b ∷ bs) p s 0).page (b ∷ bs) p s
      by_six u (inl f) = let z : ◌≡◌ {A = ℕ} 6 0 = sym (ap (λ (r : Ran). r.answer) (stops u f)) ∙ c.answer in absurd (omega (arith, z))
      by_six u (inr f) =
          let k = joined_clean o rest (length bs) (subst (λ (r : Ran). Clean r (suc (length bs))) (goes u f) c) in
          let l = byte b bs p s (zero_of g u f k.1) (tail k.0) in
          subst (λ (q : List ℕ). Leads q (b ∷ bs) p s) (sym (ap (λ (r : Ran). r.page) (goes u f) ∙ joined_page o rest)) l

      by_send : (sends s.sending ≡ true) ⊎ (sends s.sending ≡ false) → Leads (repeated (b ∷ bs) p s 0).page (b ∷ bs) p s
      by_send (inl u) = let z : ◌≡◌ {A = ℕ} 0 (suc (length bs)) = sym (ap (λ (r : Ran). r.taken) (inside u)) ∙ c.taken in absurd (omega (arith, z))
      by_send (inr u) = by_six u (either_way (eqb o.answer 6))

  step_led : (q : List ℕ) → good p s ≡ true → o.answer ≡ 0 → Clean rest (length bs) × (rest.page ≡ q)
      → Clean (repeated (b ∷ bs) p s 0) (suc (length bs)) × ((repeated (b ∷ bs) p s 0).page ≡ q)
  step_led q g e k =
      let u = outside g e in
      let f : eqb o.answer 6 ≡ false = ne_eqb o.answer 6 (λ z. omega (arith, e, z)) in
      let j = goes u f in (
        subst (λ (r : Ran). Clean r (suc (length bs))) (sym j) (clean_joined o rest (length bs) e k.0),
        ap (λ (r : Ran). r.page) j
            ∙ (joined_page o rest ∙ k.1),
      )

-- ---- all of them

pub leads_of : (bytes p : List ℕ) (s : State) → good p s ≡ true → Clean (repeated bytes p s 0) (length bytes)
    → Leads (repeated bytes p s 0).page bytes p s
leads_of [] p s g c = unfold repeated in end s
leads_of (b ∷ bs) p s g c = step_leads b bs p s g (λ k. leads_of bs (step_rule p s b 0).page (step_rule p s b 0).state (step_good p s b 0 g) k) c

pub of_leads : {q bytes p : List ℕ} {s : State} → good p s ≡ true → Leads q bytes p s
    → Clean (repeated bytes p s 0) (length bytes) × ((repeated bytes p s 0).page ≡ q)
of_leads g (end s) = unfold repeated in (record { answer = refl; taken = refl; refused = refl }, refl)
of_leads {q} g (byte b bs p s e l) = step_led b bs p s q g e (of_leads (step_good p s b 0 g) l)

-- ---- power-on at a width

on_possible : (wide : Bool) (m : Personality) → possible (power_on_at wide m) ≡ true
unfolding power_on_at possible core_ok setup_ok power_on columns no_stops screen_ok unsplit_ok texts_ok text_ok all_text attributes_ok is_attribute features_ok feature_place
    remembered_ok pending_ok sending_ok
on_possible true Personality.Wy50 = refl
on_possible true Personality.Wy60 = refl
on_possible false Personality.Wy50 = refl
on_possible false Personality.Wy60 = refl

pub on_good : (wide : Bool) (m : Personality) (p : List ℕ) → length p ≡ 24 * columns wide → good p (power_on_at wide m) ≡ true
on_good wide m p e = good_whole p (power_on_at wide m) (unfold power_on_at in e) (on_possible wide m)

on_idle : (wide : Bool) (m : Personality) → sends (power_on_at wide m).sending ≡ false
unfolding power_on_at power_on
on_idle wide m = refl

on_run : (wide : Bool) (m : Personality) (p bytes : List ℕ) → length p ≡ 24 * columns wide
    → run_rule p (power_on_at wide m) bytes 0 ≡ repeated bytes p (power_on_at wide m) 0
unfolding run_rule
on_run wide m p bytes e = rw (on_good wide m p e, on_idle wide m)

-- ---- two pages that are equal cell by cell

equal_lists : (a b : List ℕ) → length a ≡ length b → ((j : ℕ) → j < length b → get_or a j 0 ≡ get_or b j 0) → a ≡ b
equal_lists [] [] e h = refl
equal_lists [] (y ∷ b) e h = absurd (omega arith)
equal_lists (x ∷ a) [] e h = absurd (omega arith)
equal_lists (x ∷ a) (y ∷ b) e h =
    let k : x ≡ y = h 0 (omega arith) in
    let t = equal_lists a b (omega arith) (λ j l. h (suc j) (omega arith)) in
    rw (k, t)

-- the loop over the cells and the comparison of the lists say the same
equal_same : (a b : List ℕ) → length a ≡ length b → equal a b 0 (length b) ≡ same a b
equal_same a b e = by (either_way (equal a b 0 (length b))) (either_way (same a b))
  where
    by : (equal a b 0 (length b) ≡ true) ⊎ (equal a b 0 (length b) ≡ false) → (same a b ≡ true) ⊎ (same a b ≡ false)
        → equal a b 0 (length b) ≡ same a b
    by (inl t) s =
        let q : a ≡ b = equal_lists a b e (λ i l. (same_means a b 0 (length b) t).1 i (omega arith) l) in
        t ∙ sym (ap (λ (z : List ℕ). same z b) q ∙ same_refl b)
    by (inr t) (inl s) =
        let q : a ≡ b = same_is a b s in
        absurd (false≢true (sym t ∙ same_made a b 0 (length b) (omega arith) (λ i x y. ap (λ (z : List ℕ). get_or z i 0) q)))
    by (inr t) (inr s) = t ∙ sym s

module _ (m : Personality) (wide : Bool) (a b bytes : List ℕ) (size : length a ≡ 24 * columns wide) where
  abbrev s : State
  s = power_on_at wide m

  abbrev r : Ran
  r = run_rule a s bytes 0

  pub paints_leads : paints m wide a b bytes ≡ true → AcceptsBytes m wide a b bytes
  unfolding paints
  paints_leads e =
      let t = both_parts (clean r (length bytes)) _ e in
      let j = on_run wide m a bytes size in
      let k = subst (λ (x : Ran). Clean x (length bytes)) j (clean_parts r (length bytes) t.0) in
      let q : r.page ≡ b = same_is r.page b t.1 in
      subst (λ (z : List ℕ). Leads z bytes a s) (sym (ap (λ (x : Ran). x.page) j) ∙ q) (leads_of bytes a s (on_good wide m a size) k)

  pub leads_paints : AcceptsBytes m wide a b bytes → paints m wide a b bytes ≡ true
  unfolding paints
  leads_paints l =
      let k = of_leads (on_good wide m a size) l in
      let j = on_run wide m a bytes size in
      let c = clean_whole r (length bytes) (subst (λ (x : Ran). Clean x (length bytes)) (sym j) k.0) in
      let q : r.page ≡ b = ap (λ (x : Ran). x.page) j ∙ k.1 in
      both_true c (ap (λ (z : List ℕ). same z b) q ∙ same_refl b)

-- ---- the code

-- the power-on state with another screen
pub on_made : (wide : Bool) (m : Personality) {s : State} {c : Core} → s ≡ power_on m → c ≡ with_screen s.core (unsplit_screen wide)
    → record { core = c; sending = s.sending; gathered = s.gathered; setup = s.setup } ≡ power_on_at wide m
unfolding power_on_at
on_made wide m e f = rw (f, e)

-- cells copied one after the other
pub copy_step : (a b : List ℕ) {c : List ℕ} (i : ℕ) → i < length a → i < length b → c ≡ take i a ++ drop i b
    → set c i (get_or a i 0) ≡ take (i + 1) a ++ drop (i + 1) b
copy_step a b i h k q =
    let e : length (take i a) ≡ i = omega (arith, length-take i a) in
    let t : take (suc i) a ++ drop (suc i) b ≡ take i a ++ get_or a i 0 ∷ drop (suc i) b =
    ap (λ (z : List ℕ). z ++ drop (suc i) b) (take-suc a i 0 h) ∙ append_snoc (take i a) (get_or a i 0) (drop (suc i) b) in
    ap (λ (z : List ℕ). set z i (get_or a i 0)) q
    ∙ rw (drop-cons b i 0 k, add-one i) (set_at (take i a) (get_or b i 0) (drop (suc i) b) (get_or a i 0) i e ∙ sym t)

pub copy_done : (a b : List ℕ) {c : List ℕ} (i : ℕ) → length a ≤ i → i ≤ length a → c ≡ take i a ++ drop i b → c ≡ over a b
unfolding over
copy_done a b i h k q = let e : i ≡ length a = omega arith in q ∙ rw (take_all i a h, e)

-- as long as what it is copied to
pub over_all : (a b : List ℕ) {c : List ℕ} → length a ≡ length b → c ≡ over a b → c ≡ a
unfolding over
over_all a b e q = q ∙ (ap (λ (l : List ℕ). a ++ l) (drop_of_length-le b {i = length a} (omega arith)) ∙ append-nil a)

clean_made : (o : Ran) (l n k f : ℕ) → n ≡ o.answer → k ≡ o.taken → f ≡ o.refused → both (eqb n 0) (both (eqb k l) (eqb f 0)) ≡ clean o l
unfolding clean
clean_made o l n k f en ek ef = rw (en, ek, ef)

-- what the run leaves, and what is compared
pub paints_made : (m : Personality) (wide : Bool) (a b bytes : List ℕ) {p q : List ℕ} {s : State} {room n k f : ℕ} {c e r : Bool}
    → length a ≡ length b
    → p ≡ a → s ≡ power_on_at wide m → room ≡ 0
    → n ≡ (run_rule p s bytes room).answer → k ≡ (run_rule p s bytes room).taken → f ≡ (run_rule p s bytes room).refused → q ≡ (run_rule p s bytes room).page
    → c ≡ both (eqb n 0) (both (eqb k (length bytes)) (eqb f 0)) → e ≡ equal q b 0 (length b) → r ≡ both c e → r ≡ paints m wide a b bytes
unfolding paints
paints_made m wide a b bytes {p} {q} {s} {room} {n} {k} {f} {c} {e} {r} alike ep es er en ek ef eq ec ee err =
    let o = run_rule a (power_on_at wide m) bytes 0 in
    let z : run_rule p s bytes room ≡ o = rw (ep, es, er) in
    let n' : n ≡ o.answer = en ∙ ap (λ (x : Ran). x.answer) z in
    let k' : k ≡ o.taken = ek ∙ ap (λ (x : Ran). x.taken) z in
    let f' : f ≡ o.refused = ef ∙ ap (λ (x : Ran). x.refused) z in
    let q' : q ≡ o.page = eq ∙ ap (λ (x : Ran). x.page) z in
    let c' : c ≡ clean o (length bytes) = ec ∙ clean_made o (length bytes) n k f n' k' f' in
    let long : length q ≡ length b = ap length q' ∙ ((run_keeps a (power_on_at wide m) bytes 0).size ∙ alike) in
    err ∙ ap₂ both c' (ee ∙ (equal_same q b long ∙ ap (λ (x : List ℕ). same x b) q'))

-- the pages' width
pub record At (wide : Bool) (a b : List ℕ) : Type 0 where
  pub pages : Pages (columns wide) a b
  pub size : length a ≡ 24 * columns wide
  pub most : length a ≤ 3168

pub pages_at : (a b : List ℕ) (w : ℕ) → w ≡ pages_width a b → (w ≡ 0 → ⊥) → At (eqb w 132) a b
pages_at a b w e n = by (widths a b)
  where
    narrow : w ≡ 80 → length a ≡ length b → length a ≡ 1920 → At (eqb w 132) a b
    narrow z k l = rw z (unfold columns in record { pages = record { alike = k; width = inl (refl, l) }; size = l; most = omega (arith, l) })

    wide : w ≡ 132 → length a ≡ length b → length a ≡ 3168 → At (eqb w 132) a b
    wide z k l = rw z (unfold columns in record { pages = record { alike = k; width = inr (refl, l) }; size = l; most = omega (arith, l) })

    by_width : length a ≡ length b → ((pages_width a b ≡ 80) × (length a ≡ 1920)) ⊎ ((pages_width a b ≡ 132) × (length a ≡ 3168)) → At (eqb w 132) a b
    by_width k (inl x) = narrow (e ∙ x.0) k x.1
    by_width k (inr x) = wide (e ∙ x.0) k x.1

    by : ((pages_width a b ≡ 0) × ((v : ℕ) → Pages v a b → ⊥)) ⊎ Pages (pages_width a b) a b → At (eqb w 132) a b
    by (inl z) = absurd (n (e ∙ z.0))
    by (inr p) = by_width p.alike p.width

pub no_pages : (a b : List ℕ) (w : ℕ) → w ≡ pages_width a b → w ≡ 0 → (v : ℕ) → Pages v a b → ⊥
no_pages a b w e z = by (widths a b)
  where
    by_width : ((pages_width a b ≡ 80) × (length a ≡ 1920)) ⊎ ((pages_width a b ≡ 132) × (length a ≡ 3168)) → ⊥
    by_width (inl x) = omega (arith, e, z, x.0)
    by_width (inr x) = omega (arith, e, z, x.0)

    by : ((pages_width a b ≡ 0) × ((v : ℕ) → Pages v a b → ⊥)) ⊎ Pages (pages_width a b) a b → (v : ℕ) → Pages v a b → ⊥
    by (inl k) = k.1
    by (inr p) = λ v k. by_width p.width

module _ (m : Personality) (a b bytes : List ℕ) (w : ℕ) {r : Bool} (x : At (eqb w 132) a b) (e : r ≡ paints m (eqb w 132) a b bytes) where
  pub taken_verdict : r ≡ true → BytesVerdict m a b bytes (verdict_number Verdict.Accepted)
  taken_verdict t = BytesVerdict.accepted (eqb w 132) x.pages (paints_leads m (eqb w 132) a b bytes x.size (sym e ∙ t))

  pub left_verdict : r ≡ false → BytesVerdict m a b bytes (verdict_number Verdict.NotAccepted)
  left_verdict t =
      BytesVerdict.refused (eqb w 132) x.pages (λ l. false≢true (sym (sym e ∙ t) ∙ leads_paints m (eqb w 132) a b bytes x.size l))
