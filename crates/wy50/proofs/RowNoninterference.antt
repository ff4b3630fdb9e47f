-- Demand 3 of the exported calls with row lists. A list is looked at beside the page's guarded cells, equal in both terminals: it agrees in both
-- or in neither, and becomes the same.
-- Assumes nothing.
use mathlib.Core.Path.{◌≡◌, refl, sym, ap, ap₂, subst, subst₂, ◌∙◌}
use mathlib.Core.Bool.{Bool, true, false}
use mathlib.Core.List.{List, [], ◌∷◌, ◌++◌}
use Prim.Native.Nat.{ℕ}
use lib.ListN.{get_or, take}
use Rattle.rules.specs.Cell.{pick}
use Rattle.rules.specs.State.{width_of}
use Rattle.rules.specs.Possible.{good}
use Rattle.rules.specs.Calls.{Call, Step, Run, of_run, Given}
use Rattle.rules.specs.RowList.{row_list, rows_of, agrees}
use Rattle.rules.specs.Next.{next_rule}
use Rattle.rules.specs.RowCalls.{suits, can_rebuild, RowCall, Bare, ListStep, ListRun, Next, Rebuild}
use Rattle.rules.proofs.Related.{Related, related_length}
use Rattle.rules.proofs.Completed.{call_completed_lem, not_true}
use Rattle.rules.proofs.Next.{next_run_lem}
use Rattle.rules.proofs.Noninterference.{guards_agree, next_call_agrees, start_related, related_kept}
use Rattle.terminal.proofs.Noninterference.{front}
use Rattle.wy50.specs.declared.raw.RawState.{RawState}
use Rattle.wy50.specs.Raw.{packed, unpacked}
use Rattle.wy50.specs.Promise.{raw_good, raw_step, raw_ran, raw_run, bad_step, bad_run}
use Rattle.wy50.specs.Rows.{raw_listed, raw_step_rows, raw_run_rows, raw_suited, raw_next, raw_rows_after, raw_can_rebuild}
use Rattle.wy50.specs.Noninterference.{RawGiven, RawCalled, of_raw_step, of_raw_run, raw_call, RawCompleted, first, later}
use Rattle.wy50.specs.RowNoninterference.{RawSession, RawRowCalled, left, listed, of_raw_next, handed, heard, run_of, raw_row_call, bare_call}
use Rattle.wy50.specs.RowNoninterference.{bare_calls, RowMade, bare, list_stepped, list_ran, next_heard, rebuilt_rows, RowPerformed, none, next}
use Rattle.wy50.specs.RowNoninterference.{RawRowIndistinguishable, RawRowNoninterference}
use Rattle.state.proofs.Tests.{both_left}
use Rattle.wy50.proofs.Noninterference.{RawClosed, AgreeRaw, good_named, numbered_closed, unpacked_on, unpacked_closed, both_good, raw_agrees}
use Rattle.wy50.proofs.Noninterference.{made_is}

abbrev session : List ℕ → List ℕ → RawState → RawSession
session p l x = record { page = p; rows = l; state = x }

pub record AgreeRows (p q : List ℕ) (a b : RawRowCalled) : Type 0 where
  pub called : AgreeRaw p q a.called b.called
  pub rows : a.rows ≡ b.rows

listed_good : (p l : List ℕ) (x : RawState) → raw_listed p l x ≡ true → raw_good p x ≡ true
unfolding raw_listed
listed_good p l x e = both_left (raw_good p x) (agrees l p (unpacked x)) e

-- with a list that agrees: the call without it
step_listed : (p l : List ℕ) (x : RawState) (b room : ℕ) → raw_listed p l x ≡ true → of_raw_step (raw_step_rows p l x b room) ≡ raw_call p x (Step b room)
unfolding raw_step_rows raw_call raw_step
step_listed p l x b room e = rw (e, listed_good p l x e)

run_listed : (p l : List ℕ) (x : RawState) (i : List ℕ) (room : ℕ) → raw_listed p l x ≡ true
    → of_raw_run (raw_run_rows p l x i room) ≡ raw_call p x (Run i room)
unfolding raw_run_rows raw_call raw_run
run_listed p l x i room e = rw (e, listed_good p l x e)

-- refused for its list
step_unlisted : (p l : List ℕ) (x : RawState) (b room : ℕ) → raw_listed p l x ≡ false → raw_step_rows p l x b room ≡ bad_step p x
unfolding raw_step_rows
step_unlisted p l x b room e = rw e

run_unlisted : (p l : List ℕ) (x : RawState) (i : List ℕ) (room : ℕ) → raw_listed p l x ≡ false → raw_run_rows p l x i room ≡ bad_run p x i
unfolding raw_run_rows
run_unlisted p l x i room e = rw e

-- `next` with a list that suits, or refused for it
next_suited : (p k : List ℕ) (x : RawState) (i : List ℕ) (room : ℕ) → raw_suited p k x ≡ true
    → (raw_next p k x i room ≡ raw_ran x (next_rule p (unpacked x) i room)) × (raw_good p x ≡ true)
unfolding raw_next raw_suited
next_suited p k x i room e = (rw e, both_left (raw_good p x) (suits k p (unpacked x)) e)

next_unsuited : (p k : List ℕ) (x : RawState) (i : List ℕ) (room : ℕ) → raw_suited p k x ≡ false → raw_next p k x i room ≡ bad_run p x i
unfolding raw_next
next_unsuited p k x i room e = rw e

-- it leaves what the run over the bytes that it takes leaves
next_left : (p k : List ℕ) (x : RawState) (i : List ℕ) (room : ℕ) → raw_suited p k x ≡ true
    → let r = raw_next p k x i room in let q = raw_call p x (Run (take (next_rule p (unpacked x) i room).taken i) room) in
    (r.page ≡ q.page) × (r.state ≡ q.given.state)
unfolding raw_call raw_run
next_left p k x i room e =
    let o = next_suited p k x i room e in
    let r = next_run_lem p (unpacked x) i room in
    rw (o.0, o.1) (r.0, ap (packed x) r.1)

module _ {p q a b : List ℕ} (h : Related p q a b) (l : List ℕ) (x : RawState) (closed : RawClosed x) where
  rows_agree : rows_of a (unpacked x) ≡ rows_of b (unpacked x)
  rows_agree =
      ap (row_list (width_of (unpacked x).core.screen)) (guards_agree (unpacked x).core.modes.protect (unpacked_on x closed.on) h)

  both_listed : raw_listed a l x ≡ raw_listed b l x
  unfolding raw_listed
  both_listed = rw (both_good h x closed, rows_agree)

  -- the list after a call that was made in both
  left_rows : {c d : RawCalled} → AgreeRaw p q c d → rows_of c.page (unpacked c.given.state) ≡ rows_of d.page (unpacked d.given.state)
  left_rows {c} {d} k =
      ap (row_list (width_of (unpacked c.given.state).core.screen))
      (guards_agree (unpacked c.given.state).core.modes.protect (unpacked_on c.given.state k.closed.on) k.related)
      ∙ ap (λ (g : RawGiven). rows_of d.page (unpacked g.state)) (sym k.given)

  -- one that took the list, or was refused for it, in both
  taken_agrees : (c d : RawCalled) → AgreeRaw p q c d → AgreeRows p q (listed (session a l x) c) (listed (session b l x) d)
  unfolding raw_rows_after
  taken_agrees c d k = record { called = k; rows = rw (← both_listed) (by (raw_listed a l x)) }
    where
      by : (t : Bool) → pick t (rows_of c.page (unpacked c.given.state)) l ≡ pick t (rows_of d.page (unpacked d.given.state)) l
      by true = left_rows k
      by false = refl

  -- `next`, with the list or with none
  both_suited : (k : List ℕ) → raw_suited a k x ≡ raw_suited b k x
  unfolding raw_suited
  both_suited k = rw (both_good h x closed, rows_agree)

  next_agrees : (k i : List ℕ) (room : ℕ) (t : Bool) → raw_suited a k x ≡ t → (RawCompleted (pick t (run_of (session a l x) i room ∷ []) []) a x → ⊥)
      → AgreeRaw p q (of_raw_next x i (raw_next a k x i room)) (of_raw_next x i (raw_next b k x i room))
  unfolding of_run
  next_agrees k i room true e free =
      let s = unpacked x in
      let o = next_suited a k x i room e in
      let v = next_suited b k x i room (sym (both_suited k) ∙ e) in
      let c = Run (take (next_rule a s i room).taken i) room in
      let r = next_call_agrees h s (unpacked_closed x closed) i room
      (not_true _ (λ t. free (first (good_named a x o.1) (call_completed_lem a s c t)))) in
      let g : (of_run (next_rule b s i room)).given ≡ (of_run (next_rule a s i room)).given = r.given in
      rw (o.0, v.0)
      (record {
        given = cc (
          ap (λ (z : Given). z.answer) g,
          ap (λ (z : Given). get_or z.counts 0 0) g,
          ap (λ (z : Given). get_or z.counts 2 0) g,
          ap
              (λ (z : Given). z.reply) g,
          ap (λ (z : Given). z.rest) g,
          ap (λ (z : Given). z.state) g,
        );
        related = r.related;
        closed = numbered_closed _ (next_rule a s i room).state r.closed;
      })
  next_agrees k i room false e free =
      rw (next_unsuited a k x i room e, next_unsuited b k x i room (sym (both_suited k) ∙ e)) (record { given = refl; related = h; closed = closed })

  heard_agrees : (with : Bool) (c d : RawCalled) → AgreeRaw p q c d → AgreeRows p q (heard with (session a l x) c) (heard with (session b l x) d)
  heard_agrees true c d k = taken_agrees c d k
  heard_agrees false c d k = record { called = k; rows = refl }

  pub row_call_agrees : (c : RowCall) → (RawCompleted (bare_call (session a l x) c) a x → ⊥)
      → AgreeRows p q (raw_row_call (session a l x) c) (raw_row_call (session b l x) c)
  unfolding raw_row_call bare_call raw_can_rebuild can_rebuild good
  row_call_agrees (Bare c) free = record { called = raw_agrees h x closed c (λ e k. free (first e k)); rows = refl }
  row_call_agrees (ListStep v room) free = taken_agrees _ _ (by (raw_listed a l x) refl free)
    where
      by : (t : Bool) → raw_listed a l x ≡ t → (RawCompleted (pick t (Step v room ∷ []) []) a x → ⊥)
          → AgreeRaw p q (of_raw_step (raw_step_rows a l x v room)) (of_raw_step (raw_step_rows b l x v room))
      by true e free =
          rw (step_listed a l x v room e, step_listed b l x v room (sym both_listed ∙ e))
          (raw_agrees h x closed (Step v room) (λ n k. free (first n k)))
      by false e free = rw (step_unlisted a l x v room e, step_unlisted b l x v room (sym both_listed ∙ e))
          (record { given = refl; related = h; closed = closed })
  row_call_agrees (ListRun i room) free = taken_agrees _ _ (by (raw_listed a l x) refl free)
    where
      by : (t : Bool) → raw_listed a l x ≡ t → (RawCompleted (pick t (Run i room ∷ []) []) a x → ⊥)
          → AgreeRaw p q (of_raw_run (raw_run_rows a l x i room)) (of_raw_run (raw_run_rows b l x i room))
      by true e free =
          rw (run_listed a l x i room e, run_listed b l x i room (sym both_listed ∙ e)) (raw_agrees h x closed (Run i room) (λ n k. free (first n k)))
      by false e free = rw (run_unlisted a l x i room e, run_unlisted b l x i room (sym both_listed ∙ e))
          (record { given = refl; related = h; closed = closed })
  row_call_agrees (Next with i room) free =
      heard_agrees with _ _ (next_agrees (handed with (session a l x)) i room (raw_suited a (handed with (session a l x)) x) refl free)
  row_call_agrees Rebuild free =
      rw (related_length h, rows_agree) (record { called = record { given = refl; related = h; closed = closed }; rows = refl })

-- ---- lists of calls

-- the rest of a list completes nothing, if the list does not
rest_free : (x : RawSession) (c : RowCall) {cs : List Call} → (RawCompleted (bare_call x c ++ cs) x.page x.state → ⊥)
    → RawCompleted cs (left (raw_row_call x c)).page (left (raw_row_call x c)).state → ⊥
unfolding raw_row_call bare_call
rest_free x (Bare c) free k = free (later k)
rest_free x (ListStep b room) {cs} free k = by (raw_listed x.page x.rows x.state) refl free k
  where
    by : (t : Bool) → raw_listed x.page x.rows x.state ≡ t → (RawCompleted (pick t (Step b room ∷ []) [] ++ cs) x.page x.state → ⊥)
        → RawCompleted cs (of_raw_step (raw_step_rows x.page x.rows x.state b room)).page
        (of_raw_step (raw_step_rows x.page x.rows x.state b room)).given.state → ⊥
    by true e free k =
        free (later (subst (λ (r : RawCalled). RawCompleted cs r.page r.given.state) (step_listed x.page x.rows x.state b room e) k))
    by false e free k = free (rw (step_unlisted x.page x.rows x.state b room e) at k)
rest_free x (ListRun i room) {cs} free k = by (raw_listed x.page x.rows x.state) refl free k
  where
    by : (t : Bool) → raw_listed x.page x.rows x.state ≡ t → (RawCompleted (pick t (Run i room ∷ []) [] ++ cs) x.page x.state → ⊥)
        → RawCompleted cs (of_raw_run (raw_run_rows x.page x.rows x.state i room)).page
        (of_raw_run (raw_run_rows x.page x.rows x.state i room)).given.state → ⊥
    by true e free k =
        free (later (subst (λ (r : RawCalled). RawCompleted cs r.page r.given.state) (run_listed x.page x.rows x.state i room e) k))
    by false e free k = free (rw (run_unlisted x.page x.rows x.state i room e) at k)
rest_free x (Next with i room) {cs} free k = by (raw_suited x.page (handed with x) x.state) refl free
  where
    by : (t : Bool) → raw_suited x.page (handed with x) x.state ≡ t
        → (RawCompleted (pick t (run_of x i room ∷ []) [] ++ cs) x.page x.state → ⊥) → ⊥
    by true e free =
        let r = next_left x.page (handed with x) x.state i room e in
        free (later (subst₂ (RawCompleted cs) r.0 r.1 k))
    by false e free = free (rw (next_unsuited x.page (handed with x) x.state i room e) at k)
rest_free x Rebuild free k = free k

-- nor does its first call
append_completed : (ds cs : List Call) {p : List ℕ} {x : RawState} → RawCompleted ds p x → RawCompleted (ds ++ cs) p x
append_completed [] cs k = elim k [ ]
append_completed (c ∷ ds) cs (first e k) = first e k
append_completed (c ∷ ds) cs (later k) = later (append_completed ds cs k)

pub row_made_is : {x : RawSession} {p' l' : List ℕ} {c : RowCall} {g : RawGiven} → RowMade x c g p' l'
    → raw_row_call x c ≡ record { called = record { given = g; page = p' }; rows = l' }
unfolding raw_row_call
row_made_is {x} (bare m) = ap (λ (r : RawCalled). record { called = r; rows = x.rows }) (made_is m)
row_made_is (list_stepped {w = w} {w' = w'} {r = r} h e) =
    cc (h.answer, h.taken, h.state, h.replied, h.page, front _ w w' r.replied h.replied h.room, e)
row_made_is (list_ran {w = w} {w' = w'} {r = r} h e) =
    cc (h.answer, h.taken, h.replied, h.refused, h.rest, h.state, h.page, front _ w w' r.replied h.replied h.room, e)
row_made_is (next_heard {w = w} {w' = w'} {r = r} h c e) =
    cc (h.answer, h.taken, h.replied, h.refused, h.rest, h.state, h.page, front _ w w' r.replied h.replied h.room, c, e)
row_made_is (rebuilt_rows h e) = cc (h, e)

performed_agrees : {calls : List RowCall} {p q a b : List ℕ} {l : List ℕ} {x : RawState} {y z : RawSession} {gs hs : List RawGiven} {ls ms : List
    (List ℕ)}
    → Related p q a b → RawClosed x → (RawCompleted (bare_calls calls (session a l x)) a x → ⊥)
    → RowPerformed (session a l x) calls gs ls y → RowPerformed (session b l x) calls hs ms z → RawRowIndistinguishable p q gs hs ls ms y z
unfolding bare_calls
performed_agrees h closed free none none = record { given = refl; lists = refl; rows = refl; state = refl; pages = related_kept h }
performed_agrees {p = p} {q = q} {a = a} {l = l} {x = x} h closed free
    (next {p' = a₁} {l' = l₁} {c = c} {cs = cs} {g = g} m f) (next {y = z} {p' = b₁} {l' = m₁} {g = k} {gs = ks} {ls = ns} n t) =
    let r = subst₂ (AgreeRows p q) (row_made_is m) (row_made_is n)
    (row_call_agrees h l x closed c (λ e. free (append_completed (bare_call (session a l x) c) _ e))) in
    let free₁ : RawCompleted (bare_calls cs (session a₁ l₁ g.state)) a₁ g.state → ⊥ =
    subst (λ (r : RawRowCalled). RawCompleted (bare_calls cs (left r)) r.called.page r.called.given.state → ⊥) (row_made_is m)
    (rest_free (session a l x) c free) in
    let t₁ : RowPerformed (session b₁ l₁ g.state) cs ks ns z =
    subst₂ (λ (w : List ℕ) (v : RawState). RowPerformed (session b₁ w v) cs ks ns z) (sym r.rows)
    (ap (λ (v : RawGiven). v.state) r.called.given) t in
    let e = performed_agrees r.called.related r.called.closed free₁ f t₁ in
    record {
      given = ap₂ ◌∷◌ (sym r.called.given) e.given;
      lists = ap₂ ◌∷◌ r.rows e.lists;
      rows = e.rows;
      state = e.state;
      pages = e.pages;
    }

pub raw_row_noninterference : RawRowNoninterference
raw_row_noninterference p q l x calls gs hs ls ms y z on conceals alike free f g =
    performed_agrees (start_related p q alike) record { on = on; conceals = conceals } free f g
