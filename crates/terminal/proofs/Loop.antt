-- The loop over host bytes: what holds at its head, and what a turn does.
--     step_made     the step of the rules, by the inner step
--     nothing_made     a change of nothing
--     event_ends, event_answer, no_event     the test for an event to stop at
--     tail_lent, tail_none, tail_back     the rest of the room, as it is lent and when it is back
--     ran_is     a result by another name
--     begin, stops, go, halt, finish     the loop's start, a byte that answers 6, any other byte, one to stop behind, the end of the input
--     ready     what the loop hands to the inner step meets what that asks
--     page-size, room_size, back_size     the page and the room keep their lengths
--     stop_beside, go_beside, ended_beside     the row list after a byte, and after the run
--     more_replied, more_refused     the counts stay within the lengths of the room and of the input
-- Assumes nothing.
use Rattle.std.specs.Prelude.{◌≡◌, ℕ, suc, ◌+◌, ◌-◌, ◌<◌, ◌≤◌, Bool, true, false, eqb, List, [], ◌∷◌, ◌++◌, length, get_or, take, drop}
use mathlib.Core.Path.{refl, sym, ap, ap₂, subst, subst₂, ◌∙◌}
use mathlib.Core.Bool.{false≢true}
use mathlib.Core.List.{append_assoc, append-nil}
use Prim.Native.Nat.{zero-le}
use native.Mathlib.Nat.{add-zero, zero-add}
use native.Mathlib.Numerals.{add-one}
use native.Mathlib.Omega.{arith}
use lib.ListN.{length-append, length-drop, take-append-drop, drop_of_length-le}
use lib.Seq.{take_all, drop-cons, take_at, drop_at, drop-drop, length-take-le}
use borrow.Author.Tests.{eqb-true, not-true}
use Rattle.rules.specs.declared.Answer.{Answer}
use Rattle.rules.specs.declared.Core.{Core}
use Rattle.rules.specs.declared.CoreResult.{CoreResult}
use Rattle.rules.specs.declared.Change.{Change}
use Rattle.rules.specs.declared.Setup.{Setup}
use Rattle.rules.specs.declared.State.{State}
use Rattle.rules.specs.declared.RunResult.{RunResult}
use Rattle.rules.specs.declared.Sending.{Sending}
use Rattle.rules.specs.declared.SetupChange.TheVariants as SetupChange
use Rattle.rules.specs.Cell.{pick, both, either, between}
use Rattle.rules.specs.Row.{columns}
use Rattle.rules.specs.Search.{guarded_at}
use Rattle.rules.specs.RowList.{Beside}
use Rattle.rules.specs.State.{number, width_of, page_length, sends, changed, sending_after, gathered_after, setup_after}
use Rattle.rules.specs.Possible.{screen_ok, pending_ok, good}
use Rattle.rules.specs.Carry.{Effect}
use Rattle.rules.specs.Step.{Outcome, inner_rule, step_rule}
use Rattle.rules.specs.Room.{over}
use Rattle.rules.specs.Calls.{Ran, ended, behind, refusal, joined, repeated}
use Rattle.rules.specs.Next.{is_event, tells}
use Rattle.rules.specs.Theorems.Steps.{preceded}
use Rattle.rules.specs.Theorems.Left.{leaves}
use Rattle.rules.proofs.Tests.{pick_if}
use Rattle.rules.proofs.Kept.{good_parts, possible_parts, step_keeps, step_good}
use Rattle.rules.proofs.Left.{step_left}
use Rattle.rules.proofs.Numbers.{remembered_below}
use Rattle.rules.proofs.Sends.{not_sending}
use Rattle.rules.proofs.Next.{to_done, to_event_lem, to_go, event_six, event_taken, begun_tells}
use Rattle.rules.proofs.Run.{run_waits, run_stop, run_go, run_done, preceded_joined}
use Rattle.page.proofs.RowList.{beside_is}
use Rattle.carry.specs.Carried.{Carried}
use Rattle.carry.specs.Rows.{BesideAfter}
use Rattle.terminal.specs.Promise.{RunDone}
use Rattle.terminal.specs.Loop.{is_nothing, state_with, state_of, ran_to}
use Rattle.terminal.proofs.Carrying.{over_none}

-- ---- the step of the rules, by the effect of the inner step

pub record Made (g : List ℕ) (u : Setup) (e : Effect) (o : Outcome) : Type 0 where
  pub answer : o.answer ≡ e.answer
  pub core : o.state.core ≡ e.core
  pub sending : o.state.sending ≡ sending_after e.change Sending.Nothing
  pub gathered : o.state.gathered ≡ gathered_after e.change g
  pub setup : o.state.setup ≡ setup_after e.change g u
  pub page : o.page ≡ e.page
  pub reply : o.reply ≡ e.reply

pub step_made : (p : List ℕ) (c : Core) (g : List ℕ) (u : Setup) (b room : ℕ) → good p (state_of c g u) ≡ true
    → Made g u (inner_rule p c u.tabs b room) (step_rule p (state_of c g u) b room)
unfolding step_rule
step_made p c g u b room h = rw h (record { answer = refl; core = refl; sending = refl; gathered = refl; setup = refl; page = refl; reply = refl })

-- a change of nothing leaves the gathered bytes and the set-up, and no send
pub nothing_made : (x : Change) (g : List ℕ) (u : Setup) → is_nothing x ≡ true
    → (g ≡ gathered_after x g) × ((u ≡ setup_after x g u) × (sending_after x Sending.Nothing ≡ Sending.Nothing))
unfolding sending_after gathered_after setup_after changed
nothing_made (Change.Gather n b) g u e = absurd (false≢true e)
nothing_made (Change.Take x n) g u e = absurd (false≢true e)
nothing_made (Change.Set SetupChange.Nothing) g u e = (refl, (refl, refl))
nothing_made (Change.Send x) g u e = (refl, (refl, not_sending x (not-true (sends x) e)))
nothing_made (Change.Set (SetupChange.Tab i b)) g u e = absurd (false≢true e)
nothing_made (Change.Set SetupChange.ClearTabs) g u e = absurd (false≢true e)
nothing_made (Change.Set (SetupChange.Attribute i a)) g u e = absurd (false≢true e)
nothing_made (Change.Set (SetupChange.Feature i f)) g u e = absurd (false≢true e)
nothing_made (Change.Set SetupChange.HideLine) g u e = absurd (false≢true e)
nothing_made (Change.Set (SetupChange.Wish b)) g u e = absurd (false≢true e)

-- the test for an event to stop at
pub event_ends : (stop e : Bool) → both stop e ≡ true → either (both stop e) false ≡ true
event_ends stop e h = rw h

pub event_answer : {a : Answer} (stop e : Bool) → both stop e ≡ true → a ≡ pick stop a Answer.Done
event_answer true e h = refl
event_answer false e h = absurd (false≢true h)

pub no_event : (stop e : Bool) → both stop e ≡ false → stop ≡ true → e ≡ false
no_event true e h u = h
no_event false e h u = absurd (false≢true u)

refusal_one : (n : ℕ) → refusal n ≤ 1
refusal_one n = pick_if (λ (k : ℕ). k ≤ 1) (between 1 4 n) (λ e. omega arith) (λ e. omega arith)

pub run_rests : (bs p : List ℕ) (s : State) (room : ℕ) → sends s.sending ≡ true → repeated bs p s room ≡ ended p s 0 bs
run_rests [] p s room u = run_done p s room
run_rests (b ∷ bs) p s room u = run_waits b bs p s room u

-- ---- one turn of the run, or of the run to the first event

ran_done : (stop : Bool) (p : List ℕ) (s : State) (room : ℕ) → ran_to stop [] p s room ≡ ended p s 0 []
ran_done true p s room = to_done p s room
ran_done false p s room = run_done p s room

module _ (b : ℕ) (bs p : List ℕ) (s : State) (room : ℕ) (g : good p s ≡ true) (u : sends s.sending ≡ false) where
  abbrev stepped : Outcome
  stepped = step_rule p s b room

  ran_six : (stop : Bool) → stepped.answer ≡ 6 → ran_to stop (b ∷ bs) p s room ≡ ended p s 6 (b ∷ bs)
  ran_six true e = to_event_lem b bs p s room (rw e refl) ∙ event_six b bs p s room g u e
  ran_six false e = run_stop b bs p s room u e

  ran_go : (stop : Bool) → eqb stepped.answer 6 ≡ false → (stop ≡ true → tells stepped ≡ false)
      → ran_to stop (b ∷ bs) p s room ≡ joined stepped (ran_to stop bs stepped.page stepped.state (room - length stepped.reply))
  ran_go true e h = to_go b bs p s room (h refl)
  ran_go false e h = run_go b bs p s room u e

  -- it ends behind the byte: at an event, or where a send is under way
  ran_ends : (stop : Bool) → eqb stepped.answer 6 ≡ false → (stop ≡ true → tells stepped ≡ true)
      → (stop ≡ false → sends stepped.state.sending ≡ true)
      → ran_to stop (b ∷ bs) p s room ≡ joined stepped (ended stepped.page stepped.state (pick stop stepped.answer 0) bs)
  ran_ends true e h k = to_event_lem b bs p s room (h refl) ∙ event_taken b bs p s room g u e
  ran_ends false e h k =
      run_go b bs p s room u e
      ∙ ap (joined stepped) (run_rests bs stepped.page stepped.state (room - length stepped.reply) (k refl))

-- ---- the room

-- `&mut room[n..]` as it is lent, and the room when it is back
abbrev pub lent_tail : ℕ → List ℕ → List ℕ
lent_tail n w = take (length w - n) (drop n w)

abbrev pub back_tail : ℕ → List ℕ → List ℕ → List ℕ
back_tail n w part = take n w ++ (part ++ drop (length w - n) (drop n w))

tail_rest : (n : ℕ) (w : List ℕ) → length (drop n w) ≤ length w - n
tail_rest n w = omega (arith, length-drop n w)

pub tail_lent : (n : ℕ) (w : List ℕ) → lent_tail n w ≡ drop n w
tail_lent n w = take_all (length w - n) (drop n w) (tail_rest n w)

-- past the end there is nothing
pub tail_none : (n : ℕ) (w : List ℕ) → length w < n → lent_tail (length w) w ≡ drop n w
tail_none n w h =
    tail_lent (length w) w ∙ drop_of_length-le w {i = length w} (omega arith) ∙ sym (drop_of_length-le w {i = n} (omega arith))

pub tail_back : (n : ℕ) (w part : List ℕ) → back_tail n w part ≡ take n w ++ part
tail_back n w part =
    ap (λ (l : List ℕ). take n w ++ (part ++ l)) (drop_of_length-le (drop n w) (tail_rest n w)) ∙ ap (λ (l : List ℕ). take n w ++ l) (append-nil part)

tail_size : (n : ℕ) (w part : List ℕ) → n ≤ length w → length part ≡ length (lent_tail n w) → length (back_tail n w part) ≡ length w
tail_size n w part h e =
    ap length (tail_back n w part) ∙ length-append (take n w) part
    ∙ omega (arith, length-take-le n w h, length-drop n w, e ∙ ap length (tail_lent n w))

-- what a reply of n bytes that stands at the front of w makes of w₀, where the rest is untouched
front : (n : ℕ) (w w₀ : List ℕ) → n ≤ length w → drop n w ≡ drop n w₀ → w ≡ over (take n w) w₀
unfolding over
front n w w₀ h e =
    sym (ap (λ (k : ℕ). take n w ++ drop k w₀) (length-take-le n w h) ∙ ap (λ (l : List ℕ). take n w ++ l) (sym e) ∙ take-append-drop n w)

-- ---- the loop

-- a result by another name
pub ran_is : {o : Ran} {r r' : RunResult} {l p w w' : List ℕ} → r ≡ r' → RunDone o r' l p w w' → RunDone o r l p w w'
ran_is {o} {l = l} {p = p} {w = w} {w' = w'} e h = subst (λ (x : RunResult). RunDone o x l p w w') (sym e) h

-- a run that ended where it stands, i bytes taken, n bytes replied, f bytes refused
ended_there : {o : Ran} {s : State} {input w₀ p w : List ℕ} {i n f : ℕ} {x : Answer} {rest : List ℕ} → drop i input ≡ rest → n ≤ length w
    → n ≤ length w₀
    → i ≤ length input → drop n w ≡ drop n w₀ → o ≡ preceded i f (take n w) (ended p s (number x) rest)
    → RunDone o (record { answer = x; taken = i; replied = n; refused = f; state = s }) input p w₀ w
ended_there {s = s} {input = input} {w₀ = w₀} {p = p} {w = w} {i = i} {n = n} {f = f} {x = x} e fits used within untouched is =
    subst (λ (o : Ran). RunDone o (record { answer = x; taken = i; replied = n; refused = f; state = s }) input p w₀ w) (sym is)
    (record {
      answer = refl;
      taken = sym (add-zero i);
      replied = sym (ap length (append-nil (take n w)) ∙ length-take-le n w fits);
      refused = sym (add-zero f);
      rest = e;
      state = refl;
      page = refl;
      room = front n w w₀ fits untouched ∙ ap (λ (l : List ℕ). over l w₀) (sym (append-nil (take n w)));
      fits = used;
      within = within;
    })

-- o₀ is the whole run, p₀ the page and w₀ the room before the bytes; i bytes are taken, n bytes replied and f bytes refused
pub record Running (stop : Bool) (p₀ : List ℕ) (o₀ : Ran) (input w₀ p w : List ℕ) (c : Core) (g : List ℕ) (u : Setup) (i n f : ℕ) : Type 0 where
  pub within : i ≤ length input
  pub used : n ≤ length w₀
  pub few : f ≤ i
  pub fine : good p (state_of c g u) ≡ true
  pub long : length p ≡ length p₀
  pub size : length w ≡ length w₀
  pub untouched : drop n w ≡ drop n w₀
  pub same : o₀ ≡ preceded i f (take n w) (ran_to stop (drop i input) p (state_of c g u) (length w₀ - n))

-- the run over the bytes behind a reply of n bytes, which stands at the front of w
abbrev pub run_behind : Bool → List ℕ → Core → List ℕ → Setup → List ℕ → List ℕ → ℕ → Ran
run_behind stop p c g u input w n = behind (take n w) (ran_to stop input p (state_of c g u) (length w - n))

pub begin : (stop : Bool) (p : List ℕ) (c : Core) (g : List ℕ) (u : Setup) (input w : List ℕ) (n : ℕ) → good p (state_of c g u) ≡ true → n ≤ length w
    → Running stop p (run_behind stop p c g u input w n) input w p w c g u 0 n 0
unfolding behind
begin stop p c g u input w n k h = record {
  within = zero-le;
  used = h;
  few = zero-le;
  fine = k;
  long = refl;
  size = refl;
  untouched = refl;
  same = simp zero-add;
}

module _ {stop : Bool} {p₀ : List ℕ} {o₀ : Ran} {input w₀ p w : List ℕ} {c : Core} {g : List ℕ} {u : Setup} {i n f : ℕ}
    (R : Running stop p₀ o₀ input w₀ p w c g u i n f) where
  abbrev s : State
  s = state_of c g u

  pub ready : (length p ≡ page_length c.screen)
      × ((screen_ok c.screen ≡ true) × (((t : List ℕ) × (pending_ok c.pending t ≡ true)) × (c.attribute < 32)))
  ready =
      let h = good_parts p s R.fine in
      let k = (possible_parts s h.1).core in
      (h.0, (k.screen, ((g, k.pending), omega (arith, remembered_below c.personality c.attribute k.remembered))))

  pub room_size : n ≤ length w
  room_size = omega (arith, R.used, R.size)

  pub back_size : (part : List ℕ) → length part ≡ length (lent_tail n w) → length (back_tail n w part) ≡ length w₀
  back_size part e = tail_size n w part room_size e ∙ R.size

  pub more_replied : (k : ℕ) → k ≤ length (lent_tail n w) → n + k ≤ length w₀
  more_replied k h = omega (arith, R.used, R.size, ap length (tail_lent n w), length-drop n w)

  pub more_refused : (x : ℕ) → i < length input → f + refusal x ≤ length input
  more_refused x h = omega (arith, R.few, refusal_one x)

  -- the loop ends here with the answer x
  ending : (x : Answer) (rest : List ℕ) → drop i input ≡ rest → ran_to stop rest p s (length w₀ - n) ≡ ended p s (number x) rest
      → RunDone (o₀) (record { answer = x; taken = i; replied = n; refused = f; state = s }) input p w₀ w
  ending x rest e h =
      ended_there {x = x} {rest = rest} e room_size R.used R.within R.untouched
      (R.same ∙ ap (λ (l : List ℕ). preceded i f (take n w) (ran_to stop l p s (length w₀ - n))) e ∙ ap (preceded i f (take n w)) h)

  pub finish : {z : RunResult} → length input ≤ i
      → z ≡ record { answer = Answer.Done; taken = i; replied = n; refused = f; state = s }
      → RunDone o₀ z input p w₀ w
  finish h result = ran_is result (ending Answer.Done [] (drop_of_length-le input h) (ran_done stop p s (length w₀ - n)))

  -- the next byte, on what is left of the room
  module _ (h : i < length input) {r : CoreResult} {p' part : List ℕ}
      (lent : Carried (inner_rule p c u.tabs (get_or input i 0) (length (lent_tail n w))) r p' (lent_tail n w) part) where
    abbrev w' : List ℕ
    w' = back_tail n w part

    S : Carried (inner_rule p c u.tabs (get_or input i 0) (length (drop n w))) r p' (drop n w) part
    S = subst (λ (l : List ℕ). Carried (inner_rule p c u.tabs (get_or input i 0) (length l)) r p' l part) (tail_lent n w) lent

    back : w' ≡ take n w ++ part
    back = tail_back n w part

    abbrev b : ℕ
    b = get_or input i 0

    abbrev e : Effect
    e = inner_rule p c u.tabs b (length (drop n w))

    abbrev o : Outcome
    o = step_rule p s b (length w₀ - n)

    left : length (drop n w) ≡ length w₀ - n
    left = length-drop n w ∙ ap (λ (k : ℕ). k - n) R.size

    made : Made g u e o
    made = rw (sym left) (step_made p c g u b (length (drop n w)) R.fine)

    cons : drop i input ≡ b ∷ drop (suc i) input
    cons = drop-cons input i 0 h

    -- it answers 6: the loop stops before it
    pub stops : {z : RunResult} → eqb (number r.answer) 6 ≡ true
        → z ≡ record { answer = Answer.NoRoom; taken = i; replied = n; refused = f; state = s }
        → RunDone o₀ z input p' w₀ w'
    stops t result =
        let a6 : o.answer ≡ 6 = made.answer ∙ sym S.answer ∙ eqb-true _ _ t in
        let l = step_left p s b (length w₀ - n) (λ z. absurd (omega (arith, z, a6))) in
        let page : p' ≡ p = S.page ∙ sym made.page ∙ l.page in
        let none : part ≡ drop n w =
        S.room ∙ ap (λ (x : List ℕ). over x (drop n w)) (sym made.reply ∙ l.reply) ∙ sym (over_none (drop n w)) in
        let room : w' ≡ w = back ∙ ap (λ (x : List ℕ). take n w ++ x) none ∙ take-append-drop n w in
        ran_is result
        (rw (page, room) (ending Answer.NoRoom (b ∷ drop (suc i) input) cons
        (ran_six b (drop (suc i) input) p s (length w₀ - n) R.fine refl stop a6)))

    -- the row list after it
    pub stop_beside : eqb (number r.answer) 6 ≡ true → {l : List ℕ}
        → BesideAfter (width_of c.screen) (inner_rule p c u.tabs (get_or input i 0) (length (lent_tail n w))) l
        → Beside (width_of c.screen) (guarded_at c.modes.protect p') l
    stop_beside t {l} k =
        let a6 : o.answer ≡ 6 = made.answer ∙ sym S.answer ∙ eqb-true _ _ t in
        let left = step_left p s b (length w₀ - n) (λ z. absurd (omega (arith, z, a6))) in
        let core : e.core ≡ c = sym made.core ∙ ap (λ (x : State). x.core) (left.state ∙ ap (λ (k : ℕ). leaves k s) a6) in
        beside_is (width_of c.screen) (ap₂ (λ (d : Core) (q : List ℕ). guarded_at d.modes.protect q) core (sym S.page))
        (subst (λ (x : List ℕ). BesideAfter (width_of c.screen) (inner_rule p c u.tabs b (length x)) l) (tail_lent n w) k)

    pub go_beside : eqb (number r.answer) 6 ≡ false → {l : List ℕ}
        → BesideAfter (width_of c.screen) (inner_rule p c u.tabs (get_or input i 0) (length (lent_tail n w))) l
        → Beside (width_of r.core.screen) (guarded_at r.core.modes.protect p') l
    go_beside t {l} k =
        let core : r.core ≡ o.state.core = S.core (rw (sym S.answer) t) ∙ sym made.core in
        let wide : width_of c.screen ≡ width_of r.core.screen =
        sym (ap columns (ap (λ (d : Core). d.screen.wide) core ∙ (step_keeps p s b (length w₀ - n)).wide)) in
        subst (λ (m : ℕ). Beside m (guarded_at r.core.modes.protect p') l) wide
        (beside_is (width_of c.screen)
        (ap₂ (λ (d : Core) (q : List ℕ). guarded_at d.modes.protect q) (sym (lent.core (rw (sym lent.answer) t))) (sym lent.page)) k)

    -- the reply stands behind those of the bytes before
    sum : length (take n w ++ o.reply) ≡ n + r.replied
    sum = length-append (take n w) o.reply ∙ omega (arith, length-take-le n w room_size, S.replied, ap length made.reply)

    put : w' ≡ (take n w ++ o.reply) ++ drop (length o.reply) (drop n w)
    unfolding over
    put =
        back ∙ ap (λ (x : List ℕ). take n w ++ x) (S.room ∙ ap (λ (x : List ℕ). over x (drop n w)) (sym made.reply))
        ∙ sym (append_assoc (take n w) o.reply (drop (length o.reply) (drop n w)))

    -- any other answer. k are the gathered bytes and v is the set-up after the change, y the send that it leaves under way
    module _ {k : List ℕ} {v : Setup} {y : Sending} {m : ℕ} (t : eqb (number r.answer) 6 ≡ false) (ek : k ≡ gathered_after r.change g)
        (ev : v ≡ setup_after r.change g u) (ey : y ≡ sending_after r.change Sending.Nothing) (eg : m ≡ refusal (number r.answer)) where
      answered : o.answer ≡ number r.answer
      answered = made.answer ∙ sym S.answer

      not_six : eqb o.answer 6 ≡ false
      not_six = rw answered t

      reached : o.state ≡ state_with r.core y k v
      reached =
          let core : o.state.core ≡ r.core = made.core ∙ sym (S.core (rw (sym S.answer) t)) in
          let sending : o.state.sending ≡ y = made.sending ∙ rw (sym S.change) (sym ey) in
          let gathered : o.state.gathered ≡ k = made.gathered ∙ rw (sym S.change) (sym ek) in
          let setup : o.state.setup ≡ v = made.setup ∙ rw (sym S.change) (sym ev) in
          ap₂ (λ (x : Core) (z : Sending). state_with x z o.state.gathered o.state.setup) core sending
          ∙ ap₂ (state_with r.core y) gathered setup

      turned : o.page ≡ p'
      turned = made.page ∙ sym S.page

      room_left : length w₀ - n - length o.reply ≡ length w₀ - (n + r.replied)
      room_left = omega (arith, S.replied, ap length made.reply)

      reply : take (n + r.replied) w' ≡ take n w ++ o.reply
      reply = ap (take (n + r.replied)) put ∙ take_at (take n w ++ o.reply) _ (n + r.replied) sum

      count : refusal o.answer ≡ m
      count = ap refusal answered ∙ sym eg

      used' : n + r.replied ≤ length w₀
      used' = omega (arith, S.fits, left, R.used)

      size' : length w' ≡ length w₀
      size' =
          ap length put ∙ length-append (take n w ++ o.reply) _
          ∙ omega (arith, sum, length-drop (length o.reply) (drop n w), S.replied, ap length made.reply, S.fits, left, R.used)

      untouched' : drop (n + r.replied) w' ≡ drop (n + r.replied) w₀
      untouched' =
          ap (drop (n + r.replied)) put ∙ drop_at (take n w ++ o.reply) _ (n + r.replied) sum
          ∙ ap (drop (length o.reply)) R.untouched ∙ drop-drop (length o.reply) n w₀
          ∙ ap (λ (j : ℕ). drop (n + j) w₀) (ap length made.reply ∙ sym S.replied)

      -- the run after the byte
      after : (q : Ran) → ran_to stop (b ∷ drop (suc i) input) p s (length w₀ - n) ≡ joined o q
          → o₀ ≡ preceded (i + 1) (f + m) (take (n + r.replied) w') q
      after q e =
          R.same ∙ ap (λ (l : List ℕ). preceded i f (take n w) (ran_to stop l p s (length w₀ - n))) cons ∙ ap (preceded i f (take n w)) e
          ∙ preceded_joined i f (take n w) o q ∙ cc (reply, count)

      event_is : tells o ≡ is_event (number r.answer) r.replied
      event_is = ap₂ is_event answered (ap length made.reply ∙ sym S.replied)

      -- no send is left, and no event to stop at: the loop goes on
      pub go : y ≡ Sending.Nothing → (stop ≡ true → is_event (number r.answer) r.replied ≡ false)
          → Running stop p₀ o₀ input w₀ p' w' r.core k v (i + 1) (n + r.replied) (f + m)
      go none silent = record {
        within = omega (arith, h);
        used = used';
        few = omega (arith, R.few, refusal_one (number r.answer), eg);
        fine = subst₂ (λ (q : List ℕ) (z : State). good q z ≡ true) turned (reached ∙ ap (λ (x : Sending). state_with r.core x k v) none)
            (step_good p s b (length w₀ - n) R.fine);
        long = ap length (sym turned) ∙ (step_keeps p s b (length w₀ - n)).size ∙ R.long;
        size = size';
        untouched = untouched';
        same = after _ (ran_go b (drop (suc i) input) p s (length w₀ - n) R.fine refl stop not_six (λ t. event_is ∙ silent t))
            ∙ cc (turned, reached, none, room_left, add-one i);
      }

      -- it is to stop at an event or has left a send under way: this is one
      tells_so : either (both stop (is_event (number r.answer) r.replied)) (sends y) ≡ true → stop ≡ true → tells o ≡ true
      tells_so e t = by (tells o) refl
        where
          by : (d : Bool) → tells o ≡ d → d ≡ true
          by true d = refl
          by false d =
              let x : sends y ≡ true = ap₂ (λ (z q : Bool). either (both z q) (sends y)) (sym t) (sym d ∙ event_is) ∙ e in
              absurd (false≢true (sym (begun_tells b (drop (suc i) input) p s (length w₀ - n) R.fine refl d)
              ∙ (ap (λ (z : State). sends z.sending) reached ∙ x)))

      left_so : either (both stop (is_event (number r.answer) r.replied)) (sends y) ≡ true → stop ≡ false → sends o.state.sending ≡ true
      left_so e t =
          ap (λ (z : State). sends z.sending) reached
          ∙ (ap (λ (z : Bool). either (both z (is_event (number r.answer) r.replied)) (sends y)) (sym t) ∙ e)

      answer_is : {x : Answer} → x ≡ pick stop r.answer Answer.Done → pick stop o.answer 0 ≡ number x
      answer_is {x} e = by stop e
        where
          by : (t : Bool) → x ≡ pick t r.answer Answer.Done → pick t o.answer 0 ≡ number x
          by true e = answered ∙ ap number (sym e)
          by false e = ap number (sym e)

      -- it stops behind the byte
      pub halt : either (both stop (is_event (number r.answer) r.replied)) (sends y) ≡ true → {x : Answer}
          → x ≡ pick stop r.answer Answer.Done
          → {z : RunResult}
          → z ≡ record {
            answer = x;
            taken = i + 1;
            replied = n + r.replied;
            refused = f + m;
            state = state_with r.core y k v;
          }
          → RunDone o₀ z input p' w₀ w'
      halt e {x} a result =
          let ends = ran_ends b (drop (suc i) input) p s (length w₀ - n) R.fine refl stop not_six (tells_so e) (left_so e) in
          ran_is result
          (ended_there {x = x} refl (omega (arith, used', size')) used' (omega (arith, h)) untouched'
          (after _ ends ∙ cc (turned, reached, answer_is a, add-one i)))

-- the row list of the core that a run ends with
pub ended_beside : (z : RunResult) {c : Core} (p : List ℕ) {l : List ℕ} → z.state.core ≡ c
    → Beside (width_of c.screen) (guarded_at c.modes.protect p) l
    → Beside (width_of z.state.core.screen) (guarded_at z.state.core.modes.protect p) l
ended_beside z p {l} e b = subst (λ (d : Core). Beside (width_of d.screen) (guarded_at d.modes.protect p) l) (sym e) b
