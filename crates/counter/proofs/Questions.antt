-- Asking the terminal: the call's promise, and what it comes to on each path.
--     tell_page, tell_state, tell_under_way, tell_no_room, tell_counted     what the caller is told
--     asked_ready, asked_unready, replied_within     what is asked, and what is lent
--     asks                                      the call's promise, from the run's
--     ask_cases, one_told                       the statements of specs/Ask
-- Assumes nothing.
use mathlib.Core.Path.{◌≡◌, refl, sym, ap, ◌∙◌}
use mathlib.Core.Bool.{Bool, true, false}
use mathlib.Core.List.{List, [], ◌∷◌, ◌++◌}
use Prim.Native.Nat.{ℕ, zero, suc, ◌≤◌}
use native.Mathlib.Omega.{arith}
use lib.Dec.{eqb}
use lib.ListN.{length, take, drop, length-append, take-append-drop}
use lib.Seq.{take-append_seam, length-take-le}
use borrow.Author.Tests.{eq-eqb, ne_eqb}
use Rattle.rules.specs.declared.State.{State}
use Rattle.rules.specs.declared.RunResult.{RunResult}
use Rattle.rules.specs.Cell.{pick, either}
use Rattle.rules.specs.State.{number, page_length, sends}
use Rattle.rules.specs.Possible.{possible, good}
use Rattle.rules.specs.Calls.{Ran, run_rule}
use Rattle.rules.specs.Room.{over}
use Rattle.terminal.specs.Promise.{RunDone}
use Rattle.std.specs.Prelude.{Ok, Err}
use Rattle.counter.specs.declared.NoReply.{NoReply}
use Rattle.counter.specs.Count.{Counted, numbers, count_rule}
use Rattle.counter.proofs.Counting.{one_count}
use Rattle.counter.specs.Ask.{Told, is_ready, question, lent, asking, is_cut, told_rule, ToldNumbers, told_numbers, OneTold, ask_rule, Asks, Silent}
use Rattle.counter.specs.Ask.{AskingCases}
use Rattle.counter.proofs.Replies.{asked_begun, asked_stopped, by_room, asked_nothing, asked_refused, asking_page, cut_fills, whole_state}
use Rattle.counter.proofs.Replies.{never_cut}

-- ---- what the caller is told

module _ (n : ℕ) (full ready cut : Bool) (c : Counted) where
  pub tell_state : n ≡ 7 → full ≡ true → Err NoReply.BadState ≡ told_rule n full ready cut c
  unfolding told_rule
  tell_state e f = rw (eq-eqb n 7 e, f)

  pub tell_page : n ≡ 7 → full ≡ false → Err NoReply.BadPage ≡ told_rule n full ready cut c
  unfolding told_rule
  tell_page e f = rw (eq-eqb n 7 e, f)

  pub tell_under_way : (n ≡ 7 → ⊥) → ready ≡ false → Err NoReply.UnderWay ≡ told_rule n full ready cut c
  unfolding told_rule
  tell_under_way e f = rw (ne_eqb n 7 e, f)

  pub tell_no_room : (n ≡ 7 → ⊥) → ready ≡ true → cut ≡ true → Err NoReply.NoRoom ≡ told_rule n full ready cut c
  unfolding told_rule
  tell_no_room e f g = rw (ne_eqb n 7 e, f, g)

  pub tell_counted : (n ≡ 7 → ⊥) → ready ≡ true → cut ≡ false → Ok c ≡ told_rule n full ready cut c
  unfolding told_rule
  tell_counted e f g = rw (ne_eqb n 7 e, f, g)

-- ---- the promise

-- a part of the room was lent, and came back with the reply at its front
lent_back : (r w : List ℕ) (m : ℕ) → length r ≤ m → m ≤ length w → over r (take m w) ++ drop m w ≡ over r w
unfolding over
lent_back [] w m h k = take-append-drop m w
lent_back (b ∷ r) [] m h k = absurd (omega arith)
lent_back (b ∷ r) (x ∷ w) zero h k = absurd (omega arith)
lent_back (b ∷ r) (x ∷ w) (suc m) h k = ap (λ (l : List ℕ). b ∷ l) (lent_back r w m (omega arith) (omega arith))

back_whole : {o : Ran} {r : RunResult} {l p' w q : List ℕ} {m : ℕ} → m ≤ length w → RunDone o r l p' (take m w) q
    → RunDone o r l p' w (q ++ drop m w)
back_whole {o} {r} {l} {p'} {w} {q} {m} k h =
    let n : length (take m w) ≡ m = length-take-le m w k in
    record {
      answer = h.answer;
      taken = h.taken;
      replied = h.replied;
      refused = h.refused;
      rest = h.rest;
      state = h.state;
      page = h.page;
      room = ap (λ (t : List ℕ). t ++ drop m w) h.room ∙ lent_back o.reply w m (omega (arith, h.replied, h.fits, n)) k;
      fits = omega (arith, h.fits, n, k);
      within = h.within;
    }

module _ (p : List ℕ) (s : State) {ready : Bool} {r : RunResult} {p' w q : List ℕ} where
  pub asked_ready : ready ≡ true → RunDone (run_rule p s (0x1b ∷ 0x35 ∷ []) (length w)) r (0x1b ∷ 0x35 ∷ []) p' w q
      → RunDone (run_rule p s (question ready) (lent ready (length w))) r (question ready) p' w q
  unfolding question
  asked_ready e h = rw e h

  pub asked_unready : ready ≡ false → RunDone (run_rule p s [] 0) r [] p' [] q
      → RunDone (run_rule p s (question ready) (lent ready (length w))) r (question ready) p' w (q ++ w)
  unfolding question
  asked_unready e h = rw e (back_whole {w = w} {m = 0} (omega arith) h)

-- the reply at the front of the room
front : (l w w' : List ℕ) (n : ℕ) → n ≡ length l → w' ≡ over l w → take n w' ≡ l
unfolding over
front l w w' n e h = rw (e, h) (take-append_seam l _)

pub replied_within : {o : Ran} {r : RunResult} {l p w w' : List ℕ} → RunDone o r l p w w' → r.replied ≤ length w'
unfolding over
replied_within {o} {r} {l} {p} {w} {w'} h =
    omega (arith, h.replied, ap length h.room, length-append o.reply (drop (length o.reply) w))

module _ (p : List ℕ) (s : State) (first last : ℕ) (p' w w' : List ℕ) where
  asked : {r : RunResult} {x : Told} → RunDone (asking p s (length w)) r (question (is_ready s)) p' w w'
      → x ≡ told_rule (number r.answer) (eqb (length p) (page_length s.core.screen)) (is_ready s)
      (either (eqb (number r.answer) 6) (sends r.state.sending)) (count_rule (take r.replied w') first last)
      → Asks p s first last (record { told = x; replied = r.replied }) p' w w'
  unfolding ask_rule is_cut
  asked {r} h o = record {
    told = ap told_numbers {y = ask_rule p s first last (length w)} (o ∙ rw (h.answer, h.state, front _ w w' r.replied h.replied h.room));
    replied = h.replied;
    fits = h.fits;
    page = h.page ∙ asking_page p s (length w);
    room = h.room;
  }

  pub asks : (c : Counted) {r : RunResult} {full ready cut : Bool} {x : Told} → full ≡ eqb (length p) (page_length s.core.screen)
      → ready ≡ is_ready s → RunDone (run_rule p s (question ready) (lent ready (length w))) r (question ready) p' w w'
      → numbers c ≡ numbers (count_rule (take r.replied w') first last) → cut ≡ either (eqb (number r.answer) 6) (sends r.state.sending)
      → x ≡ told_rule (number r.answer) full ready cut c → Asks p s first last (record { told = x; replied = r.replied }) p' w w'
  unfolding asking
  asks c {r = r} d e h k m o = asked (rw e at h) (o ∙ rw (d, e, m, one_count c (count_rule (take r.replied w') first last) k))

-- ---- path by path

unlike : {n a b : ℕ} → n ≡ a → (a ≡ b → ⊥) → n ≡ b → ⊥
unlike e h f = h (sym e ∙ f)

module _ (p : List ℕ) (s : State) (first last room : ℕ) where
  bad_page : (length p ≡ page_length s.core.screen → ⊥) → (ask_rule p s first last room ≡ Err NoReply.BadPage) × Silent p s room
  unfolding good ask_rule
  bad_page h =
      let e = ne_eqb (length p) (page_length s.core.screen) h in
      let g : good p s ≡ false = rw e in
      let x = asked_refused p s room g in
      (sym (tell_page _ _ _ _ _ x.answer e), x.reply)

  bad_state : length p ≡ page_length s.core.screen → possible s ≡ false → (ask_rule p s first last room ≡ Err NoReply.BadState) × Silent p s room
  unfolding good ask_rule
  bad_state h k =
      let e = eq-eqb (length p) (page_length s.core.screen) h in
      let g : good p s ≡ false = rw (e, k) in
      let x = asked_refused p s room g in
      (sym (tell_state _ _ _ _ _ x.answer e), x.reply)

  under_way : good p s ≡ true → is_ready s ≡ false → (ask_rule p s first last room ≡ Err NoReply.UnderWay) × Silent p s room
  unfolding ask_rule
  under_way g r =
      let x = asked_nothing p s room g r in (
        sym (tell_under_way _ _ _ _ _ (unlike (ap (λ (r : Ran). r.answer) x) (λ z. omega (arith, z))) r),
        ap (λ (r : Ran). r.reply) x,
      )

  module _ (g : good p s ≡ true) (r : is_ready s ≡ true) where
    not_refused : (asking p s room).answer ≡ 7 → ⊥
    not_refused =
        by_room p s room g r (λ z. unlike (asked_stopped p s room g r z).answer (λ y. omega (arith, y)))
        (λ h. unlike (asked_begun p s room g r h).answer (λ y. omega (arith, y)))

    no_room : is_cut (asking p s room) ≡ true → (ask_rule p s first last room ≡ Err NoReply.NoRoom) × (length (asking p s room).reply ≡ room)
    unfolding ask_rule
    no_room k = (sym (tell_no_room _ _ _ _ _ not_refused r k), cut_fills p s room g r k)

    counted : is_cut (asking p s room) ≡ false
        → (ask_rule p s first last room ≡ Ok (count_rule (asking p s room).reply first last)) × ((asking p s room).state ≡ s)
    unfolding ask_rule
    counted k = (sym (tell_counted _ _ _ _ _ not_refused r k), whole_state p s room g r k)

pub ask_cases : AskingCases
ask_cases p s first last room = record {
  bad_page = bad_page p s first last room;
  bad_state = bad_state p s first last room;
  under_way = under_way p s first last room;
  no_room = no_room p s first last room;
  counted = counted p s first last room;
  enough = never_cut p s room;
}

-- ---- the numbers

-- why no reply is counted, by its number
unfoldable of_number : ℕ → NoReply
of_number n = pick (eqb n 1) NoReply.BadPage (pick (eqb n 2) NoReply.BadState (pick (eqb n 3) NoReply.UnderWay NoReply.NoRoom))

back : (x : NoReply) → of_number (told_numbers (Err x)).answer ≡ x
unfolding of_number
back NoReply.BadPage = refl
back NoReply.BadState = refl
back NoReply.UnderWay = refl
back NoReply.NoRoom = refl

numbered : (x : NoReply) → (told_numbers (Err x)).answer ≡ 0 → ⊥
numbered NoReply.BadPage e = omega (arith, e)
numbered NoReply.BadState e = omega (arith, e)
numbered NoReply.UnderWay e = omega (arith, e)
numbered NoReply.NoRoom e = omega (arith, e)

answers : {k l : ToldNumbers} → k ≡ l → k.answer ≡ l.answer
answers e = ap (λ (k : ToldNumbers). k.answer) e

pub one_told : OneTold
one_told (Ok c) (Ok d) e = ap Ok (one_count c d (ap (λ (k : ToldNumbers). k.count) e))
one_told (Ok c) (Err y) e = absurd (numbered y (sym (answers e)))
one_told (Err x) (Ok d) e = absurd (numbered x (answers e))
one_told (Err x) (Err y) e = ap Err (sym (back x) ∙ (ap of_number (answers e) ∙ back y))
