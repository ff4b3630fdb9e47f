-- A send under way is possible exactly if some page, bytes and rooms leave it so.
--     send_reach
-- Assumes nothing.
use mathlib.Core.Path.{◌≡◌, refl, sym, ap, subst, ◌∙◌}
use mathlib.Core.Bool.{Bool, true, false, false≢true}
use mathlib.Core.List.{List, [], ◌∷◌}
use Prim.Native.Nat.{ℕ, zero, suc, ◌+◌, ◌-◌, ◌<◌, ◌≤◌}
use native.Mathlib.Nat.{sub-zero}
use native.Mathlib.Omega.{arith}
use lib.Dec.{eqb, ltb, leb}
use lib.ListN.{length, get_or, drop, replicate, length-replicate, get_or-replicate}
use lib.Seq.{drop-cons}
use borrow.Author.Tests.{eqb-true, ltb-true, leb-true, eq-eqb, ne_eqb, not-true}
use Rattle.rules.specs.declared.Core.{Core}
use Rattle.rules.specs.declared.State.{State}
use Rattle.rules.specs.declared.Command.{Command}
use Rattle.rules.specs.declared.Command.TheVariants as Command
use Rattle.rules.specs.declared.Send.TheVariants as Send
use Rattle.rules.specs.declared.Excluded.TheVariants as Excluded
use Rattle.rules.specs.declared.Decoded.TheVariants as Decoded
use Rattle.rules.specs.declared.Pending.{Pending}
use Rattle.rules.specs.declared.Pending.TheVariants as Pending
use Rattle.rules.specs.declared.Short.{Short}
use Rattle.rules.specs.declared.Short.TheVariants as Short
use Rattle.rules.specs.declared.Place.{Place}
use Rattle.rules.specs.declared.Place.TheVariants as Place
use Rattle.rules.specs.declared.Sending.{Sending}
use Rattle.rules.specs.declared.Sending.TheVariants as Sending
use Rattle.rules.specs.Row.{column_of}
use Rattle.rules.specs.Search.{guarded_at}
use Rattle.rules.specs.State.{width_of, page_length, cursor_of, text_start, awaiting, idle, is_idle, sends, Inside, changed, sending_after}
use Rattle.rules.specs.State.{gathered_after, setup_after}
use Rattle.rules.specs.Possible.{short_length, place_ok, sending_ok, possible, good, replies_on}
use Rattle.rules.specs.Decode.{lookup, idle_rule, escape_rule, decode_rule}
use Rattle.rules.specs.Plan.{replying, send_plan, excluded_plan, plan_rule, unless_wide}
use Rattle.rules.specs.Send.{Spot, spot, short_reply, each, leaves_out, cell_place, follows_left_out, places, beyond, standing, left_from}
use Rattle.rules.specs.Carry.{begun, carried}
use Rattle.rules.specs.Step.{Outcome, obeyed, inner_rule, step_rule}
use Rattle.rules.specs.Calls.{Ran, joined, run_rule}
use Rattle.rules.specs.Theorems.SendReach.{asked, unsent, blank_for, LeftBy, SendReach}
use Rattle.rules.proofs.Tests.{both_parts, pick_if}
use Rattle.rules.proofs.Screens.{screen_inside}
use Rattle.rules.proofs.Sends.{sending_idle, idle_is, places_small, beyond_zero, beyond_one, beyond_add, next_place, own_cell, own_break}
use Rattle.rules.proofs.Sends.{own_return, short_long}
use Rattle.rules.proofs.Kept.{PossibleState, possible_parts, possible_whole, good_whole, play_keeps, step_good}
use Rattle.rules.proofs.Run.{run_go, run_done}

-- ---- a place further on a page of which all cells are 0

-- with some room, at least d, the send y comes to the places l
record Comes (p : List ℕ) (c : Core) (y : Sending) (d : ℕ) (l : List Spot) : Type 0 where
  room : ℕ
  least : d ≤ room
  is : beyond room (places p c y) ≡ l

-- a place that gives a byte is passed by one more
comes_on : (p : List ℕ) (c : Core) (y : Sending) (d : ℕ) (z : Sending) (b : ℕ) (l : List Spot) → Comes p c y d (spot z (b ∷ []) ∷ l)
    → Comes p c y (suc d) l
comes_on p c y d z b l x = record {
  room = x.room + 1;
  least = omega (arith, x.least);
  is = sym (beyond_add (places_small p c y) x.room 1) ∙ (ap (beyond 1) x.is ∙ (beyond_one 0 z b l ∙ beyond_zero l));
}

comes_less : {p : List ℕ} {c : Core} {y : Sending} {l : List Spot} (d e : ℕ) → e ≤ d → Comes p c y d l → Comes p c y e l
comes_less d e h x = record { room = x.room; least = omega (arith, x.least); is = x.is }

-- a null is not left out, and gives a byte
null_gives : (all after : Bool) (v : ℕ) → v ≡ 0 → cell_place (leaves_out all) after v ≡ 0x20 ∷ []
unfolding cell_place
null_gives true after v e = rw e
null_gives false after v e = rw e

module _ (c : Core) (i : Inside c.screen) (all segment : Bool) where
  abbrev blank_page : List ℕ
  blank_page = replicate (page_length c.screen) 0

  abbrev start : ℕ
  start = text_start c.screen segment

  abbrev first : Sending
  first = Sending.Text all segment (Place.Cell start)

  abbrev at : Place → List Spot
  at k = places blank_page c (Sending.Text all segment k)

  long : length blank_page ≡ page_length c.screen
  long = length-replicate (page_length c.screen) 0

  null_at : (j : ℕ) → j ≤ cursor_of c.screen → get_or blank_page j 0 ≡ 0
  null_at j h = get_or-replicate (page_length c.screen) j 0 0 (omega (arith, i.below, i.placed.page))

  -- cell j and what follows
  cell_gives : (j : ℕ) → j ≤ cursor_of c.screen
      → at (Place.Cell j)
      ≡ spot (Sending.Text all segment (Place.Cell j)) (0x20 ∷ []) ∷ at (next_place (width_of c.screen) (cursor_of c.screen + 1) j)
  cell_gives j h =
      own_cell blank_page c long i all segment j h
      ∙ ap (λ (b : List ℕ). spot (Sending.Text all segment (Place.Cell j)) b ∷ at (next_place (width_of c.screen) (cursor_of c.screen + 1) j))
      (null_gives all (follows_left_out (width_of c.screen) all blank_page j) (get_or blank_page j 0) (null_at j h))

  next_comes : (d j : ℕ) → j ≤ cursor_of c.screen → Comes blank_page c first d (at (Place.Cell j))
      → Comes blank_page c first (suc d) (at (next_place (width_of c.screen) (cursor_of c.screen + 1) j))
  next_comes d j h x =
      comes_on blank_page c first d _ _ _ record { room = x.room; least = x.least; is = x.is ∙ cell_gives j h }

  -- behind cell j, not the last, stands the next cell or the US before it
  to_break : (j : ℕ) → suc j ≤ cursor_of c.screen → column_of (width_of c.screen) (suc j) ≡ 0
      → next_place (width_of c.screen) (cursor_of c.screen + 1) j ≡ Place.Break (suc j)
  unfolding next_place
  to_break j h z = rw (ne_eqb (suc j) (cursor_of c.screen + 1) (omega arith), z)

  to_cell : (j : ℕ) → suc j ≤ cursor_of c.screen → eqb (column_of (width_of c.screen) (suc j)) 0 ≡ false
      → next_place (width_of c.screen) (cursor_of c.screen + 1) j ≡ Place.Cell (suc j)
  unfolding next_place
  to_cell j h z = rw (ne_eqb (suc j) (cursor_of c.screen + 1) (omega arith), z)

  to_return : next_place (width_of c.screen) (cursor_of c.screen + 1) (cursor_of c.screen) ≡ Place.Return
  unfolding next_place
  to_return = rw (eq-eqb (suc (cursor_of c.screen)) (cursor_of c.screen + 1) (omega arith))

  to_place : (d j : ℕ) (k : Place) → next_place (width_of c.screen) (cursor_of c.screen + 1) j ≡ k → j ≤ cursor_of c.screen
      → Comes blank_page c first d (at (Place.Cell j)) → Comes blank_page c first (suc d) (at k)
  to_place d j k e h x = subst (λ (k : Place). Comes blank_page c first (suc d) (at k)) e (next_comes d j h x)

  cell_comes : (d : ℕ) → start + d ≤ cursor_of c.screen → Comes blank_page c first d (at (Place.Cell (start + d)))
  cell_comes zero h =
      let e : start + 0 ≡ start = omega arith in
      rw e record { room = 0; least = omega arith; is = beyond_zero _ }
  cell_comes (suc d) h =
      let e : start + suc d ≡ suc (start + d) = omega arith in
      rw e (by (eqb (column_of (width_of c.screen) (suc (start + d))) 0) refl (cell_comes d (omega arith)))
    where
      by : (t : Bool) → eqb (column_of (width_of c.screen) (suc (start + d))) 0 ≡ t → Comes blank_page c first d (at (Place.Cell (start + d)))
          → Comes blank_page c first (suc d) (at (Place.Cell (suc (start + d))))
      by false z x = to_place d (start + d) (Place.Cell (suc (start + d))) (to_cell (start + d) (omega arith) z) (omega arith) x
      by true z x =
          let w = eqb-true (column_of (width_of c.screen) (suc (start + d))) 0 z in
          let y = to_place d (start + d) (Place.Break (suc (start + d))) (to_break (start + d) (omega arith) w) (omega arith) x in
          comes_less (suc (suc d)) (suc d) (omega arith)
          (comes_on blank_page c first (suc d) _ _ _
          record { room = y.room; least = y.least; is = y.is ∙ own_break blank_page c long i all segment (suc (start + d)) (omega arith) w })

  -- each possible place
  place_comes : (k : Place) → place_ok c.screen segment k ≡ true → Comes blank_page c first 1 (at k)
  unfolding place_ok
  place_comes (Place.Cell j) h =
      let a = both_parts (ltb start j) _ h in
      let l = ltb-true start j a.0 in
      let m = leb-true j (cursor_of c.screen) a.1 in
      let e : start + (j - start) ≡ j = omega arith in
      comes_less (j - start) 1 (omega arith)
      (subst (λ (n : ℕ). Comes blank_page c first (j - start) (at (Place.Cell n))) e (cell_comes (j - start) (omega arith)))
  place_comes (Place.Break j) h =
      let a = both_parts (eqb (column_of (width_of c.screen) j) 0) _ h in
      let z = eqb-true (column_of (width_of c.screen) j) 0 a.0 in
      let b = both_parts (ltb start j) _ a.1 in
      let l = ltb-true start j b.0 in
      let m = leb-true j (cursor_of c.screen) b.1 in
      let e : suc (start + (j - start - 1)) ≡ j = omega arith in
      let x = to_place (j - start - 1) (start + (j - start - 1)) (Place.Break (suc (start + (j - start - 1))))
      (to_break (start + (j - start - 1)) (omega arith) (rw e z)) (omega arith) (cell_comes (j - start - 1) (omega arith)) in
      comes_less (suc (j - start - 1)) 1 (omega arith) (subst (λ (n : ℕ). Comes blank_page c first (suc (j - start - 1)) (at (Place.Break n))) e x)
  place_comes Place.Return h =
      let n = cursor_of c.screen in
      let e : start + (n - start) ≡ n = omega (arith, start_inside) in
      comes_less (suc (n - start)) 1 (omega arith)
      (to_place (n - start) n Place.Return to_return (omega arith)
      (subst (λ (m : ℕ). Comes blank_page c first (n - start) (at (Place.Cell m))) e (cell_comes (n - start) (omega (arith, start_inside)))))
    where
      start_inside : text_start c.screen segment ≤ cursor_of c.screen
      start_inside = pick_if (λ (n : ℕ). n ≤ cursor_of c.screen) segment (λ e. i.from) (λ e. omega arith)

-- a place of a short reply
each_comes : (r : Short) (m n : ℕ) (l : List ℕ) → beyond n (each r m l) ≡ each r (m + n) (drop n l)
unfolding each
each_comes r m zero l = rw (beyond_zero (each r m l)) (ap (λ (k : ℕ). each r k l) (omega arith))
each_comes r m (suc n) [] = refl_none
  where
    refl_none : beyond (suc n) (each r m []) ≡ each r (m + suc n) (drop (suc n) [])
    refl_none = unfold each beyond in refl
each_comes r m (suc n) (b ∷ l) =
    beyond_one n (Sending.Short r m) b (each r (suc m) l) ∙ (each_comes r (suc m) n l ∙ ap (λ (k : ℕ). each r k (drop n l)) (omega arith))

short_comes : (p : List ℕ) (c : Core) (r : Short) (n : ℕ) → beyond n (places p c (Sending.Short r 0)) ≡ places p c (Sending.Short r n)
unfolding places
short_comes p c r n = each_comes r 0 n (short_reply p c r) ∙ ap (λ (k : ℕ). each r k (drop n (short_reply p c r))) (omega arith)

-- ---- the bytes that ask for a reply

idle_same : (c : Core) → c.pending ≡ Pending.Idle → idle c ≡ c
idle_same c e = ap (awaiting c) (sym e)

-- a state in another core, with another send
abbrev changed_to : State → Core → Sending → State
changed_to s c y = record { core = c; sending = y; gathered = s.gathered; setup = s.setup }

module _ (p : List ℕ) (s : State) (g : good p (unsent s) ≡ true) (e : s.core.pending ≡ Pending.Idle) (room : ℕ) where
  abbrev escaped : State
  escaped = changed_to s (awaiting s.core Pending.Escape) Sending.Nothing

  escape_waits : decode_rule s.core.pending 0x1b ≡ Decoded.Wait Pending.Escape
  escape_waits = ap (λ (q : Pending). decode_rule q 0x1b) e ∙ unfold decode_rule idle_rule lookup in refl

  first_step : step_rule p (unsent s) 0x1b room ≡ record { answer = 0; taken = true; state = escaped; page = p; reply = [] }
  unfolding step_rule inner_rule obeyed sending_after gathered_after setup_after changed
  first_step = rw (g, escape_waits)

  good_escaped : good p escaped ≡ true
  good_escaped = subst (λ (o : Outcome). good o.page o.state ≡ true) first_step (step_good p (unsent s) 0x1b room g)

  module _ (b : ℕ) (d : Command) (y : Sending) (low : ltb b 128 ≡ true) (is : decode_rule Pending.Escape b ≡ Decoded.Do d)
      (plan : plan_rule (guarded_at s.core.modes.protect p) s.setup.tabs (idle s.core) d ≡ replying (idle s.core) y) (w : sends y ≡ true)
      (h : 0 < room) where
    second_step : (step_rule p escaped b room).state ≡ changed_to s (idle s.core) (left_from p (idle s.core) y room)
    unfolding step_rule inner_rule obeyed carried begun sending_after gathered_after setup_after changed
    second_step = rw (good_escaped, low, is, plan, w, ne_eqb room 0 (omega arith))

    second_taken : eqb (step_rule p escaped b room).answer 6 ≡ false
    unfolding step_rule inner_rule obeyed carried begun
    second_taken = rw (good_escaped, low, is, plan, w, ne_eqb room 0 (omega arith))

    both_steps : (run_rule p (unsent s) (0x1b ∷ b ∷ []) room).state ≡ changed_to s (idle s.core) (left_from p (idle s.core) y room)
    unfolding run_rule joined
    both_steps =
        rw (g, run_go 0x1b (b ∷ []) p (unsent s) room refl (rw first_step refl), first_step, sub-zero, run_go b [] p escaped room refl second_taken)
        (ap (λ (r : Ran). r.state) (run_done _ _ _) ∙ second_step)

    asked_leaves : left_from p s.core y room ≡ s.sending → (run_rule p (unsent s) (0x1b ∷ b ∷ []) room).state ≡ s
    asked_leaves l =
        both_steps ∙ (ap (λ (c : Core). changed_to s c (left_from p c y room)) (idle_same s.core e) ∙ ap (changed_to s s.core) l)

-- ---- each possible send

standing_short : (p : List ℕ) (c : Core) (r : Short) (n : ℕ) → n < length (short_reply p c r)
    → standing (places p c (Sending.Short r n)) ≡ Sending.Short r n
unfolding places each standing
standing_short p c r n h = rw (drop-cons (short_reply p c r) n 0 h)

standing_text : (c : Core) (i : Inside c.screen) (all segment : Bool) (k : Place) → place_ok c.screen segment k ≡ true
    → standing (places (replicate (page_length c.screen) 0) c (Sending.Text all segment k)) ≡ Sending.Text all segment k
unfolding place_ok standing
standing_text c i all segment (Place.Cell j) h =
    let a = both_parts (ltb (text_start c.screen segment) j) _ h in
    rw (own_cell (replicate (page_length c.screen) 0) c (length-replicate (page_length c.screen) 0) i all segment j
    (leb-true j (cursor_of c.screen) a.1))
standing_text c i all segment (Place.Break j) h =
    let a = both_parts (eqb (column_of (width_of c.screen) j) 0) _ h in
    let b = both_parts (ltb (text_start c.screen segment) j) _ a.1 in
    rw (own_break (replicate (page_length c.screen) 0) c (length-replicate (page_length c.screen) 0) i all segment j
    (leb-true j (cursor_of c.screen) b.1)
    (eqb-true (column_of (width_of c.screen) j) 0 a.0))
standing_text c i all segment Place.Return h =
    rw (own_return (replicate (page_length c.screen) 0) c (length-replicate (page_length c.screen) 0) i all segment)

unsent_possible : (s : State) → possible s ≡ true → possible (unsent s) ≡ true
unfolding sending_ok
unsent_possible s h =
    let w = possible_parts s h in
    possible_whole (unsent s) record { core = w.core; sending = refl; setup = w.setup }

module _ (s : State) (h : possible s ≡ true) (u : sends s.sending ≡ true) where
  w : PossibleState s
  w = possible_parts s h

  inside : Inside s.core.screen
  inside = screen_inside s.core.screen w.core.screen

  fine : good (blank_for s) (unsent s) ≡ true
  fine = good_whole (blank_for s) (unsent s) (length-replicate (page_length s.core.screen) 0) (unsent_possible s h)

  no_sequence : s.core.pending ≡ Pending.Idle
  no_sequence = idle_is s.core.pending (sending_idle s.core.screen s.core.pending s.sending w.sending u)

  -- by the bytes of a reply y
  leaves : (y : Sending) → s.sending ≡ y → (room : ℕ) → (run_rule (blank_for s) (unsent s) (asked y) room).state ≡ s → LeftBy s
  leaves y e room x = record { room = room; leaves = ap (λ (z : Sending). (run_rule (blank_for s) (unsent s) (asked z) room).state) e ∙ x }

  by_short : (r : Short) (n : ℕ) → s.sending ≡ Sending.Short r n → replies_on s.core.screen r ≡ true → 1 ≤ n → n < short_length r
      → left_from (blank_for s) s.core (Sending.Short r 0) n ≡ s.sending → LeftBy s
  unfolding asked decode_rule escape_rule lookup plan_rule unless_wide send_plan
  by_short Short.Acknowledge n e k a b l = absurd (omega arith)
  by_short Short.Cell n e k a b l = absurd (omega arith)
  by_short Short.Identity n e k a b l =
      leaves _ e n (asked_leaves (blank_for s) s fine no_sequence n 0x20 (Command.Send Send.Identity)
      (Sending.Short Short.Identity 0) refl refl refl refl (omega arith) l)
  by_short Short.Cursor n e k a b l =
      leaves _ e n (asked_leaves (blank_for s) s fine no_sequence n 0x3f (Command.Send Send.Cursor) (Sending.Short Short.Cursor 0) refl refl
      (rw (not-true s.core.screen.wide k)) refl (omega arith) l)
  by_short Short.SegmentCursor n e k a b l =
      leaves _ e n
      (asked_leaves (blank_for s) s fine no_sequence n 0x2f (Command.Send Send.SegmentCursor) (Sending.Short Short.SegmentCursor 0) refl refl
      (rw (not-true s.core.screen.wide k)) refl (omega arith) l)
  by_short Short.DecimalCursor n e k a b l =
      leaves _ e n
      (asked_leaves (blank_for s) s fine no_sequence n 0x62 (Command.Send Send.DecimalCursor) (Sending.Short Short.DecimalCursor 0) refl refl refl refl
      (omega arith) l)

  by_text : (all segment : Bool) (k : Place) (room : ℕ) → s.sending ≡ Sending.Text all segment k → 0 < room
      → left_from (blank_for s) s.core (Sending.Text all segment (Place.Cell (text_start s.core.screen segment))) room ≡ s.sending → LeftBy s
  unfolding asked decode_rule escape_rule lookup plan_rule send_plan excluded_plan
  by_text false false k room e p l =
      leaves _ e room (asked_leaves (blank_for s) s fine no_sequence room 0x34 (Command.Send Send.OpenRow) _ refl refl refl refl p l)
  by_text false true k room e p l =
      leaves _ e room (asked_leaves (blank_for s) s fine no_sequence room 0x35 (Command.Send Send.OpenSegment) _ refl refl refl refl p l)
  by_text true false k room e p l =
      leaves _ e room (asked_leaves (blank_for s) s fine no_sequence room 0x36 (Command.Excluded Excluded.SendRow) _ refl refl refl refl p l)
  by_text true true k room e p l =
      leaves _ e room (asked_leaves (blank_for s) s fine no_sequence room 0x37 (Command.Excluded Excluded.SendSegment) _ refl refl refl refl p l)

  left_by_lem : (y : Sending) → s.sending ≡ y → LeftBy s
  unfolding sending_ok left_from
  left_by_lem Sending.Nothing e = absurd (false≢true (ap sends (sym e) ∙ u))
  left_by_lem (Sending.Short r n) e =
      let o : sending_ok s.core.screen s.core.pending (Sending.Short r n) ≡ true = ap (sending_ok s.core.screen s.core.pending) (sym e)
      ∙ w.sending in
      let k = both_parts (replies_on s.core.screen r) _ (both_parts (is_idle s.core.pending) _ o).1 in
      let a = both_parts (leb 1 n) _ k.1 in
      let m = leb-true 1 n a.0 in
      let l = ltb-true n (short_length r) a.1 in
      by_short r n e k.0 m l
      (ap standing (short_comes (blank_for s) s.core r n)
      ∙ (standing_short (blank_for s) s.core r n (short_long (blank_for s) s.core r n m l) ∙ sym e))
  left_by_lem (Sending.Text all segment k) e =
      let o : sending_ok s.core.screen s.core.pending (Sending.Text all segment k)
      ≡ true = ap (sending_ok s.core.screen s.core.pending) (sym e) ∙ w.sending in
      let a = (both_parts (is_idle s.core.pending) _ o).1 in
      let x = place_comes s.core inside all segment k a in
      by_text all segment k x.room e (omega (arith, x.least)) (ap standing x.is ∙ (standing_text s.core inside all segment k a ∙ sym e))

pub send_reach : SendReach
send_reach = record {
  possible_left = λ s h u. left_by_lem s h u s.sending refl;
  otherwise_same = unsent_possible;
  left_possible = λ calls p s h. (play_keeps calls p s).state h;
}
