-- No call brings a number onto a page that its personality does not write.
--     step_numbers, play_numbers     after a step, and after a list of calls, from any page and state
--     powered_numbers                so after any calls from power-on
-- Assumes nothing.
use mathlib.Core.Path.{◌≡◌, refl, sym, subst}
use mathlib.Core.Bool.{Bool, true, false}
use mathlib.Core.List.{List, [], ◌∷◌, ◌++◌}
use Prim.Native.Nat.{ℕ, zero, suc, ◌+◌, ◌-◌, ◌*◌}
use lib.Dec.{ltb, eqb}
use lib.ListN.{length, take, drop, replicate}
use borrow.Author.Tests.{ltb-true}
use Rattle.rules.specs.declared.Personality.{Personality}
use Rattle.rules.specs.declared.Core.{Core}
use Rattle.rules.specs.declared.State.{State}
use Rattle.rules.specs.declared.Plan.{Plan}
use Rattle.rules.specs.declared.Command.{Command}
use Rattle.rules.specs.declared.Decoded.{Decoded}
use Rattle.rules.specs.declared.Decoded.TheVariants as Decoded
use Rattle.rules.specs.declared.Write.{Write}
use Rattle.rules.specs.declared.Write.TheVariants as Write
use Rattle.rules.specs.Cell.{guarded}
use Rattle.rules.specs.Search.{guarded_at}
use Rattle.rules.specs.Change.{within, filled, shift_left, shift_right, shifted, edit_shifted, rows_shifted, column_filled}
use Rattle.rules.specs.State.{idle, sends}
use Rattle.rules.specs.Possible.{remembered_ok, pending_ok, power_on, blank, good}
use Rattle.rules.specs.Decode.{decode_rule}
use Rattle.rules.specs.Plan.{plan_rule}
use Rattle.rules.specs.Carry.{Effect, applied, done, begun, carried}
use Rattle.rules.specs.Step.{obeyed, inner_rule, Outcome, goes_on, step_inside, step_rule}
use Rattle.rules.specs.Calls.{Ran, joined, repeated, behind, run_inside, run_rule, Call, Step, Run, Press, of_step, of_run, of_press, call_rule}
use Rattle.rules.specs.Calls.{after, play}
use Rattle.rules.specs.Writable.{writable, AllWritable, none, more}
use Rattle.rules.proofs.Tests.{pick_if}
use Rattle.rules.proofs.Decoding.{decoded_ok, decoded_ok_lem}
use Rattle.rules.proofs.Kept.{good_parts, possible_parts, step_keeps, call_keeps}
use Rattle.rules.proofs.Commands.{Kind, write_ok, kind_of}
use Rattle.rules.proofs.Forms.{Remembers, Form, a_refusal, a_reply, a_change, a_write, formed}
use Rattle.rules.proofs.Numbers.{null_ok}

-- ---- changes of cells

module _ {m : Personality} where
  each_take : (n : ℕ) {p : List ℕ} → AllWritable m p → AllWritable m (take n p)
  each_take zero h = none
  each_take (suc n) none = none
  each_take (suc n) (more e h) = more e (each_take n h)

  each_drop : (n : ℕ) {p : List ℕ} → AllWritable m p → AllWritable m (drop n p)
  each_drop zero h = h
  each_drop (suc n) none = none
  each_drop (suc n) (more e h) = each_drop n h

  each_append : {p q : List ℕ} → AllWritable m p → AllWritable m q → AllWritable m (p ++ q)
  each_append none k = k
  each_append (more e h) k = more e (each_append h k)

  pub each_replicate : (n v : ℕ) → writable m v ≡ true → AllWritable m (replicate n v)
  each_replicate zero v e = none
  each_replicate (suc n) v e = more e (each_replicate n v e)

  each_within : (a e : ℕ) (f : List ℕ → List ℕ) {p : List ℕ} → AllWritable m p → AllWritable m (f (take (e - a) (drop a p)))
      → AllWritable m (within a e f p)
  unfolding within
  each_within a e f h k = each_append (each_take a h) (each_append k (each_drop (e - a) (each_drop a h)))

  each_filled : (on : Bool) (v : ℕ) → writable m v ≡ true → {p : List ℕ} → AllWritable m p → AllWritable m (filled on v p)
  unfolding filled
  each_filled on v e none = none
  each_filled on v e (more {v = x} k h) = more (pick_if (λ (y : ℕ). writable m y ≡ true) (guarded on x) (λ t. k) (λ t. e)) (each_filled on v e h)

  each_fill : (on : Bool) (a e v : ℕ) → writable m v ≡ true → {p : List ℕ} → AllWritable m p → AllWritable m (within a e (filled on v) p)
  each_fill on a e v k h = each_within a e (filled on v) h (each_filled on v k (each_take (e - a) (each_drop a h)))

  each_shifted : (right : Bool) (k v : ℕ) → writable m v ≡ true → {p : List ℕ} → AllWritable m p → AllWritable m (shifted right k v p)
  unfolding shift_left shift_right
  each_shifted true k v e {p} h = each_take (length p) (each_append (each_replicate k v e) h)
  each_shifted false k v e h = each_drop k (each_append h (each_replicate k v e))

  each_moved : (right : Bool) (n a e v : ℕ) → writable m v ≡ true → {p : List ℕ} → AllWritable m p → AllWritable m (within a e (shifted right n v) p)
  each_moved right n a e v k h = each_within a e (shifted right n v) h (each_shifted right n v k (each_take (e - a) (each_drop a h)))

  each_column : (w : ℕ) (on : Bool) (v column n row : ℕ) → writable m v ≡ true → {p : List ℕ} → AllWritable m p
      → AllWritable m (column_filled w on v column n row p)
  unfolding column_filled
  each_column w on v column zero row e h = h
  each_column w on v column (suc n) row e h =
      each_column w on v column n (suc row) e (each_fill on (row * w + column) (row * w + column + 1) v e h)

  each_applied : (w : ℕ) (on : Bool) (x : Write) → write_ok m x ≡ true → {p : List ℕ} → AllWritable m p → AllWritable m (applied w on x p)
  unfolding applied write_ok edit_shifted rows_shifted
  each_applied w on Write.Nothing e h = h
  each_applied w on (Write.Fill a b v) e h = each_fill on a b v e h
  each_applied w on (Write.FillAll a b v) e h = each_fill false a b v e h
  each_applied w on (Write.Column top bottom c v) e h = each_column w on v c (bottom - top) top e h
  each_applied w on (Write.Edit right at v) e h = each_moved right 1 at _ v e h
  each_applied w on (Write.Rows down top bottom) e h = each_moved down w _ _ _ e h

-- ---- plans

pub record PlanNumbers (m : Personality) (x : Plan) : Type 0 where
  pub first : write_ok m x.first ≡ true
  pub second : write_ok m x.second ≡ true

of_form : {k : Kind} {g : List Bool} {c : Core} {x : Plan} → k.ok ≡ true → Remembers c → Form k g c x → PlanNumbers c.personality x
unfolding write_ok
of_form t h (a_refusal a e) = record { first = refl; second = refl }
of_form t h (a_reply y e n r i) = record { first = refl; second = refl }
of_form t h (a_change y e f i) = record { first = refl; second = refl }
of_form t h (a_write m a b o e i) = record { first = a.numbers t h; second = b.numbers t h }

-- every plan, of a command that a byte comes to
pub plan_numbers : (g tabs : List Bool) (c : Core) → Remembers c → (d : Command) → (kind_of d).ok ≡ true
    → PlanNumbers c.personality (plan_rule g tabs c d)
plan_numbers g tabs c h d e = of_form e h (formed g c tabs d)

-- ---- the step

module _ (p : List ℕ) (c : Core) (ok : remembered_ok c.personality c.attribute ≡ true) (h : AllWritable c.personality p) where
  carried_numbers : (x : Plan) (room : ℕ) → PlanNumbers c.personality x → AllWritable c.personality (carried p c x room).page
  unfolding carried begun done
  carried_numbers x room k =
      pick_if P (sends x.reply) (λ d. pick_if P (eqb room 0) (λ e. h) (λ e. h))
      (λ d. each_applied _ c.modes.protect x.second k.second (each_applied _ c.modes.protect x.first k.first h))
    where
      P : Effect → Type 0
      P e = AllWritable c.personality e.page

  obeyed_numbers : (tabs : List Bool) (g : List ℕ) (d : Decoded) (room : ℕ) → decoded_ok g d ≡ true
      → AllWritable c.personality (obeyed p c tabs d room).page
  unfolding obeyed decoded_ok
  obeyed_numbers tabs g (Decoded.Wait q) room e = h
  obeyed_numbers tabs g (Decoded.Gather x n b) room e = h
  obeyed_numbers tabs g (Decoded.Take x n) room e = h
  obeyed_numbers tabs g (Decoded.Reject a) room e = h
  obeyed_numbers tabs g (Decoded.Do d) room e = carried_numbers _ room (plan_numbers (guarded_at c.modes.protect p) tabs (idle c) ok d e)

  inner_numbers : (tabs : List Bool) (g : List ℕ) (b room : ℕ) → pending_ok c.pending g ≡ true
      → AllWritable c.personality (inner_rule p c tabs b room).page
  unfolding inner_rule
  inner_numbers tabs g b room q =
      pick_if (λ (e : Effect). AllWritable c.personality e.page) (ltb b 128)
      (λ e. obeyed_numbers tabs g (decode_rule c.pending b) room (decoded_ok_lem c.pending g b (ltb-true b 128 e) q))
      (λ e. h)

abbrev personality_of : State → Personality
personality_of s = s.core.personality

pub step_numbers : (p : List ℕ) (s : State) (b room : ℕ) → AllWritable (personality_of s) p → AllWritable (personality_of s) (step_rule p s b room).page
unfolding step_rule step_inside goes_on
step_numbers p s b room h =
    pick_if P (good p s)
    (λ g.
    let k = (possible_parts s (good_parts p s g).1).core in
    pick_if P (sends s.sending) (λ u. pick_if P (eqb room 0) (λ e. h) (λ e. h))
    (λ u. inner_numbers p s.core k.remembered h s.setup.tabs s.gathered b room k.pending))
    (λ g. h)
  where
    P : Outcome → Type 0
    P o = AllWritable (personality_of s) o.page

-- ---- runs and calls

repeated_numbers : (bytes p : List ℕ) (s : State) (room : ℕ) → AllWritable (personality_of s) p
    → AllWritable (personality_of s) (repeated bytes p s room).page
unfolding repeated joined
repeated_numbers [] p s room h = h
repeated_numbers (b ∷ bytes) p s room h =
    let o = step_rule p s b room in
    let same = (step_keeps p s b room).personality in
    pick_if P (sends s.sending) (λ u. h)
    (λ u. pick_if P (eqb o.answer 6) (λ e. h)
    (λ e. subst (λ (m : Personality). AllWritable m (repeated bytes o.page o.state (room - length o.reply)).page) same
    (repeated_numbers bytes o.page o.state (room - length o.reply)
    (subst (λ (m : Personality). AllWritable m o.page) (sym same) (step_numbers p s b room h)))))
  where
    P : Ran → Type 0
    P r = AllWritable (personality_of s) r.page

pub call_numbers : (p : List ℕ) (s : State) (c : Call) → AllWritable (personality_of s) p → AllWritable (personality_of s) (call_rule p s c).page
unfolding call_rule of_step of_run of_press run_rule run_inside behind
call_numbers p s (Step b room) h = step_numbers p s b room h
call_numbers p s (Run bytes room) h =
    pick_if P (good p s)
    (λ g. pick_if P (sends s.sending) (λ u. pick_if P (eqb room 0) (λ e. h) (λ e. unfold goes_on in repeated_numbers bytes p _ _ h))
    (λ u. repeated_numbers bytes p s room h))
    (λ g. h)
  where
    P : Ran → Type 0
    P r = AllWritable (personality_of s) r.page
call_numbers p s (Press v room) h = h

pub play_numbers : (calls : List Call) (p : List ℕ) (s : State) → AllWritable (personality_of s) p
    → AllWritable (personality_of s) (play calls p s).page
unfolding play after
play_numbers [] p s h = h
play_numbers (c ∷ calls) p s h =
    let r = call_rule p s c in
    let same = (call_keeps p s c).personality in
    subst (λ (m : Personality). AllWritable m (play calls r.page r.given.state).page) same
    (play_numbers calls r.page r.given.state (subst (λ (m : Personality). AllWritable m r.page) (sym same) (call_numbers p s c h)))

-- whatever the calls, from power-on
pub powered_numbers : (m : Personality) (calls : List Call) → AllWritable m (play calls blank (power_on m)).page
unfolding blank power_on
powered_numbers m calls = play_numbers calls blank (power_on m) (each_replicate 1920 0 (null_ok m))
