-- The test that demand 3 is stated with is true exactly if some byte taken in the list completes one of the six.
--     characterised     both directions
--     unless_completed     demand 3 without the test
--     none_completed     what completes nothing
-- Assumes nothing.
use mathlib.Core.Path.{◌≡◌, refl, sym, ap, subst, ◌∙◌}
use mathlib.Core.Bool.{Bool, true, false, false≢true}
use mathlib.Core.List.{List, [], ◌∷◌, ◌++◌}
use mathlib.Core.Logic.{◌⊎◌, inl, inr}
use Prim.Native.Nat.{ℕ, ◌-◌}
use native.Mathlib.Nat.{sub-zero}
use native.Mathlib.Omega.{arith}
use borrow.Author.Tests.{eqb-true, eq-eqb}
use lib.Dec.{eqb}
use lib.ListN.{length, length-append}
use Rattle.rules.specs.declared.State.{State}
use Rattle.rules.specs.declared.Pending.{Pending}
use Rattle.rules.specs.declared.Pending.TheVariants as Pending
use Rattle.rules.specs.Cell.{pick, both, either}
use Rattle.rules.specs.State.{is_idle, sends}
use Rattle.rules.specs.Possible.{good}
use Rattle.rules.specs.Step.{goes_on, step_rule}
use Rattle.rules.specs.Calls.{Ran, ended, joined, repeated, behind, run_inside, run_rule, Call, Step, Run, Press, call_rule, Given, Played, after}
use Rattle.rules.specs.Calls.{play}
use Rattle.rules.specs.Theorems.Noninterference.{after_escape, any_of, excluded_bytes, completes, run_completes, inside_completes, call_completes}
use Rattle.rules.specs.Theorems.Noninterference.{any_completed}
use Rattle.rules.specs.Theorems.Completed.{OneOfSix, protect_off_lem, clear_nulls, clear_spaces, clear_protected, send_row, send_segment}
use Rattle.rules.specs.Theorems.Completed.{Completing, CompletedInRun, CompletedIn, in_step, in_run, Completed, Characterised, UnlessCompleted}
use Rattle.rules.specs.Theorems.Completed.{NoneCompleted}
use Rattle.rules.proofs.Tests.{either_way, both_parts, both_true}
use Rattle.rules.proofs.Sends.{sending_idle}
use Rattle.rules.proofs.Kept.{possible_parts, good_parts}
use Rattle.rules.proofs.Run.{run_go, run_unheard}
use Rattle.rules.proofs.Noninterference.{noninterference}

either_parts : (a b : Bool) → either a b ≡ true → (a ≡ true) ⊎ (b ≡ true)
either_parts true b e = inl refl
either_parts false b e = inr e

either_second : (a b : Bool) → b ≡ true → either a b ≡ true
either_second true b e = refl
either_second false b e = e

-- ---- the byte

bare_escape : (q : Pending) → after_escape q ≡ true → q ≡ Pending.Escape
bare_escape Pending.Idle e = absurd (false≢true e)
bare_escape Pending.Escape e = refl
bare_escape (Pending.Awaits a) e = absurd (false≢true e)
bare_escape (Pending.AddressRow r) e = absurd (false≢true e)
bare_escape (Pending.SegmentNumber n) e = absurd (false≢true e)
bare_escape (Pending.SegmentRow n r) e = absurd (false≢true e)
bare_escape (Pending.DecimalRow n row) e = absurd (false≢true e)
bare_escape (Pending.DecimalColumn row n column) e = absurd (false≢true e)
bare_escape (Pending.FieldNumber n) e = absurd (false≢true e)
bare_escape (Pending.Text x n) e = absurd (false≢true e)
bare_escape (Pending.Spoilt x) e = absurd (false≢true e)

-- the byte k, or one of some others
one_more : (b k : ℕ) (r : Bool) → OneOfSix k → (r ≡ true → OneOfSix b) → either (eqb b k) r ≡ true → OneOfSix b
one_more b k r here rest e = by (either_parts (eqb b k) r e)
  where
    by : (eqb b k ≡ true) ⊎ (r ≡ true) → OneOfSix b
    by (inl u) = rw (eqb-true b k u) here
    by (inr u) = rest u

is_one : (b : ℕ) → any_of excluded_bytes b ≡ true → OneOfSix b
is_one b =
    one_more b 0x27 _ protect_off_lem (one_more b 0x2a _ clear_nulls (one_more b 0x2b _ clear_spaces (one_more b 0x2c _ clear_protected
    (one_more b 0x36 _ send_row (one_more b 0x37 false send_segment (λ e. absurd (false≢true e)))))))

one_is : (b : ℕ) → OneOfSix b → any_of excluded_bytes b ≡ true
one_is b protect_off_lem = refl
one_is b clear_nulls = refl
one_is b clear_spaces = refl
one_is b clear_protected = refl
one_is b send_row = refl
one_is b send_segment = refl

module _ (p : List ℕ) (s : State) (b room : ℕ) where
  byte_completed : completes s b (step_rule p s b room).answer ≡ true → Completing p s b room
  unfolding completes
  byte_completed e =
      let x = both_parts (both (after_escape s.core.pending) (any_of excluded_bytes b)) _ e in
      let y = both_parts (after_escape s.core.pending) (any_of excluded_bytes b) x.0 in
      record { bare = bare_escape s.core.pending y.0; six = is_one b y.1; done = eqb-true _ 0 x.1 }

  byte_counted : Completing p s b room → completes s b (step_rule p s b room).answer ≡ true
  unfolding completes
  byte_counted x = both_true (both_true (ap after_escape x.bare) (one_is b x.six)) (eq-eqb _ 0 x.done)

bad_step_lem : (p : List ℕ) (s : State) (b room : ℕ) → good p s ≡ false → (step_rule p s b room).answer ≡ 7
unfolding step_rule
bad_step_lem p s b room g = rw g

-- a byte that completes one is on a good page and state, and no send is under way
completing_good : (p : List ℕ) (s : State) (b room : ℕ) → Completing p s b room → good p s ≡ true
completing_good p s b room c = by (good p s) refl
  where
    by : (t : Bool) → good p s ≡ t → good p s ≡ true
    by true g = g
    by false g = absurd (omega (arith, c.done, bad_step_lem p s b room g))

completing_outside : (p : List ℕ) (s : State) (b room : ℕ) → Completing p s b room → sends s.sending ≡ false
completing_outside p s b room c = by (sends s.sending) refl
  where
    by : (t : Bool) → sends s.sending ≡ t → sends s.sending ≡ false
    by true u =
        let w = possible_parts s (good_parts p s (completing_good p s b room c)).1 in
        absurd (false≢true (sym (ap is_idle c.bare) ∙ sending_idle s.core.screen s.core.pending s.sending w.sending u))
    by false u = u

-- ---- the run

-- as CompletedInRun, over the repeated step
record InRepeated (p : List ℕ) (s : State) (bytes : List ℕ) (room : ℕ) : Type 0 where
  before : List ℕ
  byte : ℕ
  behind : List ℕ
  whole : bytes ≡ before ++ (byte ∷ behind)
  taken : (repeated before p s room).rest ≡ []
  completing :
      Completing (repeated before p s room).page (repeated before p s room).state byte (room - length (repeated before p s room).reply)

zero_six : (n : ℕ) → n ≡ 0 → eqb n 6 ≡ false
zero_six n e = rw e

taken_counts : (v t u r : Bool) → v ≡ false → t ≡ false → u ≡ true → pick v false (pick t false (either u r)) ≡ true
taken_counts v t u r d e f = rw (d, e, f)

room_left : (room : ℕ) (a b : List ℕ) → room - length (a ++ b) ≡ room - length a - length b
room_left room a b = omega (arith, length-append a b)

module _ (b : ℕ) (bs p : List ℕ) (s : State) (room : ℕ) where
  first_byte : Completing p s b room → InRepeated p s (b ∷ bs) room
  unfolding repeated
  first_byte c = record { before = []; byte = b; behind = bs; whole = refl; taken = refl; completing = rw sub-zero c }

  later_byte : sends s.sending ≡ false → eqb (step_rule p s b room).answer 6 ≡ false
      → InRepeated (step_rule p s b room).page (step_rule p s b room).state bs (room - length (step_rule p s b room).reply)
      → InRepeated p s (b ∷ bs) room
  unfolding joined
  later_byte v u x =
      let o = step_rule p s b room in
      record {
        before = b ∷ x.before;
        byte = x.byte;
        behind = x.behind;
        whole = ap (λ (l : List ℕ). b ∷ l) x.whole;
        taken = rw (run_go b x.before p s room v u) x.taken;
        completing =
            rw (
              run_go b x.before p s room v u,
              room_left room o.reply (repeated x.before o.page o.state (room - length o.reply)).reply,
            ) x.completing;
      }

  byte_of_run : (run_completes bs (step_rule p s b room).page (step_rule p s b room).state (room - length (step_rule p s b room).reply) ≡ true
      → InRepeated (step_rule p s b room).page (step_rule p s b room).state bs (room - length (step_rule p s b room).reply))
      → run_completes (b ∷ bs) p s room ≡ true → InRepeated p s (b ∷ bs) room
  unfolding run_completes
  byte_of_run ih = by (sends s.sending) (eqb (step_rule p s b room).answer 6) refl refl
    where
      rest : Bool
      rest = run_completes bs (step_rule p s b room).page (step_rule p s b room).state (room - length (step_rule p s b room).reply)

      which : sends s.sending ≡ false → eqb (step_rule p s b room).answer 6 ≡ false
          → (completes s b (step_rule p s b room).answer ≡ true) ⊎ (rest ≡ true) → InRepeated p s (b ∷ bs) room
      which v u (inl h) = first_byte (byte_completed p s b room h)
      which v u (inr h) = later_byte v u (ih h)

      by : (d t : Bool) → sends s.sending ≡ d → eqb (step_rule p s b room).answer 6 ≡ t
          → pick d false (pick t false (either (completes s b (step_rule p s b room).answer) rest)) ≡ true → InRepeated p s (b ∷ bs) room
      by true t v u e = absurd (false≢true e)
      by false true v u e = absurd (false≢true e)
      by false false v u e = which v u (either_parts (completes s b (step_rule p s b room).answer) rest e)

run_completed : (bytes p : List ℕ) (s : State) (room : ℕ) → run_completes bytes p s room ≡ true → InRepeated p s bytes room
unfolding run_completes
run_completed [] p s room e = absurd (false≢true e)
run_completed (b ∷ bs) p s room e =
    byte_of_run b bs p s room
    (run_completed bs (step_rule p s b room).page (step_rule p s b room).state (room - length (step_rule p s b room).reply)) e

module _ (b : ℕ) (behind p : List ℕ) (s : State) (room : ℕ) where
  first_counted : Completing p s b room → run_completes (b ∷ behind) p s room ≡ true
  unfolding run_completes
  first_counted c = taken_counts _ _ _ _ (completing_outside p s b room c) (zero_six _ c.done) (byte_counted p s b room c)

  later_counted : sends s.sending ≡ false → eqb (step_rule p s b room).answer 6 ≡ false
      → run_completes behind (step_rule p s b room).page (step_rule p s b room).state (room - length (step_rule p s b room).reply) ≡ true
      → run_completes (b ∷ behind) p s room ≡ true
  unfolding run_completes
  later_counted v u h = rw (v, u) (either_second (completes s b (step_rule p s b room).answer) _ h)

-- a byte of a run that took all of its bytes was taken
took : (b : ℕ) (bs p : List ℕ) (s : State) (room : ℕ) → (repeated (b ∷ bs) p s room).rest ≡ []
    → (sends s.sending ≡ false) × (eqb (step_rule p s b room).answer 6 ≡ false)
unfolding repeated
took b bs p s room e = by (sends s.sending) (eqb (step_rule p s b room).answer 6) refl refl e
  where
    r : Ran
    r = joined (step_rule p s b room)
        (repeated bs (step_rule p s b room).page (step_rule p s b room).state (room - length (step_rule p s b room).reply))

    by : (d t : Bool) → sends s.sending ≡ d → eqb (step_rule p s b room).answer 6 ≡ t
        → (pick d (ended p s 0 (b ∷ bs)) (pick t (ended p s 6 (b ∷ bs)) r)).rest ≡ []
        → (sends s.sending ≡ false) × (eqb (step_rule p s b room).answer 6 ≡ false)
    by true t v u e = absurd (omega (arith, ap length e))
    by false true v u e = absurd (omega (arith, ap length e))
    by false false v u e = (v, u)

-- one byte more before it
byte_before : (a : ℕ) (before : List ℕ) (b : ℕ) (behind p : List ℕ) (s : State) (room : ℕ)
    → ((repeated before (step_rule p s a room).page (step_rule p s a room).state (room - length (step_rule p s a room).reply)).rest ≡ []
    → Completing (repeated before (step_rule p s a room).page (step_rule p s a room).state (room - length (step_rule p s a room).reply)).page
    (repeated before (step_rule p s a room).page (step_rule p s a room).state (room - length (step_rule p s a room).reply)).state b
    (room - length (step_rule p s a room).reply
    - length (repeated before (step_rule p s a room).page (step_rule p s a room).state (room - length (step_rule p s a room).reply)).reply)
    → run_completes (before ++ (b ∷ behind)) (step_rule p s a room).page (step_rule p s a room).state
    (room - length (step_rule p s a room).reply) ≡ true)
    → (repeated (a ∷ before) p s room).rest ≡ []
    → Completing (repeated (a ∷ before) p s room).page (repeated (a ∷ before) p s room).state b
    (room - length (repeated (a ∷ before) p s room).reply)
    → run_completes (a ∷ (before ++ (b ∷ behind))) p s room ≡ true
unfolding joined
byte_before a before b behind p s room ih e c =
    let o = step_rule p s a room in
    let r = repeated before o.page o.state (room - length o.reply) in
    let u = took a before p s room e in
    later_counted a (before ++ (b ∷ behind)) p s room u.0 u.1
    (ih (rw (run_go a before p s room u.0 u.1) at e) (rw (run_go a before p s room u.0 u.1, room_left room o.reply r.reply) at c))

run_counted : (before : List ℕ) (b : ℕ) (behind p : List ℕ) (s : State) (room : ℕ) → (repeated before p s room).rest ≡ []
    → Completing (repeated before p s room).page (repeated before p s room).state b (room - length (repeated before p s room).reply)
    → run_completes (before ++ (b ∷ behind)) p s room ≡ true
unfolding repeated
run_counted [] b behind p s room e c = first_counted b behind p s room (rw sub-zero at c)
run_counted (a ∷ before) b behind p s room e c =
    byte_before a before b behind p s room
    (run_counted before b behind (step_rule p s a room).page (step_rule p s a room).state (room - length (step_rule p s a room).reply)) e c

-- ---- the call

-- the same over the call, on a good page and state: outside a send, and inside one, where the bytes come behind it
record Start (p : List ℕ) (s : State) (room : ℕ) : Type 0 where
  from : State
  left : ℕ
  sent : List ℕ
  is : (bytes : List ℕ) → run_rule p s bytes room ≡ behind sent (repeated bytes p from left)
  counts : (bytes : List ℕ) → call_completes p s (Run bytes room) ≡ run_completes bytes p from left
  rest : left ≡ room - length sent

starts : (p : List ℕ) (s : State) (room : ℕ) → good p s ≡ true → sends s.sending ≡ false → Start p s room
unfolding run_rule call_completes behind
starts p s room g u = record {
  from = s;
  left = room;
  sent = [];
  is = λ bytes. rw (g, u);
  counts = λ bytes. rw (g, u);
  rest = sym (sub-zero room);
}

starts_inside : (p : List ℕ) (s : State) (room : ℕ) → good p s ≡ true → sends s.sending ≡ true → eqb room 0 ≡ false → Start p s room
unfolding run_rule call_completes run_inside inside_completes
starts_inside p s room g u z = record {
  from = (goes_on p s room).state;
  left = room - length (goes_on p s room).reply;
  sent = (goes_on p s room).reply;
  is = λ bytes. rw (g, u, z);
  counts = λ bytes. rw (g, u, z);
  rest = refl;
}

module _ (p : List ℕ) (s : State) (room : ℕ) (x : Start p s room) where
  start_completed : (bytes : List ℕ) → InRepeated p x.from bytes x.left → CompletedInRun p s bytes room
  unfolding behind
  start_completed bytes y = record {
    before = y.before;
    byte = y.byte;
    behind = y.behind;
    whole = y.whole;
    taken = rw (x.is y.before) y.taken;
    completing = rw (x.is y.before, room_left room x.sent (repeated y.before p x.from x.left).reply, ← x.rest) y.completing;
  }

  start_counted : (bytes : List ℕ) → CompletedInRun p s bytes room → run_completes bytes p x.from x.left ≡ true
  unfolding behind
  start_counted bytes y =
      rw y.whole
      (run_counted y.before y.byte y.behind p x.from x.left (rw (x.is y.before) at y.taken)
      (rw (x.is y.before, room_left room x.sent (repeated y.before p x.from x.left).reply, ← x.rest) at y.completing))

-- a run in which one is completed is on a good page and state, and has room inside a send
bad_run_lem : (p : List ℕ) (s : State) (bytes : List ℕ) (room : ℕ) → good p s ≡ false → run_rule p s bytes room ≡ ended p s 7 bytes
unfolding run_rule
bad_run_lem p s bytes room g = rw g

no_bad_run : (p : List ℕ) (s : State) (bytes : List ℕ) (room : ℕ) → good p s ≡ false → CompletedInRun p s bytes room → ⊥
no_bad_run p s bytes room g x =
    false≢true (sym g ∙ completing_good p s x.byte _ (rw (bad_run_lem p s x.before room g) at x.completing))

no_narrow_run : (p : List ℕ) (s : State) (bytes : List ℕ) → good p s ≡ true → sends s.sending ≡ true → CompletedInRun p s bytes 0 → ⊥
no_narrow_run p s bytes g u x =
    false≢true (sym (completing_outside p s x.byte _ (rw (run_unheard p s x.before g u) at x.completing)) ∙ u)

bad_call : (p : List ℕ) (s : State) (bytes : List ℕ) (room : ℕ) → good p s ≡ false → call_completes p s (Run bytes room) ≡ false
unfolding call_completes
bad_call p s bytes room g = rw g

narrow_call : (p : List ℕ) (s : State) (bytes : List ℕ) (room : ℕ) → good p s ≡ true → sends s.sending ≡ true → eqb room 0 ≡ true
    → call_completes p s (Run bytes room) ≡ false
unfolding call_completes inside_completes
narrow_call p s bytes room g u z = rw (g, u, z)

pub call_completed_lem : (p : List ℕ) (s : State) (c : Call) → call_completes p s c ≡ true → CompletedIn p s c
call_completed_lem p s (Step b room) e = in_step p s b room (byte_completed p s b room (unfold call_completes in e))
call_completed_lem p s (Run bytes room) e = in_run p s bytes room (by (good p s) (sends s.sending) (eqb room 0) refl refl refl)
  where
    on : Start p s room → CompletedInRun p s bytes room
    on x = start_completed p s room x bytes (run_completed bytes p x.from x.left (sym (x.counts bytes) ∙ e))

    by : (g u z : Bool) → good p s ≡ g → sends s.sending ≡ u → eqb room 0 ≡ z → CompletedInRun p s bytes room
    by false u z h i j = absurd (false≢true (sym (bad_call p s bytes room h) ∙ e))
    by true false z h i j = on (starts p s room h i)
    by true true false h i j = on (starts_inside p s room h i j)
    by true true true h i j = absurd (false≢true (sym (narrow_call p s bytes room h i j) ∙ e))
call_completed_lem p s (Press v room) e = absurd (false≢true (unfold call_completes in e))

call_counted : (p : List ℕ) (s : State) (c : Call) → CompletedIn p s c → call_completes p s c ≡ true
call_counted p s (Step b room) (in_step _ _ _ _ x) = unfold call_completes in byte_counted p s b room x
call_counted p s (Run bytes room) (in_run _ _ _ _ x) = by (good p s) (sends s.sending) (eqb room 0) refl refl refl
  where
    on : Start p s room → call_completes p s (Run bytes room) ≡ true
    on y = y.counts bytes ∙ start_counted p s room y bytes x

    by : (g u z : Bool) → good p s ≡ g → sends s.sending ≡ u → eqb room 0 ≡ z → call_completes p s (Run bytes room) ≡ true
    by false u z h i j = absurd (no_bad_run p s bytes room h x)
    by true false z h i j = on (starts p s room h i)
    by true true false h i j = on (starts_inside p s room h i j)
    by true true true h i j = absurd (no_narrow_run p s bytes h i (subst (CompletedInRun p s bytes) (eqb-true room 0 j) x))
call_counted p s (Press v room) x = elim x [ ]

-- ---- the list

list_completed : (calls : List Call) (p : List ℕ) (s : State) → any_completed calls p s ≡ true → Completed calls p s
unfolding any_completed play after
list_completed [] p s e = absurd (false≢true e)
list_completed (c ∷ cs) p s e = by (either_parts (call_completes p s c) _ e)
    (list_completed cs (call_rule p s c).page (call_rule p s c).given.state)
  where
    by : (call_completes p s c ≡ true) ⊎ (any_completed cs (call_rule p s c).page (call_rule p s c).given.state ≡ true)
        → (any_completed cs (call_rule p s c).page (call_rule p s c).given.state ≡ true
        → Completed cs (call_rule p s c).page (call_rule p s c).given.state) → Completed (c ∷ cs) p s
    by (inl h) ih = record { earlier = []; call = c; later = cs; whole = refl; inside = call_completed_lem p s c h }
    by (inr h) ih =
        let x = ih h in
        record { earlier = c ∷ x.earlier; call = x.call; later = x.later; whole = ap (λ (l : List Call). c ∷ l) x.whole; inside = x.inside }

list_counted : (earlier : List Call) (c : Call) (later : List Call) (p : List ℕ) (s : State)
    → CompletedIn (play earlier p s).page (play earlier p s).state c → any_completed (earlier ++ (c ∷ later)) p s ≡ true
unfolding any_completed play after
list_counted [] c later p s x = rw (call_counted p s c x)
list_counted (a ∷ earlier) c later p s x =
    either_second (call_completes p s a) _ (list_counted earlier c later (call_rule p s a).page (call_rule p s a).given.state x)

pub characterised : Characterised
characterised = record {
  counted_completed = list_completed;
  completed_counted = λ calls p s x. rw x.whole (list_counted x.earlier x.call x.later p s x.inside);
}

pub not_true : (t : Bool) → (t ≡ true → ⊥) → t ≡ false
not_true true h = absurd (h refl)
not_true false h = refl

pub unless_completed : UnlessCompleted
unless_completed p q s t calls on conceals alike none =
    noninterference p q s t calls on conceals alike (not_true (any_completed calls p s) (λ e. none (list_completed calls p s e)))

-- ---- what completes nothing

none_in : (p : List ℕ) (s : State) (c : Call) → (CompletedIn p s c → ⊥) → any_completed (c ∷ []) p s ≡ false
unfolding any_completed
none_in p s c h = rw (not_true (call_completes p s c) (λ e. h (call_completed_lem p s c e)))

no_press : (p : List ℕ) (s : State) (v room : ℕ) → CompletedIn p s (Press v room) → ⊥
unfolding call_completes
no_press p s v room x = false≢true (call_counted p s (Press v room) x)

no_bad : (p : List ℕ) (s : State) (c : Call) → good p s ≡ false → CompletedIn p s c → ⊥
no_bad p s (Step b room) g (in_step _ _ _ _ x) = absurd (omega (arith, x.done, bad_step_lem p s b room g))
no_bad p s (Run bytes room) g (in_run _ _ _ _ x) = no_bad_run p s bytes room g x
no_bad p s (Press v room) g x = no_press p s v room x

no_step : (p : List ℕ) (s : State) (b room : ℕ) → (Completing p s b room → ⊥) → CompletedIn p s (Step b room) → ⊥
no_step p s b room h (in_step _ _ _ _ x) = h x

no_run : (p : List ℕ) (s : State) (bytes : List ℕ) (room : ℕ) → (CompletedInRun p s bytes room → ⊥) → CompletedIn p s (Run bytes room) → ⊥
no_run p s bytes room h (in_run _ _ _ _ x) = h x

pub none_completed : NoneCompleted
unfolding any_completed
none_completed = record {
  empty = λ p s. refl;
  press = λ p s v room. none_in p s (Press v room) (no_press p s v room);
  bad = λ p s c g. none_in p s c (no_bad p s c g);
  refused = λ p s b room h. none_in p s (Step b room) (no_step p s b room (λ x. h x.done));
  step = λ p s b room h. none_in p s (Step b room) (no_step p s b room (λ x. h x.bare x.six));
  run =
      λ p s bytes room h. none_in p s (Run bytes room)
      (no_run p s bytes room (λ x. h x.before x.byte x.behind x.whole x.completing.bare x.completing.six));
}
