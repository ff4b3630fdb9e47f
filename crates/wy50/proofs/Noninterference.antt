-- Demand 3 of the exported calls. A good call is the rules' call on the state that the numbers name, which agrees in both terminals; a bad one
-- is refused in both. So after each call the numbers are the same again.
--     raw_noninterference     the theorem
--     raw_characterised     when one of the six is completed
-- Assumes nothing.
use mathlib.Core.Path.{◌≡◌, refl, sym, ap, ap₂, subst, subst₂, ◌∙◌}
use mathlib.Core.Bool.{Bool, true, false, false≢true}
use mathlib.Core.List.{List, [], ◌∷◌}
use mathlib.Core.Logic.{◌⊎◌, inl, inr}
use Prim.Native.Nat.{ℕ}
use native.Mathlib.Omega.{arith}
use borrow.Author.Tests.{eqb-true}
use lib.Dec.{eqb}
use lib.ListN.{length}
use Rattle.rules.specs.declared.Short.TheVariants as Short
use Rattle.rules.specs.declared.Place.{Place}
use Rattle.rules.specs.declared.Sending.{Sending}
use Rattle.rules.specs.declared.State.{State}
use Rattle.rules.specs.Calls.{Call, Step, Run, Press, of_step, of_run, of_press, Given, Called, call_rule}
use Rattle.rules.proofs.Related.{Related, related_length}
use Rattle.rules.specs.Theorems.Noninterference.{revealing}
use Rattle.rules.proofs.Tests.{pick_if}
use Rattle.rules.proofs.Noninterference.{Closed, AgreeCall, call_agrees, start_related, related_kept}
use Rattle.rules.specs.Theorems.Completed.{CompletedIn}
use Rattle.rules.proofs.Completed.{call_completed_lem, not_true}
use Rattle.rules.specs.Possible.{good}
use Rattle.state.proofs.Tests.{both_left}
use Rattle.terminal.proofs.Noninterference.{front}
use Rattle.wy50.specs.declared.raw.RawSending.{RawSending}
use Rattle.wy50.specs.declared.raw.RawState.{RawState}
use Rattle.wy50.specs.Raw.{flag, find, text_sending, raw_sending, sending_of, numbers, packed, unpacked, named}
use Rattle.wy50.specs.Promise.{raw_good, raw_step, raw_run, raw_press}
use Rattle.wy50.proofs.Kept.{bad_step_lem, bad_run_lem, bad_press}
use Rattle.wy50.specs.Noninterference.{RawGiven, RawCalled, raw_call, RawCompleted, first, later, Made, stepped, ran, sent, Performed, none}
use Rattle.wy50.specs.Noninterference.{next, Concealing, RawIndistinguishable, RawNoninterference, RawCharacterised}

-- ---- one call in both terminals

pub good_named : (p : List ℕ) (x : RawState) → raw_good p x ≡ true → named x ≡ true
unfolding raw_good
good_named p x e = both_left (named x) (good p (unpacked x)) e

-- a call of the rules with its state in numbers
abbrev numbered : RawState → Called → RawCalled
numbered x r = record {
  given = record {
    answer = r.given.answer;
    counts = r.given.counts;
    reply = r.given.reply;
    rest = r.given.rest;
    state = packed x r.given.state;
  };
  page = r.page;
}

good_step : (p : List ℕ) (x : RawState) (b room : ℕ) → raw_good p x ≡ true
    → raw_call p x (Step b room) ≡ numbered x (call_rule p (unpacked x) (Step b room))
unfolding raw_call raw_step call_rule of_step
good_step p x b room e = rw e

good_run : (p : List ℕ) (x : RawState) (l : List ℕ) (room : ℕ) → raw_good p x ≡ true
    → raw_call p x (Run l room) ≡ numbered x (call_rule p (unpacked x) (Run l room))
unfolding raw_call raw_run call_rule of_run
good_run p x l room e = rw e

-- a key press has no state to give
abbrev held : RawState → Given → RawGiven
held x g = record { answer = g.answer; counts = g.counts; reply = g.reply; rest = g.rest; state = x }

good_press : (p : List ℕ) (x : RawState) (v room : ℕ) → raw_good p x ≡ true
    → raw_call p x (Press v room) ≡ record { given = held x (call_rule p (unpacked x) (Press v room)).given; page = p }
unfolding raw_call raw_press call_rule of_press
good_press p x v room e = rw (good_named p x e)

-- what is known of the numbers: protect mode is on, and no ESC 6 or ESC 7 send is under way
pub record RawClosed (x : RawState) : Type 0 where
  pub on : x.modes.protect ≡ 1
  pub conceals : Concealing x.sending

pub record AgreeRaw (p q : List ℕ) (a b : RawCalled) : Type 0 where
  pub given : b.given ≡ a.given
  pub related : Related p q a.page b.page
  pub closed : RawClosed a.given.state

flag_on : (b : Bool) → b ≡ true → flag b ≡ 1
flag_on b e = ap flag e

text_conceals : (c : ℕ) (k : Place) → (c ≡ 0x36 → ⊥) → (c ≡ 0x37 → ⊥) → Concealing (text_sending c k)
text_conceals c (Place.Cell i) h k = record { row = h; segment = k }
text_conceals c (Place.Break i) h k = record { row = h; segment = k }
text_conceals c Place.Return h k = record { row = h; segment = k }

send_conceals : (y : Sending) → revealing y ≡ false → Concealing (raw_sending y)
send_conceals Sending.Nothing h = record { row = λ e. omega (arith, e); segment = λ e. omega (arith, e) }
send_conceals (Sending.Short Short.Acknowledge n) h = record { row = λ e. omega (arith, e); segment = λ e. omega (arith, e) }
send_conceals (Sending.Short Short.Cell n) h = record { row = λ e. omega (arith, e); segment = λ e. omega (arith, e) }
send_conceals (Sending.Short Short.Identity n) h = record { row = λ e. omega (arith, e); segment = λ e. omega (arith, e) }
send_conceals (Sending.Short Short.Cursor n) h = record { row = λ e. omega (arith, e); segment = λ e. omega (arith, e) }
send_conceals (Sending.Short Short.SegmentCursor n) h = record { row = λ e. omega (arith, e); segment = λ e. omega (arith, e) }
send_conceals (Sending.Short Short.DecimalCursor n) h = record { row = λ e. omega (arith, e); segment = λ e. omega (arith, e) }
send_conceals (Sending.Text true segment k) h = absurd (false≢true (sym h))
send_conceals (Sending.Text false false k) h = text_conceals 0x34 k (λ e. omega (arith, e)) (λ e. omega (arith, e))
send_conceals (Sending.Text false true k) h = text_conceals 0x35 k (λ e. omega (arith, e)) (λ e. omega (arith, e))

pub numbered_closed : (g : List ℕ) (s : State) → Closed s → RawClosed (numbers g s)
unfolding numbers
numbered_closed g s c = record { on = flag_on s.core.modes.protect c.on; conceals = send_conceals s.sending c.conceals }

pub unpacked_on : (x : RawState) → x.modes.protect ≡ 1 → (unpacked x).core.modes.protect ≡ true
unfolding unpacked
unpacked_on x e = rw e

abbrev Hides : Sending → Type 0
Hides z = revealing z ≡ false

-- by the table of commands
conceals_named : (y : RawSending) → Concealing y → Hides (sending_of y)
unfolding find
conceals_named y h =
    let c = y.command in
    pick_if Hides (eqb c 0x05) (λ t. refl)
    (λ t. pick_if Hides (eqb c 0x20) (λ t. refl)
    (λ t. pick_if Hides (eqb c 0x2f) (λ t. refl)
    (λ t. pick_if Hides (eqb c 0x34) (λ t. refl)
    (λ t. pick_if Hides (eqb c 0x35) (λ t. refl)
    (λ t. pick_if Hides (eqb c 0x36) (λ t. absurd (h.row (eqb-true c 0x36 t)))
    (λ t. pick_if Hides (eqb c 0x37) (λ t. absurd (h.segment (eqb-true c 0x37 t)))
    (λ t. pick_if Hides (eqb c 0x3f) (λ t. refl)
    (λ t. pick_if Hides (eqb c 0x4d) (λ t. refl)
    (λ t. pick_if Hides (eqb c 0x62) (λ t. refl) (λ t. refl))))))))))

pub unpacked_closed : (x : RawState) → RawClosed x → Closed (unpacked x)
unfolding unpacked
unpacked_closed x c = record { on = unpacked_on x c.on; conceals = conceals_named x.sending c.conceals }

module _ {p q a b : List ℕ} (h : Related p q a b) (x : RawState) (closed : RawClosed x) where
  -- both pages are good, or neither
  pub both_good : raw_good a x ≡ raw_good b x
  unfolding raw_good good
  both_good = rw (related_length h)

  good_agrees : (c : Call) → raw_good a x ≡ true → (CompletedIn a (unpacked x) c → ⊥) → AgreeRaw p q (raw_call a x c) (raw_call b x c)
  good_agrees c e free = by c (call_agrees h (unpacked x) (unpacked_closed x closed) c (not_true _ (λ t. free (call_completed_lem a (unpacked x) c t))))
    where
      f : raw_good b x ≡ true
      f = sym both_good ∙ e

      by : (c : Call) → AgreeCall p q (call_rule a (unpacked x) c) (call_rule b (unpacked x) c) → AgreeRaw p q (raw_call a x c) (raw_call b x c)
      by (Step v room) k =
          rw (good_step a x v room e, good_step b x v room f)
          (record {
            given = rw k.given;
            related = k.related;
            closed = numbered_closed _ (call_rule a (unpacked x) (Step v room)).given.state
                k.closed;
          })
      by (Run l room) k =
          rw (good_run a x l room e, good_run b x l room f)
          (record {
            given = rw k.given;
            related = k.related;
            closed = numbered_closed _ (call_rule a (unpacked x) (Run l room)).given.state
                k.closed;
          })
      by (Press v room) k = rw (good_press a x v room e, good_press b x v room f)
          (record { given = ap (held x) k.given; related = h; closed = closed })

  -- a bad call is refused in both
  bad_agrees : (c : Call) → raw_good a x ≡ false → AgreeRaw p q (raw_call a x c) (raw_call b x c)
  unfolding raw_call
  bad_agrees (Step v room) e = rw (bad_step_lem a x e v room, bad_step_lem b x (sym both_good ∙ e) v room)
      (record { given = refl; related = h; closed = closed })
  bad_agrees (Run l room) e = rw (bad_run_lem a x e l room, bad_run_lem b x (sym both_good ∙ e) l room)
      (record { given = refl; related = h; closed = closed })
  bad_agrees (Press v room) e = rw (bad_press a x e v room, bad_press b x (sym both_good ∙ e) v room)
      (record { given = refl; related = h; closed = closed })

  pub raw_agrees : (c : Call) → (named x ≡ true → CompletedIn a (unpacked x) c → ⊥) → AgreeRaw p q (raw_call a x c) (raw_call b x c)
  raw_agrees c free = by (raw_good a x) refl where
    by : (t : Bool) → raw_good a x ≡ t → AgreeRaw p q (raw_call a x c) (raw_call b x c)
    by true e = good_agrees c e (free (good_named a x e))
    by false e = bad_agrees c e

-- ---- calls whose promises hold

pub made_is : {p p' : List ℕ} {x : RawState} {c : Call} {g : RawGiven} → Made p x c g p' → raw_call p x c ≡ record { given = g; page = p' }
unfolding raw_call
made_is {p} {p'} {x} (stepped {b = b} {w = w} {w' = w'} {r = r} h) =
    cc (h.answer, h.taken, h.state, h.replied, h.page, front _ w w' r.replied h.replied h.room)
made_is {p} {p'} {x} (ran {l = l} {w = w} {w' = w'} {r = r} h) =
    cc (h.answer, h.taken, h.replied, h.refused, h.rest, h.state, h.page, front _ w w' r.replied h.replied h.room)
made_is {p} {p'} {x} (sent {v = v} {w = w} {w' = w'} {r = r} h) = cc (h.answer, h.replied, front _ w w' r.replied h.replied h.room)

-- by induction over the calls
performed_agrees : {calls : List Call} {p q a b : List ℕ} {x y z : RawState} {gs hs : List RawGiven} {a' b' : List ℕ} → Related p q a b
    → RawClosed x → (RawCompleted calls a x → ⊥) → Performed a x calls gs y a' → Performed b x calls hs z b'
    → RawIndistinguishable p q gs hs y z a' b'
performed_agrees h closed free none none = record { given = refl; state = refl; pages = related_kept h }
performed_agrees {p = p} {q = q} h closed free (next {p = a} {p' = a₁} {x = x} {c = c} {cs = cs} {g = g} m f)
    (next {p' = b₁} {p'' = b''} {x'' = z} {g = k} {gs = ks} n l) =
    let r = subst₂ (AgreeRaw p q) (made_is m) (made_is n) (raw_agrees h x closed c (λ e k. free (first e k))) in
    let free₁ : RawCompleted cs a₁ g.state → ⊥ =
    subst (λ (r : RawCalled). RawCompleted cs r.page r.given.state → ⊥) (made_is m) (λ k. free (later k)) in
    let l₁ : Performed b₁ g.state cs ks z b'' = subst (λ (k : RawGiven). Performed b₁ k.state cs ks z b'') r.given l in
    let t = performed_agrees r.related r.closed free₁ f l₁ in
    record { given = ap₂ ◌∷◌ (sym r.given) t.given; state = t.state; pages = t.pages }

pub raw_noninterference : RawNoninterference
raw_noninterference p q x calls gs hs y z a b on conceals alike free f g =
    performed_agrees (start_related p q alike) record { on = on; conceals = conceals } free f g

some_call : {cs : List Call} {p : List ℕ} {x : RawState} → RawCompleted cs p x → cs ≡ [] → ⊥
some_call (first e k) n = absurd (omega (arith, ap length n))
some_call (later k) n = absurd (omega (arith, ap length n))

by_first : {c : Call} {cs : List Call} {p : List ℕ} {x : RawState} → RawCompleted (c ∷ cs) p x
    → ((named x ≡ true) × CompletedIn p (unpacked x) c) ⊎ RawCompleted cs (raw_call p x c).page (raw_call p x c).given.state
by_first (first e k) = inl (e, k)
by_first (later k) = inr k

pub raw_characterised : RawCharacterised
raw_characterised = record { none = λ p x k. some_call k refl; some = λ c cs p x k. by_first k }
