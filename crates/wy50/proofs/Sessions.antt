-- Whole sessions of the exported calls. A call of the terminal agrees in both terminals (RowNoninterference); a save and a restore look at the
-- numbers
-- and the store, equal in both, and a restore leaves protect mode and the send under way.
--     raw_session_noninterference     over lists of calls
--     raw_stream_noninterference     over one host stream
--     raw_session_characterised, raw_given_back, raw_handed_back_lem
-- Assumes nothing.
use Rattle.std.specs.Prelude.{Err}
use mathlib.Core.Path.{◌≡◌, refl, sym, ap, ap₂, subst, subst₂, ◌∙◌}
use mathlib.Core.Bool.{Bool, true, false}
use mathlib.Core.List.{List, [], ◌∷◌}
use mathlib.Core.Logic.{◌⊎◌, inl, inr}
use Prim.Native.Nat.{ℕ}
use native.Mathlib.Omega.{arith}
use lib.Dec.{eqb}
use lib.ListN.{length, drop}
use Rattle.rules.specs.declared.Core.{Core}
use Rattle.rules.specs.declared.State.{State}
use Rattle.rules.specs.Cell.{pick}
use Rattle.rules.specs.Calls.{Ran, run_rule}
use Rattle.rules.specs.Next.{next_rule}
use Rattle.rules.specs.RowCalls.{RowCall}
use Rattle.rules.specs.Theorems.Noninterference.{revealing}
use Rattle.rules.proofs.Related.{Related}
use Rattle.rules.proofs.Noninterference.{Closed, start_related, related_kept}
use Rattle.saved.specs.declared.Refusal.TheVariants as Refusal
use Rattle.saved.specs.Calls.{restoring, restore_rule}
use Rattle.saved.proofs.SavedSetups.{saved_setups}
use Rattle.session.specs.Sessions.{SessionCall, Terminal, Save, Restore, Act, call_of, host_bytes, left_of}
use Rattle.session.proofs.Given.{Rests, run_rests, next_rests}
use Rattle.wy50.specs.declared.raw.RawState.{RawState}
use Rattle.wy50.specs.Raw.{unpacked, named}
use Rattle.wy50.specs.Saved.{raw_restore, state_after}
use Rattle.wy50.specs.Promise.{raw_good, raw_ran, raw_run, bad_run}
use Rattle.wy50.specs.Rows.{raw_listed, raw_run_rows, raw_suited, raw_next}
use Rattle.wy50.specs.Noninterference.{raw_call, RawCompleted}
use Rattle.wy50.specs.RowNoninterference.{RawSession, RawRowCalled, left, handed, raw_row_call, bare_call}
use Rattle.wy50.specs.Sessions.{RawKept, raw_start, Heard, RawSessionCalled, raw_session_rule, RawSessionCompleted, first, later, RawSessionMade}
use Rattle.wy50.specs.Sessions.{terminal, saved, restored, RawSessionGiven, raw_given_by, RawSessionPerformed, none, next}
use Rattle.wy50.specs.Sessions.{RawSessionIndistinguishable, RawSessionNoninterference, raw_handed_back, raw_calls_of, RawStreamPerformed}
use Rattle.wy50.specs.Sessions.{RawStreamNoninterference, RawSessionCharacterised, RawGivenBack, RawHandedBack}
use Rattle.wy50.proofs.Noninterference.{RawClosed, numbered_closed, unpacked_closed}
use Rattle.wy50.proofs.RowNoninterference.{row_call_agrees, row_made_is}

-- ---- one call

abbrev session : List ℕ → List ℕ → RawState → RawSession
session p l x = record { page = p; rows = l; state = x }

pick_closed : (t : Bool) {x y : RawState} → RawClosed x → RawClosed y → RawClosed (pick t x y)
pick_closed true a b = a
pick_closed false a b = b

-- a restore leaves protect mode and the send under way
restored_closed : (s : State) (store : List ℕ) (n : ℕ) → Closed s → Closed (restore_rule s store n).state
restored_closed s store n closed =
    let r = (saved_setups.of_restore s store n).leaves in
    record { on = ap (λ (k : Core). k.modes.protect) r.core ∙ closed.on; conceals = ap revealing r.sending ∙ closed.conceals }

restore_closed : (x : RawState) (store : List ℕ) (n : ℕ) → RawClosed x → RawClosed (state_after x (raw_restore x store n))
unfolding raw_restore
restore_closed x store n closed =
    pick_closed (eqb (raw_restore x store n).answer 0) (numbered_closed _ (raw_restore x store n).state (by (named x))) closed
  where
    by : (t : Bool) → Closed (pick t (restore_rule (unpacked x) store n) (restoring (unpacked x) (Err Refusal.BadState))).state
    by true = restored_closed (unpacked x) store n (unpacked_closed x closed)
    by false = unpacked_closed x closed

abbrev with_page : RawSessionCalled → List ℕ → RawSessionCalled
with_page r page = record { told = r.told; kept = raw_start page r.kept.terminal.rows r.kept.terminal.state r.kept.store }

-- b is a but for the page, the pages are related to those at the start, and the numbers are closed
record AgreeCalled (p q : List ℕ) (a b : RawSessionCalled) : Type 0 where
  page : List ℕ
  but_page : b ≡ with_page a page
  related : Related p q a.kept.terminal.page page
  closed : RawClosed a.kept.terminal.state

module _ {p q a b : List ℕ} (h : Related p q a b) (l store : List ℕ) (x : RawState) (closed : RawClosed x) where
  called_agrees : (c : SessionCall) → (RawSessionCompleted (c ∷ []) (raw_start a l x store) → ⊥)
      → AgreeCalled p q (raw_session_rule (raw_start a l x store) c) (raw_session_rule (raw_start b l x store) c)
  unfolding raw_session_rule
  called_agrees (Terminal c) free =
      let k = row_call_agrees h l x closed c (λ e. free (first e)) in
      record {
        page = (raw_row_call (session b l x) c).called.page;
        but_page = cc (k.called.given, k.rows);
        related = k.called.related;
        closed = k.called.closed;
      }
  called_agrees Save free = record { page = b; but_page = refl; related = h; closed = closed }
  called_agrees (Restore n) free = record { page = b; but_page = refl; related = h; closed = restore_closed x store n closed }

-- a call that was made is the rule's
made_is : {x : RawKept} {c : SessionCall} {r : RawSessionCalled} → RawSessionMade x c r → raw_session_rule x c ≡ r
unfolding raw_session_rule
made_is {x} (terminal m) =
    ap (λ (r : RawRowCalled). record { told = Heard r.called.given; kept = record { terminal = left r; store = x.store } }) (row_made_is m)
made_is (saved e f) = cc (e, f)
made_is (restored e f) = cc (e, f)

-- when one of the six is completed
some_call : {cs : List SessionCall} {x : RawKept} → RawSessionCompleted cs x → cs ≡ [] → ⊥
some_call (first k) e = omega (arith, ap length e)
some_call (later k) e = omega (arith, ap length e)

by_terminal : {c : RowCall} {cs : List SessionCall} {x : RawKept} → RawSessionCompleted (Terminal c ∷ cs) x
    → RawCompleted (bare_call x.terminal c) x.terminal.page x.terminal.state ⊎ RawSessionCompleted cs (raw_session_rule x (Terminal c)).kept
by_terminal (first k) = inl k
by_terminal (later k) = inr k

by_save : {cs : List SessionCall} {x : RawKept} → RawSessionCompleted (Save ∷ cs) x → RawSessionCompleted cs (raw_session_rule x Save).kept
by_save (later k) = k

by_restore : {n : ℕ} {cs : List SessionCall} {x : RawKept} → RawSessionCompleted (Restore n ∷ cs) x
    → RawSessionCompleted cs (raw_session_rule x (Restore n)).kept
by_restore (later k) = k

pub raw_session_characterised : RawSessionCharacterised
raw_session_characterised = record {
  none = λ x k. some_call k refl;
  terminal = λ c cs x k. by_terminal k;
  save = λ cs x k. by_save k;
  restore = λ n cs x k. by_restore k;
}

pub raw_given_back : (p l : List ℕ) (x : RawState) (store : List ℕ) → RawGivenBack p l x store
unfolding raw_session_rule
raw_given_back p l x store = record { terminal = λ c. (refl, refl); save = (refl, refl); restore = λ n. (refl, refl) }

-- a run with its state in numbers, or refused: nothing taken, all handed back
pick_rests : (t : Bool) (p : List ℕ) (x : RawState) (bytes : List ℕ) (r : Ran) → Rests bytes r
    → drop (pick t (raw_ran x r) (bad_run p x bytes)).taken bytes ≡ (pick t (raw_ran x r) (bad_run p x bytes)).rest
pick_rests true p x bytes r e = e
pick_rests false p x bytes r e = refl

pub raw_handed_back_lem : (x : RawSession) (store : List ℕ) → RawHandedBack x store
unfolding raw_session_rule raw_row_call raw_call raw_run raw_run_rows raw_next host_bytes
raw_handed_back_lem x store = record {
  step = λ b room. refl;
  run = λ bytes room. pick_rests (raw_good x.page x.state) x.page x.state bytes (run_rule x.page (unpacked x.state) bytes room)
      (run_rests x.page (unpacked x.state) bytes room);
  list_step = λ b room. refl;
  list_run = λ bytes room.
      pick_rests (raw_listed x.page x.rows x.state) x.page x.state bytes (run_rule x.page (unpacked x.state) bytes room)
      (run_rests x.page (unpacked x.state) bytes room);
  next = λ with bytes room.
      pick_rests (raw_suited x.page (handed with x) x.state) x.page x.state bytes (next_rule x.page (unpacked x.state) bytes room)
      (next_rests x.page (unpacked x.state) bytes room);
}

-- a call alone completes nothing, if it does not before others
first_free : (c : SessionCall) (cs : List SessionCall) (x : RawKept) → (RawSessionCompleted (c ∷ cs) x → ⊥) → RawSessionCompleted (c ∷ []) x → ⊥
first_free (Terminal c) cs x free (first e) = free (first e)
first_free c cs x free (later k) = some_call k refl

module _ {p q a b : List ℕ} (h : Related p q a b) (l store : List ℕ) (x : RawState) (closed : RawClosed x) where
  made_agrees : {c : SessionCall} {cs : List SessionCall} {r t : RawSessionCalled} → (RawSessionCompleted (c ∷ cs) (raw_start a l x store) → ⊥)
      → RawSessionMade (raw_start a l x store) c r → RawSessionMade (raw_start b l x store) c t → AgreeCalled p q r t
  made_agrees {c} {cs} free m n =
      subst₂ (AgreeCalled p q) (made_is m) (made_is n) (called_agrees h l store x closed c (first_free c cs (raw_start a l x store) free))

  -- the calls after it complete nothing
  rest_free : {c : SessionCall} {cs : List SessionCall} {r : RawSessionCalled} → (RawSessionCompleted (c ∷ cs) (raw_start a l x store) → ⊥)
      → RawSessionMade (raw_start a l x store) c r → RawSessionCompleted cs r.kept → ⊥
  rest_free {c} {cs} free m k = free (later (subst (λ (z : RawSessionCalled). RawSessionCompleted cs z.kept) (sym (made_is m)) k))

-- ---- calls and acts whose promises hold

module _ {p q a b : List ℕ} (h : Related p q a b) (l store : List ℕ) (x : RawState) (closed : RawClosed x) where
  none_agrees : RawSessionIndistinguishable p q [] [] (raw_start a l x store) (raw_start b l x store)
  none_agrees = record { given = refl; state = refl; rows = refl; store = refl; pages = related_kept h }

-- one call before others that agree
more_agrees : {p q : List ℕ} {r t : RawSessionCalled} {gs hs : List RawSessionGiven} {y z : RawKept} → AgreeCalled p q r t
    → RawSessionIndistinguishable p q gs hs y z → RawSessionIndistinguishable p q (raw_given_by r ∷ gs) (raw_given_by t ∷ hs) y z
more_agrees {r = r} k e = record {
  given = ap₂ ◌∷◌ (sym (ap raw_given_by k.but_page)) e.given;
  state = e.state;
  rows = e.rows;
  store = e.store;
  pages = e.pages;
}

performed_agrees : {calls : List SessionCall} {p q a b l store : List ℕ} {x : RawState} {gs hs : List RawSessionGiven} {y z : RawKept}
    → Related p q a b
    → RawClosed x → (RawSessionCompleted calls (raw_start a l x store) → ⊥) → RawSessionPerformed (raw_start a l x store) calls gs y
    → RawSessionPerformed (raw_start b l x store) calls hs z → RawSessionIndistinguishable p q gs hs y z
performed_agrees {l = l} {store = store} {x = x} h closed free none none = none_agrees h l store x closed
performed_agrees {l = l} {store = store} {x = x} h closed free (next {cs = cs} {r = r} m f) (next {y = z} {r = t} {gs = ks} n g) =
    let k = made_agrees h l store x closed free m n in
    let g₁ : RawSessionPerformed (with_page r k.page).kept cs ks z = subst (λ (w : RawSessionCalled). RawSessionPerformed w.kept cs ks z)
    k.but_page g in
    more_agrees k (performed_agrees k.related k.closed (rest_free h l store x closed free m) f g₁)

pub raw_session_noninterference : RawSessionNoninterference
raw_session_noninterference p q l store x calls gs hs y z on conceals alike free f g =
    performed_agrees (start_related p q alike) record { on = on; conceals = conceals } free f g

stream_agrees : {acts : List Act} {stream p q a b l store : List ℕ} {x : RawState} {gs hs : List RawSessionGiven} {y z : RawKept} {u v : List ℕ}
    → Related p q a b → RawClosed x → (RawSessionCompleted (raw_calls_of acts stream (raw_start a l x store)) (raw_start a l x store) → ⊥)
    → RawStreamPerformed (raw_start a l x store) stream acts gs y u → RawStreamPerformed (raw_start b l x store) stream acts hs z v
    → RawSessionIndistinguishable p q gs hs y z × (u ≡ v)
unfolding raw_calls_of
stream_agrees {l = l} {store = store} {x = x} h closed free none none = (none_agrees h l store x closed, refl)
stream_agrees {stream = stream} {a = a} {l = l} {store = store} {x = x} h closed free
    (next {a = act} {acts = acts} {r = r} m f) (next {y = z} {end = v} {r = t} {gs = ks} n g) =
    let c = call_of act stream in
    let k = made_agrees h l store x closed free m n in
    let free₁ : RawSessionCompleted (raw_calls_of acts (left_of stream c (raw_handed_back c r.told)) r.kept) r.kept → ⊥ =
    subst (λ (w : RawSessionCalled). RawSessionCompleted (raw_calls_of acts (left_of stream c (raw_handed_back c w.told)) w.kept) w.kept → ⊥)
    (made_is m)
    (λ e. free (later e)) in
    let g₁ : RawStreamPerformed (with_page r k.page).kept (left_of stream c (raw_handed_back c r.told)) acts ks z v =
    subst (λ (w : RawSessionCalled). RawStreamPerformed w.kept (left_of stream c (raw_handed_back c w.told)) acts ks z v) k.but_page g in
    let e = stream_agrees k.related k.closed free₁ f g₁ in
    (more_agrees k e.0, e.1)

pub raw_stream_noninterference : RawStreamNoninterference
raw_stream_noninterference p q l store stream x acts gs hs y z u v on conceals alike free f g =
    stream_agrees (start_related p q alike) record { on = on; conceals = conceals } free f g
