-- Demand 3 over sessions. One call of the terminal agrees in both (RowNoninterference, over a list of one call) and leaves protect mode on; a save
-- and a restore look at the state and the store, equal in both, and a restore leaves the core and the send under way. So what a call leaves is the
-- same but for the pages, and these are alike again.
--     session_noninterference     over lists of calls
--     called_agrees     one call
-- Assumes nothing.
use mathlib.Core.Path.{◌≡◌, refl, sym, ap, subst, ◌∙◌}
use mathlib.Core.Bool.{false}
use mathlib.Core.List.{List, [], ◌∷◌, append-nil}
use Prim.Native.Nat.{ℕ}
use lib.ListN.{get_or}
use Rattle.rules.specs.declared.Core.{Core}
use Rattle.rules.specs.declared.State.{State}
use Rattle.rules.specs.Calls.{Call, call_rule, Given, after, play}
use Rattle.rules.specs.Theorems.Noninterference.{AlikePages, KeptPages, revealing, call_completes, any_completed}
use Rattle.rules.specs.RowCalls.{Session, RowCall, row_call_rule, bare_call, bare_calls, row_after, row_play}
use Rattle.rules.proofs.Noninterference.{Closed, call_agrees, start_related, related_kept, either_left, either_right}
use Rattle.rules.proofs.RowSteps.{call_leaves}
use Rattle.rules.proofs.RowNoninterference.{row_noninterference}
use Rattle.saved.proofs.SavedSetups.{saved_setups}
use Rattle.session.specs.Sessions.{SessionCall, Terminal, Save, Restore, Kept, start, SessionCalled, session_rule, session_after, session_play}
use Rattle.session.specs.Sessions.{call_completed, session_completed, SessionIndistinguishable, SessionNoninterference}
use Rattle.session.proofs.Pages.{kept_alike, kept_kept}

-- ---- one call

abbrev terminal : List ℕ → List ℕ → State → Session
terminal p l s = record { page = p; rows = l; state = s }

-- calls that complete none of the six leave protect mode on, and no ESC 6 or ESC 7 send under way
closed_play : (cs : List Call) (p : List ℕ) (s : State) → Closed s → any_completed cs p s ≡ false → Closed (play cs p s).state
unfolding any_completed play after
closed_play [] p s closed e = closed
closed_play (c ∷ cs) p s closed e =
    let itself : AlikePages p p = record { size = refl; bits = λ i h. refl; cells = λ i h f. refl } in
    let a = call_agrees (start_related p p itself) s closed c (either_left (call_completes p s c) _ e) in
    closed_play cs (call_rule p s c).page (call_rule p s c).given.state a.closed (either_right (call_completes p s c) _ e)

-- what a call tells and leaves, with another page
abbrev with_page : SessionCalled → List ℕ → SessionCalled
with_page r page = record { told = r.told; kept = start page r.kept.terminal.rows r.kept.terminal.state r.kept.store }

-- b is a but for the page; the pages are kept, from p and q, and alike again; the state is closed
pub record AgreeCalled (p q : List ℕ) (a b : SessionCalled) : Type 0 where
  pub page : List ℕ
  pub but_page : b ≡ with_page a page
  pub kept : KeptPages p q a.kept.terminal.page page
  pub alike : AlikePages a.kept.terminal.page page
  pub closed : Closed a.kept.terminal.state

module _ (p q l store : List ℕ) (s : State) (closed : Closed s) (alike : AlikePages p q) where
  abbrev first : Kept
  first = start p l s store

  abbrev second : Kept
  second = start q l s store

  -- the terminal's calls
  terminal_agrees : (c : RowCall) → any_completed (bare_call (terminal p l s) c) p s ≡ false
      → AgreeCalled p q (session_rule first (Terminal c)) (session_rule second (Terminal c))
  unfolding session_rule row_play row_after bare_calls
  terminal_agrees c e =
      let a = row_call_rule (terminal p l s) c in
      let b = row_call_rule (terminal q l s) c in
      let r = row_noninterference p q l s (c ∷ []) closed.on closed.conceals alike
      (ap (λ (cs : List Call). any_completed cs p s) (append-nil (bare_call (terminal p l s) c)) ∙ e) in
      let given : a.called.given ≡ b.called.given = ap (λ (gs : List Given). get_or gs 0 a.called.given) r.calls.given in
      let rows : a.rows ≡ b.rows = r.rows in
      record {
        page = b.called.page;
        but_page = cc (given, rows);
        kept = r.calls.pages;
        alike = kept_alike alike r.calls.pages;
        closed = subst Closed (sym (call_leaves (terminal p l s) c).state) (closed_play (bare_call (terminal p l s) c) p s closed e);
      }

  pages_stay : KeptPages p q p q
  pages_stay = related_kept (start_related p q alike)

  save_agrees : AgreeCalled p q (session_rule first Save) (session_rule second Save)
  unfolding session_rule
  save_agrees = record { page = q; but_page = refl; kept = pages_stay; alike = alike; closed = closed }

  restore_agrees : (n : ℕ) → AgreeCalled p q (session_rule first (Restore n)) (session_rule second (Restore n))
  unfolding session_rule
  restore_agrees n =
      let r = (saved_setups.of_restore s store n).leaves in
      record {
        page = q;
        but_page = refl;
        kept = pages_stay;
        alike = alike;
        closed = record {
          on = ap (λ (k : Core). k.modes.protect) r.core ∙ closed.on;
          conceals = ap revealing r.sending ∙ closed.conceals;
        };
      }

  pub called_agrees : (c : SessionCall) → call_completed first c ≡ false → AgreeCalled p q (session_rule first c) (session_rule second c)
  unfolding call_completed
  called_agrees (Terminal c) e = terminal_agrees c e
  called_agrees Save e = save_agrees
  called_agrees (Restore n) e = restore_agrees n

-- ---- lists of calls

session_agrees : (cs : List SessionCall) (p q l store : List ℕ) (s : State) → Closed s → AlikePages p q
    → session_completed cs (start p l s store) ≡ false
    → SessionIndistinguishable p q (session_play cs (start p l s store)) (session_play cs (start q l s store))
unfolding session_play session_completed session_after
session_agrees [] p q l store s closed alike e =
    record { given = refl; state = refl; rows = refl; store = refl; pages = related_kept (start_related p q alike) }
session_agrees (c ∷ cs) p q l store s closed alike e =
    let x = start p l s store in
    let r = session_rule x c in
    let a = called_agrees p q l store s closed alike c (either_left (call_completed x c) _ e) in
    let b = session_agrees cs r.kept.terminal.page a.page r.kept.terminal.rows r.kept.store r.kept.terminal.state a.closed
    a.alike
    (either_right (call_completed x c) _ e) in
    rw a.but_page
    record { given = rw b.given; state = b.state; rows = b.rows; store = b.store; pages = kept_kept alike a.kept b.pages }

pub session_noninterference : SessionNoninterference
session_noninterference p q l store s calls on conceals alike e =
    session_agrees calls p q l store s record { on = on; conceals = conceals } alike e
