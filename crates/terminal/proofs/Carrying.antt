-- What a byte gives: its promise, by the effect.
--     below, above      the effect of a byte, by what it comes to
--     quiet_carried, quietly     a byte that writes and replies nothing
--     effect_beside     the row list after an effect
--     plan_good, plan_carried, list_asked, plan_beside     a plan that is that of a command: it is good, and what carrying it out gives
-- Assumes nothing.
use Rattle.std.specs.Prelude.{◌≡◌, ℕ, ◌*◌, ◌<◌, ◌≤◌, Bool, true, List, [], length}
use mathlib.Core.Path.{refl, sym, ap, subst, ◌∙◌}
use native.Mathlib.Omega.{arith}
use borrow.Author.Tests.{lt-ltb, le-ltb}
use Rattle.rules.specs.declared.Answer.{Answer}
use Rattle.rules.specs.declared.Command.{Command}
use Rattle.rules.specs.declared.Core.{Core}
use Rattle.rules.specs.declared.CoreResult.{CoreResult}
use Rattle.rules.specs.declared.Decoded.{Decoded}
use Rattle.rules.specs.declared.Plan.{Plan}
use Rattle.rules.specs.declared.Change.{Change}
use Rattle.rules.specs.Row.{columns}
use Rattle.rules.specs.Search.{guarded_at}
use Rattle.rules.specs.State.{number, width_of, page_length, idle}
use Rattle.rules.specs.RowList.{Beside}
use Rattle.rules.specs.Possible.{screen_ok}
use Rattle.rules.specs.Theorems.Good.{GoodPlan}
use Rattle.rules.specs.Decode.{decode_rule}
use Rattle.rules.specs.Plan.{plan_rule}
use Rattle.rules.specs.Carry.{Effect, effect, quiet, plan_width, carried}
use Rattle.rules.specs.Step.{obeyed, inner_rule}
use Rattle.rules.specs.Room.{over}
use Rattle.rules.proofs.Searching.{length_guards}
use Rattle.rules.proofs.Commands.{kind_of}
use Rattle.rules.proofs.Good.{PlanKept, plan_kept}
use Rattle.page.proofs.RowList.{beside_is}
use Rattle.carry.specs.Carried.{Carried}
use Rattle.carry.specs.Rows.{BesideAfter}
use Rattle.carry.proofs.Carrying.{carried_is}

pub over_none : (w : List ℕ) → w ≡ over [] w
unfolding over
over_none w = refl

pub quiet_carried : (a : Answer) (c : Core) (x : Change) (p w : List ℕ)
    → Carried (effect (number a) c x p []) (record { answer = a; replied = 0; core = c; change = x }) p w w
quiet_carried a c x p w = record {
  answer = refl;
  core = λ z. refl;
  change = refl;
  replied = refl;
  page = refl;
  room = over_none w;
  fits = omega arith;
}

module _ (p : List ℕ) (c : Core) (tabs : List Bool) (b room : ℕ) where
  -- a byte below 80h
  pub below : b < 128 → {d d' : Decoded} → d ≡ decode_rule c.pending b → d ≡ d'
      → inner_rule p c tabs b room ≡ obeyed p c tabs d' room
  unfolding inner_rule
  below h i j = rw (lt-ltb b 128 h) (ap (λ (x : Decoded). obeyed p c tabs x room) (sym i ∙ j))

  -- any other
  pub above : 128 ≤ b → inner_rule p c tabs b room ≡ quiet 1 c p
  unfolding inner_rule
  above h = rw (le-ltb b 128 h)

-- a byte whose effect is o; e is the core that the code made of the one before
pub quietly : {o : Effect} {a : ℕ} {e e' : Core} {x : Change} {p w : List ℕ} {r : CoreResult} → o ≡ effect a e' x p [] → e ≡ e'
    → ((p w : List ℕ) → Carried (effect a e x p []) r p w w) → Carried o r p w w
quietly {a = a} {x = x} {p = p} {w = w} h e q = carried_is (h ∙ ap (λ (y : Core). effect a y x p []) (sym e)) (q p w)

-- the row list after an effect by another name
pub effect_beside : (w : ℕ) {o o' : Effect} {l : List ℕ} → o ≡ o' → BesideAfter w o' l → BesideAfter w o l
effect_beside w h b = beside_is w (sym (ap (λ (x : Effect). guarded_at x.core.modes.protect x.page) h)) b

-- ---- a command

-- n is the core with its sequence cleared, and x the plan that the code made from it
module _ (p : List ℕ) (c : Core) (tabs : List Bool) (d : Command) {n : Core} {x : Plan} (i : n ≡ idle c)
    (h : x ≡ plan_rule (guarded_at n.modes.protect p) tabs n d) where
  e : x ≡ plan_rule (guarded_at c.modes.protect p) tabs (idle c) d
  e = h ∙ ap (λ (y : Core). plan_rule (guarded_at y.modes.protect p) tabs y d) i

  -- the width of the plan is that of the core
  module _ (size : length p ≡ page_length c.screen) (ok : screen_ok c.screen ≡ true) where
    abbrev kept : PlanKept (kind_of d).ok (idle c) (plan_rule (guarded_at c.modes.protect p) tabs (idle c) d)
    kept = plan_kept (idle c) ok (guarded_at c.modes.protect p) (length_guards c.modes.protect p ∙ size) tabs d

    wide : plan_width x ≡ width_of c.screen
    wide = ap columns (ap (λ (y : Plan). y.next.screen.wide) e ∙ kept.wide)

    pub plan_good : (length p ≡ page_length x.next.screen) × GoodPlan x
    plan_good = (size ∙ sym (ap (λ (n : ℕ). 24 * n) wide), subst GoodPlan (sym e) kept.good)

    pub list_asked : {l : List ℕ} → Beside (width_of c.screen) (guarded_at c.modes.protect p) l
        → Beside (plan_width x) (guarded_at c.modes.protect p) l
    list_asked {l} b = subst (λ (n : ℕ). Beside n (guarded_at c.modes.protect p) l) (sym wide) b

    pub plan_beside : (w : List ℕ) {l : List ℕ} → BesideAfter (plan_width x) (carried p c x (length w)) l
        → BesideAfter (width_of c.screen) (carried p c (plan_rule (guarded_at c.modes.protect p) tabs (idle c) d) (length w)) l
    plan_beside w {l} b =
        effect_beside (width_of c.screen) (sym (ap (λ (y : Plan). carried p c y (length w)) e))
        (subst (λ (n : ℕ). BesideAfter n (carried p c x (length w)) l) wide b)

  pub plan_carried : {r : CoreResult} {p' w w' : List ℕ} → Carried (carried p c x (length w)) r p' w w'
      → Carried (carried p c (plan_rule (guarded_at c.modes.protect p) tabs (idle c) d) (length w)) r p' w w'
  plan_carried {w = w} k = carried_is (sym (ap (λ (y : Plan). carried p c y (length w)) e)) k
