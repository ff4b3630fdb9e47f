-- A plan carried out: what the parts give is what the rules say.
--     carried_is      the effect by another name
--     no_room         a reply is due, and there is no room
--     begun_out       it begins
--     carried_out     no reply is due
--     no_room_beside, begun_beside, carried_beside     the row list after each
-- Assumes nothing.
use Rattle.std.specs.Prelude.{◌≡◌, ℕ, Bool, true, false, List, length}
use mathlib.Core.Path.{refl, sym, ap, ap₂, subst, ◌∙◌}
use mathlib.Core.Bool.{false≢true}
use Prim.Native.Nat.{zero-le}
use borrow.Author.Tests.{eq-eqb, ne_eqb}
use Rattle.rules.specs.Search.{guarded_at}
use Rattle.rules.specs.Carry.{Effect, quiet, applied, plan_width, landed, done, begun, carried}
use Rattle.rules.specs.Room.{over}
use Rattle.rules.specs.declared.Core.{Core}
use Rattle.rules.specs.declared.Land.{Land}
use Rattle.rules.specs.declared.Modes.{Modes}
use Rattle.rules.specs.declared.Plan.{Plan}
use Rattle.rules.specs.declared.Sending.{Sending}
use Rattle.rules.specs.declared.CoreResult.{CoreResult}
use Rattle.rules.specs.declared.Change.TheVariants as Change
use Rattle.rules.specs.State.{sends, unchanged}
use Rattle.rules.specs.declared.Answer.TheVariants as Answer
use Rattle.rules.specs.RowList.{Beside}
use Rattle.page.proofs.RowList.{beside_is}
use Rattle.carry.specs.Carried.{Carried}
use Rattle.carry.specs.Rows.{BesideAfter}
use Rattle.carry.specs.Went.{Went}
use Rattle.carry.proofs.Went.{went_fits}

pub carried_is : {e e' : Effect} {r : CoreResult} {p w w' : List ℕ} → e ≡ e' → Carried e' r p w w' → Carried e r p w w'
carried_is {e} {e'} {r} {p} {w} {w'} h k = subst (λ (x : Effect). Carried x r p w w') (sym h) k

landed_modes : (g : List Bool) (l : Land) (c : Core) → (landed g l c).modes ≡ c.modes
unfolding landed
landed_modes g Land.Stay c = refl
landed_modes g (Land.Settle i) c = refl

module _ (p : List ℕ) (c : Core) (x : Plan) (w : List ℕ) where
  -- a reply is due
  module _ (h : sends x.reply ≡ true) where
    pub no_room : length w ≡ 0
        → Carried (carried p c x (length w)) (record { answer = Answer.NoRoom; replied = 0; core = x.next; change = unchanged }) p w w
    unfolding carried over
    no_room e =
        carried_is {e' = quiet 6 c p} (rw (h, eq-eqb (length w) 0 e))
        (record { answer = refl; core = λ z. absurd (false≢true (sym z)); change = refl; replied = refl; page = refl; room = refl; fits = zero-le })

    pub no_room_beside : length w ≡ 0 → {l : List ℕ} → Beside (plan_width x) (guarded_at c.modes.protect p) l
        → BesideAfter (plan_width x) (carried p c x (length w)) l
    unfolding carried
    no_room_beside e b = rw (h, eq-eqb (length w) 0 e) b

    module _ (e : length w ≡ 0 → ⊥) where
      pub begun_out : {n : ℕ} {y : Sending} {w' : List ℕ} → Went p x.next x.reply w n y w'
          → Carried (carried p c x (length w)) (record { answer = x.answer; replied = n; core = x.next; change = Change.Send y }) p w w'
      unfolding carried begun
      begun_out g =
          carried_is {e' = begun p x (length w)} (rw (h, ne_eqb (length w) 0 e))
          (record {
            answer = refl;
            core = λ z. refl;
            change = ap Change.Send g.left;
            replied = g.replied;
            page = refl;
            room = g.room;
            fits = rw g.replied (went_fits p x.next x.reply w);
          })

      pub begun_beside : {m : ℕ} → m ≡ plan_width x → {l : List ℕ} → Beside m (guarded_at x.next.modes.protect p) l
          → BesideAfter (plan_width x) (carried p c x (length w)) l
      unfolding carried begun
      begun_beside wide b = rw (← wide, h, ne_eqb (length w) 0 e) b

  -- none is
  module _ (h : sends x.reply ≡ false) {m : ℕ} (wide : m ≡ plan_width x) where
    pub carried_beside : {p' l : List ℕ} → p' ≡ applied m c.modes.protect x.second (applied m c.modes.protect x.first p)
        → Beside m (guarded_at x.next.modes.protect p') l → BesideAfter (plan_width x) (carried p c x (length w)) l
    unfolding carried done
    carried_beside k b =
        rw (← wide, h) (beside_is m (ap₂ (λ (o : Modes) (q : List ℕ). guarded_at o.protect q) (sym (landed_modes _ x.land x.next)) k) b)

    pub carried_out : {p₁ p₂ : List ℕ} {c' : Core} → p₁ ≡ applied m c.modes.protect x.first p
        → p₂ ≡ applied m c.modes.protect x.second p₁
        → c' ≡ landed (guarded_at x.next.modes.protect p₂) x.land x.next
        → Carried (carried p c x (length w)) (record { answer = x.answer; replied = 0; core = c'; change = Change.Set x.change }) p₂ w w
    unfolding carried done over
    carried_out h₁ h₂ hc =
        carried_is {e' = done c.modes.protect p x} (rw (← wide, h))
        (record {
          answer = refl;
          core = λ z. rw (hc, h₂, h₁, ← wide);
          change = refl;
          replied = refl;
          page = rw (← wide) (h₂ ∙ ap (applied m c.modes.protect x.second) h₁);
          room = refl;
          fits = zero-le;
        })
