-- A byte changes no part of the state that its command's row does not list.
--     frames     the statement
-- Assumes nothing.
use mathlib.Core.Path.{◌≡◌, refl, sym, ◌∙◌, subst}
use mathlib.Core.Bool.{Bool, true, false}
use mathlib.Core.List.{List}
use Prim.Native.Nat.{ℕ}
use lib.Dec.{ltb, eqb}
use lib.ListN.{take}
use Rattle.rules.specs.declared.Core.{Core}
use Rattle.rules.specs.declared.Setup.{Setup}
use Rattle.rules.specs.declared.State.{State}
use Rattle.rules.specs.declared.Plan.{Plan}
use Rattle.rules.specs.declared.Write.TheVariants as Write
use Rattle.rules.specs.declared.Land.{Land}
use Rattle.rules.specs.declared.Land.TheVariants as Land
use Rattle.rules.specs.declared.Pending.{Pending}
use Rattle.rules.specs.declared.Pending.TheVariants as Pending
use Rattle.rules.specs.declared.Screen.{Screen}
use Rattle.rules.specs.declared.Command.{Command}
use Rattle.rules.specs.declared.Decoded.{Decoded}
use Rattle.rules.specs.declared.Decoded.TheVariants as Decoded
use Rattle.rules.specs.Cell.{pick}
use Rattle.rules.specs.Search.{guarded_at}
use Rattle.rules.specs.State.{awaiting, idle, sends, with_cursor, setup_after, changed}
use Rattle.rules.specs.Possible.{good}
use Rattle.rules.specs.Decode.{decode_rule}
use Rattle.rules.specs.Plan.{plan_rule}
use Rattle.rules.specs.Carry.{Effect, applied, landed, done, begun, carried}
use Rattle.rules.specs.Step.{Outcome, obeyed, inner_rule, goes_on, step_inside, step_rule}
use Rattle.rules.specs.Calls.{of_press, call_rule}
use Rattle.rules.specs.Theorems.Parts.{Part, value, is_listed}
use Rattle.rules.specs.Theorems.Parts as Part
use Rattle.rules.proofs.Areas.{step_outside}
use Rattle.rules.specs.Theorems.Frames.{changes, command_parts, slot_parts, SamePart, Frames}
use Rattle.rules.proofs.Tests.{pick_if}
use Rattle.rules.proofs.Framing.{never, ScreenKept, CoreKept, same_modes, same_screen, same_core, framed, kept_on, SetupKept, ChangeKept}
use Rattle.rules.proofs.Framing.{no_change, setup_framed, page_framed, stored_keeps}
use Rattle.rules.proofs.Commands.{Kind}
use Rattle.rules.proofs.Forms.{Form, a_refusal, a_reply, a_change, a_write, formed}

-- ---- of a plan

record PlanKept (l : List Part) (c : Core) (x : Plan) : Type 0 where
  next : CoreKept l x.next.screen.active c x.next
  land : is_listed Part.Cursor l ≡ false → x.land ≡ Land.Stay
  change : ChangeKept l x.change
  first : is_listed Part.page l ≡ false → x.first ≡ Write.Nothing
  second : is_listed Part.page l ≡ false → x.second ≡ Write.Nothing

of_form : {k : Kind} {g : List Bool} {c : Core} {x : Plan} → Form k g c x → PlanKept k.touches c x
of_form (a_refusal a e) = record { next = same_core; land = λ h. refl; change = no_change; first = λ h. refl; second = λ h. refl }
of_form (a_reply y e n r i) = record { next = same_core; land = λ h. refl; change = no_change; first = λ h. refl; second = λ h. refl }
of_form (a_change y e f i) = record { next = same_core; land = λ h. refl; change = f; first = λ h. refl; second = λ h. refl }
of_form (a_write h a b o e i) = record { next = h.kept; land = e; change = no_change; first = λ z. (o z).0; second = λ z. (o z).1 }

-- ---- of what a byte comes to

-- a sequence under way is no part
waiting : {l : List Part} {n : ℕ} {c : Core} (q : Pending) → CoreKept l n c (awaiting c q)
waiting q = framed same_modes same_screen (λ h. refl) (λ h. refl) refl

-- the other cursor stays where the active one is set
other_stays : (t : Bool) (n a b : ℕ) → pick t (pick t b n) (pick t n a) ≡ pick t b a
other_stays true n a b = refl
other_stays false n a b = refl

cursor_set : {l : List Part} (x : Screen) (n : ℕ) → is_listed Part.Cursor l ≡ true → ScreenKept l x.active x (with_cursor x n)
unfolding with_cursor
cursor_set x n a = record {
  wide = refl;
  active = λ h. refl;
  split = λ h. refl;
  cursor = never a;
  other = λ h. other_stays (eqb x.active 0) n x.cursor0 x.cursor1;
}

settled_kept : {l : List Part} (g : List Bool) (y : Land) (m : Core) → is_listed Part.Cursor l ≡ true → CoreKept l m.screen.active m (landed g y m)
unfolding landed
settled_kept g Land.Stay m a = same_core
settled_kept g (Land.Settle i) m a = framed same_modes (cursor_set m.screen _ a) (λ h. refl) (λ h. refl) refl

landed_kept : {l : List Part} (g : List Bool) (y : Land) (m : Core) → (is_listed Part.Cursor l ≡ false → y ≡ Land.Stay)
    → CoreKept l m.screen.active m (landed g y m)
unfolding landed
landed_kept {l = l} g y m h = by (is_listed Part.Cursor l) refl
  where
    by : (t : Bool) → is_listed Part.Cursor l ≡ t → CoreKept l m.screen.active m (landed g y m)
    by true e = settled_kept g y m e
    by false e = rw (h e) same_core

landed_active : (g : List Bool) (y : Land) (m : Core) → (landed g y m).screen.active ≡ m.screen.active
unfolding landed with_cursor
landed_active g Land.Stay m = refl
landed_active g (Land.Settle i) m = refl

-- what a byte leaves of the core and the set-up
record EffectKept (l : List Part) (p : List ℕ) (c : Core) (g : List ℕ) (e : Effect) : Type 0 where
  core : CoreKept l e.core.screen.active c e.core
  setup : (u : Setup) → SetupKept l u (setup_after e.change g u)
  page : is_listed Part.page l ≡ false → e.page ≡ p

still_setup : {l : List Part} {u : Setup} → SetupKept l u u
unfolding changed
still_setup {u = u} = no_change u

module _ (p : List ℕ) (c : Core) (g : List ℕ) (room : ℕ) where
  carried_kept : {l : List Part} (x : Plan) → PlanKept l (idle c) x → EffectKept l p c g (carried p c x room)
  unfolding carried begun done setup_after applied
  carried_kept {l = l} x h =
      pick_if (EffectKept l p c g) (sends x.reply)
      (λ d. pick_if (EffectKept l p c g) (eqb room 0)
      (λ e. record { core = same_core; setup = no_change; page = λ z. refl })
      (λ e. record { core = next; setup = λ u. still_setup; page = λ z. refl }))
      (λ d. record { core = landing _; setup = h.change; page = λ z. rw (h.first z, h.second z) })
    where
      next : CoreKept l x.next.screen.active c x.next
      next = kept_on (waiting Pending.Idle) h.next

      landing : (f : List Bool) → CoreKept l (landed f x.land x.next).screen.active c (landed f x.land x.next)
      landing f =
          subst (λ (i : ℕ). CoreKept l i c (landed f x.land x.next)) (sym (landed_active f x.land x.next))
          (kept_on next (landed_kept f x.land x.next h.land))

  obeyed_kept : (tabs : List Bool) (d : Decoded) → EffectKept (changes d) p c g (obeyed p c tabs d room)
  unfolding obeyed setup_after
  obeyed_kept tabs (Decoded.Wait q) = record { core = waiting q; setup = no_change; page = λ z. refl }
  obeyed_kept tabs (Decoded.Gather x n b) = record { core = waiting _; setup = λ u. still_setup; page = λ z. refl }
  obeyed_kept tabs (Decoded.Take x n) = record { core = waiting _; setup = λ u. stored_keeps x (take n g) u; page = λ z. refl }
  obeyed_kept tabs (Decoded.Reject a) = record { core = waiting _; setup = no_change; page = λ z. refl }
  obeyed_kept tabs (Decoded.Do d) = carried_kept _ (of_form (formed (guarded_at c.modes.protect p) (idle c) tabs d))

-- ---- of a step

byte_kept : (p : List ℕ) (s : State) (b room : ℕ)
    → EffectKept (changes (decode_rule s.core.pending b)) p s.core s.gathered (inner_rule p s.core s.setup.tabs b room)
unfolding inner_rule setup_after
byte_kept p s b room =
    pick_if (EffectKept (changes (decode_rule s.core.pending b)) p s.core s.gathered) (ltb b 128)
    (λ e. obeyed_kept p s.core s.gathered room s.setup.tabs (decode_rule s.core.pending b))
    (λ e. record { core = same_core; setup = no_change; page = λ z. refl })

step_kept : (p : List ℕ) (s : State) (b room : ℕ) (x : Part) → is_listed x (changes (decode_rule s.core.pending b)) ≡ false
    → SamePart x p s (step_rule p s b room).page (step_rule p s b room).state
unfolding step_rule step_inside goes_on
step_kept p s b room x h =
    pick_if (λ (o : Outcome). SamePart x p s o.page o.state) (good p s)
    (λ e. pick_if (λ (o : Outcome). SamePart x p s o.page o.state) (sends s.sending)
    (λ u. pick_if (λ (o : Outcome). SamePart x p s o.page o.state) (eqb room 0) (λ z. refl) (λ z. refl))
    (λ u.
    let k = byte_kept p s b room in
    page_framed (changes (decode_rule s.core.pending b)) k.page x h _ _ _ ∙ setup_framed (k.setup s.setup) x h _ _ p
    ∙ k.core.part x h s.setup p))
    (λ e. refl)

pub frames : Frames
unfolding call_rule of_press
frames = record { step = step_kept; cells = step_outside; press = λ p s v room x. refl }
