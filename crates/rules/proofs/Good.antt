-- Every plan stays inside the page: `good_plan`, what carrying it out needs.
-- And it keeps a possible state possible: `plan_kept`, which says also that the sequence stays as it was, that the set-up's change fits,
-- and that no plan answers 6.
-- Assumes nothing.
use mathlib.Core.Path.{◌≡◌, refl, sym}
use mathlib.Core.Bool.{Bool, true, false}
use mathlib.Core.List.{List}
use Prim.Native.Nat.{◌<◌}
use lib.Dec.{eqb}
use lib.ListN.{length}
use Rattle.rules.specs.declared.Core.{Core}
use Rattle.rules.specs.declared.Plan.{Plan}
use Rattle.rules.specs.declared.Answer.{Answer}
use Rattle.rules.specs.declared.Answer.TheVariants as Answer
use Rattle.rules.specs.declared.Command.{Command}
use Rattle.rules.specs.Cell.{between}
use Rattle.rules.specs.State.{number, width_of, page_length}
use Rattle.rules.specs.Possible.{screen_ok, remembered_ok}
use Rattle.rules.specs.Plan.{plan_rule}
use Rattle.rules.specs.Theorems.Good.{GoodPlan, GoodPlans}
use Rattle.rules.proofs.Screens.{screen_inside}
use Rattle.rules.proofs.Commands.{Kind, change_ok, kind_of}
use Rattle.rules.proofs.Forms.{Sound, Form, a_refusal, a_reply, a_change, a_write, formed}

-- what holds of every plan
pub record PlanKept (t : Bool) (c : Core) (x : Plan) : Type 0 where
  pub good : GoodPlan x
  pub wide : x.next.screen.wide ≡ c.screen.wide
  pub pending : x.next.pending ≡ c.pending
  pub bells : c.bells < 256 → x.next.bells < 256
  pub personality : x.next.personality ≡ c.personality
  pub remembered : t ≡ true → remembered_ok c.personality c.attribute ≡ true → remembered_ok x.next.personality x.next.attribute ≡ true
  pub change : t ≡ true → change_ok (width_of c.screen) x.change ≡ true
  pub answer : eqb (number x.answer) 6 ≡ false

-- a refusal is no 6
not_six : (a : Answer) → between 2 4 (number a) ≡ true → eqb (number a) 6 ≡ false
not_six Answer.Done e = refl
not_six Answer.HighByte e = refl
not_six Answer.Unknown e = refl
not_six Answer.BadArgument e = refl
not_six Answer.Barred e = refl
not_six Answer.NoRoom e = sym e
not_six Answer.BadCall e = refl
not_six Answer.Locked e = refl

kept : {k : Kind} {g : List Bool} {c : Core} {x : Plan} → Sound g c → Form k g c x → PlanKept k.ok c x
unfolding change_ok
kept s (a_refusal a e) = record {
  good = record { one = tt; two = tt; reply = tt; screen = s.ok; place = tt };
  wide = refl;
  pending = refl;
  bells = λ h. h;
  personality = refl;
  remembered = λ t h. h;
  change = λ t. refl;
  answer = not_six a e;
}
kept s (a_reply y e n r i) = record {
  good = record { one = tt; two = tt; reply = i s; screen = s.ok; place = tt };
  wide = refl;
  pending = refl;
  bells = λ h. h;
  personality = refl;
  remembered = λ t h. h;
  change = λ t. refl;
  answer = refl;
}
kept s (a_change y e f i) = record {
  good = record { one = tt; two = tt; reply = tt; screen = s.ok; place = tt };
  wide = refl;
  pending = refl;
  bells = λ h. h;
  personality = refl;
  remembered = λ t h. h;
  change = λ t. i t s;
  answer = refl;
}
kept s (a_write h a b o e i) = record {
  good = record { one = a.inside s; two = b.inside s; reply = tt; screen = h.screen s; place = i s };
  wide = h.wide;
  pending = h.pending;
  bells = h.bells;
  personality = h.personality;
  remembered = h.remembered;
  change = λ t. refl;
  answer = refl;
}

module _ (c : Core) (ok : screen_ok c.screen ≡ true) (g : List Bool) (n : length g ≡ page_length c.screen) (tabs : List Bool) (d : Command) where
  pub plan_kept : PlanKept (kind_of d).ok c (plan_rule g tabs c d)
  plan_kept = kept (record { ok = ok; inside = screen_inside c.screen ok; size = n }) (formed g c tabs d)

pub good_plan : GoodPlans
good_plan c ok g n tabs d = (plan_kept c ok g n tabs d).good
