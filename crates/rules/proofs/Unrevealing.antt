-- Plans in protect mode that neither change nor show what a guarded cell holds: every command's but the six excluded ones.
-- Assumes nothing.
use mathlib.Core.Path.{◌≡◌, refl}
use mathlib.Core.Bool.{Bool, true, false}
use mathlib.Core.List.{List}
use lib.Dec.{eqb}
use Rattle.rules.specs.declared.Core.{Core}
use Rattle.rules.specs.declared.Plan.{Plan}
use Rattle.rules.specs.declared.Command.{Command}
use Rattle.rules.specs.Cell.{both}
use Rattle.rules.specs.State.{number}
use Rattle.rules.specs.Plan.{plan_rule}
use Rattle.rules.specs.Theorems.Noninterference.{revealing}
use Rattle.rules.proofs.Related.{spares}
use Rattle.rules.proofs.Commands.{Kind, kind_of}
use Rattle.rules.proofs.Forms.{Form, a_refusal, a_reply, a_change, a_write, formed}

-- protect mode stays on, no guarded cell is written to, and none is replied
pub record Unrevealing (x : Plan) : Type 0 where
  pub on : x.next.modes.protect ≡ true
  pub first : spares x.first ≡ true
  pub second : spares x.second ≡ true
  pub reply : revealing x.reply ≡ false

pub both_false : (t : Bool) → both t false ≡ false
both_false true = refl
both_false false = refl

-- done, so it is none of the six
none_of_six : (t : Bool) → both t true ≡ false → t ≡ false
none_of_six true e = e
none_of_six false e = refl

-- a plan of one of the six is done
of_form : {k : Kind} {g : List Bool} {c : Core} {x : Plan} → both k.excluded (eqb (number x.answer) 0) ≡ false → c.modes.protect ≡ true
    → Form k g c x → Unrevealing x
of_form u on (a_refusal a e) = record { on = on; first = refl; second = refl; reply = refl }
of_form u on (a_reply y e n r i) = record { on = on; first = refl; second = refl; reply = r (none_of_six _ u) }
of_form u on (a_change y e f i) = record { on = on; first = refl; second = refl; reply = refl }
of_form u on (a_write h a b o e i) =
    let o = none_of_six _ u in
    record { on = h.on o on; first = a.sparing o on; second = b.sparing o on; reply = refl }

-- a command that is none of the six, or that is not completed
pub unrevealing : (g tabs : List Bool) (c : Core) → c.modes.protect ≡ true → (d : Command)
    → both (kind_of d).excluded (eqb (number (plan_rule g tabs c d).answer) 0) ≡ false → Unrevealing (plan_rule g tabs c d)
unrevealing g tabs c on d e = of_form e on (formed g c tabs d)
