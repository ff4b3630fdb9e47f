-- A plan is done and replies nothing, or it replies and asks for nothing else, or it refuses with 2 to 4 and asks for nothing.
--     planned     with the command that a reply answers
-- Assumes nothing.
use mathlib.Core.Path.{◌≡◌, refl}
use mathlib.Core.Bool.{Bool, true}
use mathlib.Core.List.{List}
use Prim.Native.Nat.{ℕ}
use Rattle.rules.specs.declared.Core.{Core}
use Rattle.rules.specs.declared.Plan.{Plan}
use Rattle.rules.specs.declared.Sending.{Sending}
use Rattle.rules.specs.declared.Sending.TheVariants as Sending
use Rattle.rules.specs.declared.Answer.{Answer}
use Rattle.rules.specs.declared.Answer.TheVariants as Answer
use Rattle.rules.specs.declared.Command.{Command}
use Rattle.rules.specs.Cell.{between}
use Rattle.rules.specs.State.{number, sends}
use Rattle.rules.specs.Send.{command_of}
use Rattle.rules.specs.Plan.{refusing, replying, plan_rule}
use Rattle.rules.proofs.Commands.{Kind, kind_of}
use Rattle.rules.proofs.Forms.{Form, a_refusal, a_reply, a_change, a_write, formed}

-- n is the command that a reply answers
pub data Planned (n : ℕ) (c : Core) : Plan → Type 0 where
  obeys : {x : Plan} → x.answer ≡ Answer.Done → x.reply ≡ Sending.Nothing → Planned n c x
  replies : (y : Sending) → sends y ≡ true → command_of y ≡ n → Planned n c (replying c y)
  refuses : (a : Answer) → between 2 4 (number a) ≡ true → Planned n c (refusing c a)

of_form : {k : Kind} {g : List Bool} {c : Core} {x : Plan} → Form k g c x → Planned k.asks c x
of_form (a_refusal a e) = refuses a e
of_form (a_reply y e n r i) = replies y e n
of_form (a_change y e f i) = obeys refl refl
of_form (a_write h a b o e i) = obeys refl refl

pub planned : (c : Core) (g tabs : List Bool) (d : Command) → Planned (kind_of d).asks c (plan_rule g tabs c d)
planned c g tabs d = of_form (formed g c tabs d)
