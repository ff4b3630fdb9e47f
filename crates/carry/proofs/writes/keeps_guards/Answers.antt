-- `carry::writes::keeps_guards` meets its contract.
use mathlib.Core.Logic.{⊎_elim}
use Rattle.std.specs.Prelude.{◌≡◌, ℕ, Bool, not}
use Rattle.rules.specs.declared.Write.{Write}
use Rattle.carry.specs.Rows.{keeps_guards}
use Rattle.carry.proofs.writes.keeps_guards.Goals as goal

pub returns-in-Nothing : goal.returns-in-Nothing
unfolding keeps_guards
returns-in-Nothing c = rw c.in-Nothing.is

pub returns-in-Fill : goal.returns-in-Fill
unfolding keeps_guards
returns-in-Fill c =
    let v = c.in-Fill.value in
    let Kept : Type 0 = not c.is_guarded.result ≡ keeps_guards c.args.on c.args.w in
    let fill : (a : ℕ) × (e : ℕ) × (c.args.w ≡ Write.Fill a e v) → Kept = λ h. rw (h.2, c.is_guarded.ensures) in
    let column : (a : ℕ) × (e : ℕ) × (k : ℕ) × (c.args.w ≡ Write.Column a e k v) → Kept = λ h. rw (h.3, c.is_guarded.ensures) in
    let edit : (right : Bool) × (at : ℕ) × (c.args.w ≡ Write.Edit right at v) → Kept = λ h. rw (h.2, c.is_guarded.ensures) in
    ⊎_elim fill (⊎_elim column edit) c.in-Fill.is

pub returns-in-FillAll : goal.returns-in-FillAll
unfolding keeps_guards
returns-in-FillAll c =
    let Kept : Type 0 = not c.args.on ≡ keeps_guards c.args.on c.args.w in
    let all : (a : ℕ) × (e : ℕ) × (v : ℕ) × (c.args.w ≡ Write.FillAll a e v) → Kept = λ h. rw h.3 in
    let rows : (down : Bool) × (top : ℕ) × (bottom : ℕ) × (c.args.w ≡ Write.Rows down top bottom) → Kept = λ h. rw h.3 in
    ⊎_elim all rows c.in-FillAll.is
