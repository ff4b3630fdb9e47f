-- `carry::writes::touched` meets its contract.
use mathlib.Core.Path.{refl}
use mathlib.Core.Logic.{⊎_elim}
use native.Mathlib.Omega.{arith}
use Rattle.std.specs.Prelude.{◌≡◌, ℕ, Bool}
use Rattle.rules.specs.declared.Write.{Write}
use Rattle.rules.specs.Row.{columns}
use Rattle.rules.proofs.Rows.{columns_width, width_range}
use Rattle.carry.specs.Rows.{touched_top, touched_bottom}
use Rattle.carry.proofs.writes.touched.Goals as goal

pub overflow_sub-columns : goal.overflow_sub-columns
overflow_sub-columns c = omega (arith, width_range (columns_width c.args.wide))

pub overflow_add-to : goal.overflow_add-to
overflow_add-to c = omega (arith, width_range (columns_width c.args.wide))

pub returns-in-Nothing : goal.returns-in-Nothing
unfolding touched_top touched_bottom
returns-in-Nothing c = rw c.in-Nothing.is (refl, refl)

pub returns-in-Fill : goal.returns-in-Fill
unfolding touched_top touched_bottom
returns-in-Fill c = rw c.in-Fill.is (c.row_of.ensures, rw c.columns.ensures at c.row_of-in-Fill.ensures)

pub returns-in-Edit : goal.returns-in-Edit
unfolding touched_top touched_bottom
returns-in-Edit c = rw c.in-Edit.is (c.row_of-top.ensures, rw c.row_of-top.ensures)

pub returns-in-FillAll : goal.returns-in-FillAll
unfolding touched_top touched_bottom
returns-in-FillAll c =
    let w = c.args.w in
    let Whole : Type 0 = (0 ≡ touched_top (columns c.args.wide) w) × (24 ≡ touched_bottom (columns c.args.wide) w) in
    let all : (a : ℕ) × (e : ℕ) × (v : ℕ) × (w ≡ Write.FillAll a e v) → Whole = λ h. rw h.3 (refl, refl) in
    let column : (a : ℕ) × (e : ℕ) × (k : ℕ) × (v : ℕ) × (w ≡ Write.Column a e k v) → Whole = λ h. rw h.4 (refl, refl) in
    let rows : (down : Bool) × (top : ℕ) × (bottom : ℕ) × (w ≡ Write.Rows down top bottom) → Whole = λ h. rw h.3 (refl, refl) in
    ⊎_elim all (⊎_elim column rows) c.in-FillAll.is
