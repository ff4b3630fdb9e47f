-- `repaint::feeding::paints` meets its contract: what the run gives is the rules' own.
use mathlib.Core.Path.{refl, sym, ap, ◌∙◌}
use Rattle.std.specs.Prelude.{Bool, length}
use Rattle.rules.specs.Cell.{both}
use Rattle.repaint.specs.Pass.{equal}
use Rattle.repaint.proofs.Leading.{paints_made}
use Rattle.repaint.proofs.feeding.paints.Goals as goal

pub returns-then-is_clean : goal.returns-then-is_clean
returns-then-is_clean c =
    let x = c.args in
    let t = c.run-t.ensures in
    paints_made x.personality x.wide x.before.now x.after.now x.bytes.now
    c.requires.0.1 c.copy_from_slice.ensures.after c.power_on_at.ensures refl t.answer t.taken t.refused
    t.page c.is_clean.ensures
    c.same_cells.ensures (sym (ap (λ (b : Bool). both b c.same_cells.result) c.if-is_clean.true))

pub returns-else-is_clean : goal.returns-else-is_clean
returns-else-is_clean c =
    let x = c.args in
    let t = c.run-t.ensures in
    paints_made x.personality x.wide x.before.now x.after.now x.bytes.now
    c.requires.0.1 c.copy_from_slice.ensures.after c.power_on_at.ensures refl t.answer t.taken t.refused
    t.page c.is_clean.ensures
    refl (let e = c.if-is_clean.false in e ∙ sym (ap (λ (b : Bool). both b (equal c.run-t.new.page x.after.now 0 (length x.after.now))) e))
