-- `terminal::fast::edits::edit_cell` meets its contract.
use mathlib.Core.Path.{sym, ◌∙◌}
use native.Mathlib.Omega.{arith}
use Rattle.terminal.specs.FastPath.{edits_cell}
use Rattle.terminal.proofs.fast.edits.edit_cell.Goals as goal

pub is_guarded_at-requires : goal.is_guarded_at-requires
is_guarded_at-requires c = let p = c.requires in omega (arith, p.1, p.0.inside)

pub overflow_cast-w : goal.overflow_cast-w
overflow_cast-w c = let p = c.requires in omega (arith, p.1, p.0.inside, p.0.size)

pub returns : goal.returns
returns c b e = (c.requires.1, edits_cell c.args.right e (sym c.is_guarded_at.ensures ∙ c.if-is_guarded_at.false))
