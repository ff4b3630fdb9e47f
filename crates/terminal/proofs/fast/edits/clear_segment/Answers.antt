-- `terminal::fast::edits::clear_segment` meets its contract.
use mathlib.Core.Path.{sym, ◌∙◌}
use native.Mathlib.Omega.{arith}
use Rattle.terminal.specs.FastPath.{clears_all}
use Rattle.terminal.proofs.fast.edits.clear_segment.Goals as goal

pub is_guarded_at-requires : goal.is_guarded_at-requires
is_guarded_at-requires c = let f = c.requires in omega (arith, f.inside, f.first)

pub clear-requires : goal.clear-requires
clear-requires c = let f = c.requires in (omega (arith, f.first, f.inside, f.size), omega (arith, f.inside, f.size))

pub returns : goal.returns
returns c at b s v e =
    rw (c.clear.ensures, v) (c.requires.first, clears_all s e (sym c.is_guarded_at.ensures ∙ c.if-is_guarded_at.false))
