-- `terminal::fast::turn` meets its contract.
use mathlib.Core.Path.{refl}
use Rattle.terminal.proofs.FastPaths.{passes_range}
use native.Mathlib.Omega.{arith}
use Rattle.terminal.proofs.fast.turn.Goals as goal

pub bounds-input-i : goal.bounds-input-i
bounds-input-i c = c.requires.1.1

pub escape-requires : goal.escape-requires
escape-requires c = let p = c.requires in (p.0, (p.1.0, (p.1.1, c.if-input-i-eq27.true)))

pub shape_of-page-then-input-i-eq27 : goal.shape_of-page-then-input-i-eq27
shape_of-page-then-input-i-eq27 c =
    let p = c.requires in (passes_range c.escape.ensures.0
    (omega (arith, p.1.1)) p.1.0).size

pub returns-then-input-i-eq27 : goal.returns-then-input-i-eq27
returns-then-input-i-eq27 c = c.escape.ensures

pub go-reached-requires : goal.go-reached-requires
go-reached-requires c = c.requires

pub shape_of-page : goal.shape_of-page
shape_of-page c =
    let p = c.requires in (passes_range c.go-reached.ensures
    (omega (arith, p.1.1)) p.1.0).size

pub returns : goal.returns
returns c = (c.go-reached.ensures, λ z. refl)
