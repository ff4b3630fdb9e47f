-- `saved::feeding::has_bytes` meets its contract.
use mathlib.Core.Path.{ap, ◌∙◌}
use mathlib.Core.List.{List}
use Prim.Native.Nat.{ℕ}
use native.Mathlib.Omega.{arith}
use Rattle.rules.specs.Cell.{same}
use Rattle.saved.proofs.Running.{front_part, same_each}
use Rattle.saved.proofs.feeding.has_bytes.Goals as goal

pub encode-n-requires : goal.encode-n-requires
encode-n-requires c = (c.requires, omega arith)

pub returns : goal.returns
returns c =
    c.eq.ensures ∙ (same_each _ _
    ∙ ap (λ (l : List ℕ). same c.args.bytes.now l) (front_part c.encode-n.ensures.0 (omega (arith, c.encode-n.ensures.1))))
