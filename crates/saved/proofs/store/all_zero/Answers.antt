-- `saved::store::all_zero` meets its contract.
use mathlib.Core.Path.{◌∙◌}
use Rattle.std.specs.Prelude.{nat_eq}
use Rattle.std.proofs.Common.{rules, tests}
use Rattle.std.proofs.lemmas.Iterator.{YieldsList-from_slice}
use Rattle.std.proofs.lemmas.Iterator.Search.{all_from_yields_List}
use Rattle.saved.proofs.Running.{zero_each}
use Rattle.saved.proofs.store.all_zero.Goals as goal

pub returns : goal.returns
returns c =
    let l = c.args.l.now in
    all_from_yields_List (λ b. nat_eq b 0) _ _ _ c.all.ensures.ran (YieldsList-from_slice l cc) (λ x b q k. search (rules, tests)) ∙ zero_each l
