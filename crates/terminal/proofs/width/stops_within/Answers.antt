-- `terminal::width::stops_within` meets its contract.
use Rattle.std.specs.Prelude.{◌≡◌, ℕ, ◌≤◌, length}
use mathlib.Core.Path.{ap, ◌∙◌}
use borrow.Author.Rules.{rules}
use Rattle.rules.specs.Convert.{stops_within}
use Rattle.terminal.proofs.Converting.{stops_filled, columns_most}
use Rattle.terminal.proofs.width.stops_within.Goals as goal

pub slice_bounds-fill-count : goal.slice_bounds-fill-count
slice_bounds-fill-count c = rw c.columns.ensures (columns_most c.args.wide)

pub slice_bounds-t-start : goal.slice_bounds-t-start
slice_bounds-t-start c = rw c.columns.ensures (columns_most c.args.wide)

pub returns : goal.returns
returns c =
    let tabs = c.args.tabs in
    let n : length tabs ≡ 132 = search rules in
    let most : c.columns.result ≤ 132 = rw c.columns.ensures (columns_most c.args.wide) in
    stops_filled _ tabs n most (c.fill.ensures.after (λ y e. e)) ∙ ap (λ (w : ℕ). stops_within w tabs) c.columns.ensures
