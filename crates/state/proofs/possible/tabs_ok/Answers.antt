-- `state::possible::tabs_ok` meets its contract. The loop: no stop was seen, and the tab stops from i on decide.
use Rattle.std.specs.Prelude.{◌≡◌, suc, ◌<◌, ◌≤◌, Bool, true, false, not, ◌&&◌, length, get_or, drop}
use mathlib.Core.Path.{refl, sym, ◌∙◌}
use native.Mathlib.Numerals.{add-one}
use borrow.Author.Rules.{rules}
use lib.ListN.{drop_of_length-le}
use lib.Seq.{drop-cons}
use Rattle.rules.specs.Cell.{both}
use Rattle.rules.specs.Possible.{no_stops}
use Rattle.state.proofs.possible.tabs_ok.Goals as goal

both_both : (a b c : Bool) → both a (both b c) ≡ both (a && b) c
both_both true b c = refl
both_both false b c = refl

both_end : (a : Bool) → both a true ≡ a
both_end true = refl
both_end false = refl

pub loop-i-preserved : goal.loop-i-preserved
unfolding no_stops
loop-i-preserved c =
    let x = c.loop-i in
    let tabs = c.args.tabs in
    let h : x.i < length tabs = search rules in
    x.invariant
    ∙ rw (drop-cons tabs x.i false h, add-one) (both_both x.none (not (get_or tabs x.i false)) (no_stops (drop (suc x.i) tabs)))

pub returns : goal.returns
unfolding no_stops
returns c =
    let x = c.loop-i in
    let tabs = c.args.tabs in
    let h : length tabs ≤ x.i = search rules in
    sym (x.invariant ∙ rw (drop_of_length-le tabs h) (both_end x.none))
