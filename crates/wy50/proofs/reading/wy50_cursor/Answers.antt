-- `wy50::reading::wy50_cursor` meets its contract.
use mathlib.Core.Path.{◌≡◌, sym, ◌∙◌}
use borrow.Author.Tests.{eq-eqb, ne_eqb}
use Rattle.rules.specs.State.{cursor_of}
use Rattle.wy50.specs.Raw.{unpacked}
use Rattle.wy50.proofs.Calls.{cursor_none, cursor_is}
use Rattle.wy50.proofs.reading.wy50_cursor.Goals.{then-screen-eq0, else-screen-eq0}
use Rattle.wy50.proofs.reading.wy50_cursor.Goals as goal

pub returns-then-not-is_possible : goal.returns-then-not-is_possible
returns-then-not-is_possible c = cursor_none _ (sym c.is_possible.ensures ∙ c.if-not-is_possible.true)

pub returns : goal.returns
unfolding cursor_of unpacked
returns c =
    let screen = c.args.state.screen in
    let at : c.if-screen-eq0.cursor ≡ cursor_of (unpacked c.args.state).core.screen = elim c.if-screen-eq0.branch [
      | then-screen-eq0 w ↦ w.cursor-is ∙ sym (rw (eq-eqb screen.active 0 w.if-screen-eq0.true))
      | else-screen-eq0 w ↦ w.cursor-is ∙ sym (rw (ne_eqb screen.active 0 w.if-screen-eq0.false))
    ] in
    cursor_is c.args.state (c.position_given.ensures ∙ c.position.ensures) (sym c.is_possible.ensures ∙ c.if-not-is_possible.false) c.cells-page.ensures at
