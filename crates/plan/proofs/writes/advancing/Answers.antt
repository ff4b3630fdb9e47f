-- `plan::writes::advancing` meets its contract.
use mathlib.Core.Path.{◌∙◌}
use borrow.Author.Tests.{lt-ltb, le-ltb}
use Rattle.rules.specs.Plan.{advancing}
use Rattle.plan.proofs.writes.advancing.Goals as goal

pub returns-then-at-end : goal.returns-then-at-end
unfolding advancing
returns-then-at-end c = c.writing.ensures ∙ rw (← c.cursor_of-at.ensures, ← c.segment_end-end.ensures, lt-ltb _ _ c.if-at-end.true)

pub returns-then-scrolls : goal.returns-then-scrolls
unfolding advancing
returns-then-scrolls c =
    c.writing_two.ensures
    ∙ rw (
      c.scroll.ensures,
      ← c.cursor_of-at.ensures,
      ← c.segment_end-end.ensures,
      le-ltb _ _ c.if-at-end.false,
      ← c.scrolls.ensures,
      c.if-scrolls.true,
      c.width_of.ensures,
    )

pub returns : goal.returns
unfolding advancing
returns c =
    c.writing-2.ensures
    ∙ rw (
      c.segment_start.ensures,
      ← c.cursor_of-at.ensures,
      ← c.segment_end-end.ensures,
      le-ltb _ _ c.if-at-end.false,
      ← c.scrolls.ensures,
      c.if-scrolls.false,
    )
