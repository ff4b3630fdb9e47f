-- `plan::sends::plan_send` meets its contract.
use mathlib.Core.Path.{◌∙◌}
use native.Mathlib.Omega.{arith}
use Rattle.rules.specs.Plan.{unless_guarded, send_plan}
use Rattle.plan.proofs.Ranges.{cursor_below}
use Rattle.plan.proofs.sends.plan_send.Goals as goal

pub guarded_at-requires : goal.guarded_at-requires
unfolding send_plan unless_guarded
guarded_at-requires c = omega (arith, c.requires.0, cursor_below _ c.requires.1 c.cursor_of.ensures)

pub returns-then-guarded_at : goal.returns-then-guarded_at
unfolding send_plan unless_guarded
returns-then-guarded_at c = c.refusing.ensures ∙ rw (c.in-Cell.is, ← c.cursor_of.ensures, ← c.guarded_at.ensures, c.if-guarded_at.true)

pub returns-in-Acknowledge : goal.returns-in-Acknowledge
unfolding send_plan unless_guarded
returns-in-Acknowledge c = c.short.ensures ∙ rw c.in-Acknowledge.is

pub returns-in-Identity : goal.returns-in-Identity
unfolding send_plan unless_guarded
returns-in-Identity c = c.short-in-Identity.ensures ∙ rw c.in-Identity.is

pub returns-in-Cursor : goal.returns-in-Cursor
unfolding send_plan unless_guarded
returns-in-Cursor c = c.narrowly.ensures ∙ rw c.in-Cursor.is

pub returns-in-SegmentCursor : goal.returns-in-SegmentCursor
unfolding send_plan unless_guarded
returns-in-SegmentCursor c = c.narrowly-in-SegmentCursor.ensures ∙ rw c.in-SegmentCursor.is

pub returns-in-DecimalCursor : goal.returns-in-DecimalCursor
unfolding send_plan unless_guarded
returns-in-DecimalCursor c = c.short-in-DecimalCursor.ensures ∙ rw c.in-DecimalCursor.is

pub returns-else-guarded_at : goal.returns-else-guarded_at
unfolding send_plan unless_guarded
returns-else-guarded_at c = c.short-in-Cell.ensures ∙ rw (c.in-Cell.is, ← c.cursor_of.ensures, ← c.guarded_at.ensures, c.if-guarded_at.false)

pub returns-in-OpenRow : goal.returns-in-OpenRow
unfolding send_plan unless_guarded
returns-in-OpenRow c = c.text.ensures ∙ rw c.in-OpenRow.is

pub returns-in-OpenSegment : goal.returns-in-OpenSegment
unfolding send_plan unless_guarded
returns-in-OpenSegment c = c.text-in-OpenSegment.ensures ∙ rw c.in-OpenSegment.is
