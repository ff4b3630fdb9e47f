-- `plan::plan_for` meets its contract.
use mathlib.Core.Path.{◌∙◌}
use Rattle.rules.specs.Plan.{plan_rule}
use Rattle.rules.proofs.Screens.{screen_inside}
use Rattle.plan.proofs.plan_for.Goals as goal

pub plan_move-requires : goal.plan_move-requires
unfolding plan_rule
plan_move-requires c = (c.requires.0, screen_inside _ c.requires.1.0)

pub plan_store-requires : goal.plan_store-requires
unfolding plan_rule
plan_store-requires c = (c.requires.0, (screen_inside _ c.requires.1.0, c.requires.1.1))

pub plan_attribute-requires : goal.plan_attribute-requires
unfolding plan_rule
plan_attribute-requires c = (c.requires.0, screen_inside _ c.requires.1.0)

pub plan_edit-requires : goal.plan_edit-requires
unfolding plan_rule
plan_edit-requires c = (c.requires.0, screen_inside _ c.requires.1.0)

pub plan_clear-requires : goal.plan_clear-requires
unfolding plan_rule
plan_clear-requires c = screen_inside _ c.requires.1.0

pub returns-in-Nothing : goal.returns-in-Nothing
unfolding plan_rule
returns-in-Nothing c = c.plain.ensures ∙ rw c.in-Nothing.is

pub returns-in-Go : goal.returns-in-Go
unfolding plan_rule
returns-in-Go c = c.plan_move.ensures ∙ rw c.in-Go.is

pub returns-in-Window : goal.returns-in-Window
unfolding plan_rule
returns-in-Window c = c.plan_window.ensures ∙ rw c.in-Window.is

pub returns-in-Store : goal.returns-in-Store
unfolding plan_rule
returns-in-Store c = c.plan_store.ensures ∙ rw c.in-Store.is

pub returns-in-Attribute : goal.returns-in-Attribute
unfolding plan_rule
returns-in-Attribute c = c.plan_attribute.ensures ∙ rw c.in-Attribute.is

pub returns-in-Edit : goal.returns-in-Edit
unfolding plan_rule
returns-in-Edit c = c.plan_edit.ensures ∙ rw c.in-Edit.is

pub returns-in-Clear : goal.returns-in-Clear
unfolding plan_rule
returns-in-Clear c = c.plan_clear.ensures ∙ rw c.in-Clear.is

pub returns-in-Turn : goal.returns-in-Turn
unfolding plan_rule
returns-in-Turn c =
    c.plain-in-Turn.ensures
    ∙ rw (
      c.with_modes.ensures,
      c.with_mode.ensures,
      c.in-Turn.is,
    )

pub returns-in-ProtectOn : goal.returns-in-ProtectOn
unfolding plan_rule
returns-in-ProtectOn c =
    c.settling.ensures
    ∙ rw (
      c.with_modes-in-ProtectOn.ensures,
      c.with_protect.ensures,
      c.cursor_of.ensures,
      c.in-ProtectOn.is,
    )

pub returns-in-Bell : goal.returns-in-Bell
unfolding plan_rule
returns-in-Bell c =
    c.plain-in-Bell.ensures
    ∙ rw (
      c.with_bells.ensures,
      c.next_bell.ensures,
      c.in-Bell.is,
    )

pub returns-in-Set : goal.returns-in-Set
unfolding plan_rule
returns-in-Set c = c.plan_setting.ensures ∙ rw c.in-Set.is

pub returns-in-Send : goal.returns-in-Send
unfolding plan_rule
returns-in-Send c = c.plan_send.ensures ∙ rw c.in-Send.is

pub returns-in-Excluded : goal.returns-in-Excluded
unfolding plan_rule
returns-in-Excluded c = c.plan_excluded.ensures ∙ rw c.in-Excluded.is
