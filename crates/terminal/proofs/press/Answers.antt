-- `terminal::press` meets its contract.
use Rattle.std.specs.Prelude.{◌≡◌, true, false}
use mathlib.Core.Path.{sym, ◌∙◌}
use Rattle.rules.specs.Possible.{good}
use Rattle.rules.specs.Arguments.{is_key}
use Rattle.rules.specs.State.{sends}
use Rattle.terminal.proofs.Calls.{press_bad, press_locked, press_unknown, press_waits, press_sends, key_size}
use Rattle.terminal.proofs.press.Goals as goal

pub returns-then-not-is_good : goal.returns-then-not-is_good
returns-then-not-is_good c = press_bad _ _ _ _ (sym c.is_good.ensures ∙ c.if-not-is_good.true)

pub returns-then-state : goal.returns-then-state
returns-then-state c =
    let fine : good c.args.page.now c.args.state ≡ true =
    sym c.is_good.ensures ∙ c.if-not-is_good.false in
    press_locked _ _ _ _ (fine) c.if-state.true

pub returns-then-not-is_key : goal.returns-then-not-is_key
returns-then-not-is_key c =
    let fine : good c.args.page.now c.args.state ≡ true =
    sym c.is_good.ensures ∙ c.if-not-is_good.false in
    press_unknown _ _ _ _ (fine) c.if-state.false (sym c.is_key.ensures ∙ c.if-not-is_key.true)

pub returns-then-is_sending : goal.returns-then-is_sending
returns-then-is_sending c =
    let fine : good c.args.page.now c.args.state ≡ true =
    sym c.is_good.ensures ∙ c.if-not-is_good.false in
    let key : is_key c.args.key ≡ true =
    sym c.is_key.ensures ∙ c.if-not-is_key.false in
    press_waits _ _ _ _ (fine) c.if-state.false (key) (sym c.is_sending.ensures ∙ c.if-is_sending.true)

pub key_at-requires : goal.key_at-requires
key_at-requires c =
    let key : is_key c.args.key ≡ true =
    sym c.is_key.ensures ∙ c.if-not-is_key.false in
    key

pub press_key-requires : goal.press_key-requires
press_key-requires c =
    let fine : good c.args.page.now c.args.state ≡ true =
    sym c.is_good.ensures ∙ c.if-not-is_good.false in
    key_size _ _ c.args.key (fine) c.key_at.ensures

pub returns : goal.returns
returns c =
    let fine : good c.args.page.now c.args.state ≡ true =
    sym c.is_good.ensures ∙ c.if-not-is_good.false in
    let key : is_key c.args.key ≡ true =
    sym c.is_key.ensures ∙ c.if-not-is_key.false in
    let quiet : sends c.args.state.sending ≡ false =
    sym c.is_sending.ensures ∙ c.if-is_sending.false in
    press_sends _ _ _ _ (fine) c.if-state.false (key) (quiet)
    c.key_at.ensures c.press_key.ensures
