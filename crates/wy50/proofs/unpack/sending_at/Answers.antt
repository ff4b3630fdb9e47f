-- `wy50::unpack::sending_at` meets its contract.
use mathlib.Core.Path.{◌≡◌, ◌∙◌}
use mathlib.Core.Bool.{Bool}
use Rattle.std.specs.Prelude.{◌&&◌, eqb}
use Rattle.rules.specs.declared.Sending.{Sending}
use Rattle.wy50.specs.declared.raw.RawSending.{RawSending}
use Rattle.wy50.specs.Raw.{raw_sending, sending_of, is_sending}
use Rattle.wy50.proofs.Options.{three}
use Rattle.wy50.proofs.unpack.sending_at.Goals as goal

gives_back : (x : RawSending) {y : Sending} {a : RawSending} {t : Bool} → y ≡ sending_of x → a ≡ raw_sending y
    → t ≡ (eqb a.command x.command && (eqb a.kind x.kind && eqb a.place x.place)) → t ≡ is_sending x
unfolding is_sending
gives_back x {y} {a} e f g = g ∙ three (eqb a.command x.command) (eqb a.kind x.kind) (eqb a.place x.place) ∙ rw (f, e)

pub returns : goal.returns
returns c =
    let y = c.sending_of-y.ensures in
    c.then_some.ensures ∙ rw (gives_back c.args.x y c.raw_sending.ensures c.eq.ensures, y)
