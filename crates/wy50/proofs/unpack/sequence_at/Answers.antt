-- `wy50::unpack::sequence_at` meets its contract.
use mathlib.Core.Path.{◌≡◌, ◌∙◌}
use mathlib.Core.Bool.{Bool}
use Rattle.std.specs.Prelude.{◌&&◌, eqb}
use Rattle.rules.specs.declared.Pending.{Pending}
use Rattle.wy50.specs.declared.raw.RawSequence.{RawSequence}
use Rattle.wy50.specs.Raw.{sequence_of, pending_of, is_sequence}
use Rattle.wy50.proofs.Options.{four}
use Rattle.wy50.proofs.unpack.sequence_at.Goals as goal

gives_back : (q : RawSequence) {p : Pending} {a : RawSequence} {t : Bool} → p ≡ pending_of q → a ≡ sequence_of p
    → t ≡ (eqb a.kind q.kind && (eqb a.first q.first && (eqb a.second q.second && eqb a.third q.third))) → t ≡ is_sequence q
unfolding is_sequence
gives_back q {p} {a} e f g = g ∙ four (eqb a.kind q.kind) (eqb a.first q.first) (eqb a.second q.second) (eqb a.third q.third) ∙ rw (f, e)

pub returns : goal.returns
returns c =
    let p = c.pending_of-p.ensures in
    c.then_some.ensures ∙ rw (gives_back c.args.q p c.sequence_of.ensures c.eq.ensures, p)
