-- `repaint::painter::propose` meets its contract.
use Rattle.std.specs.Prelude.{◌≡◌, ℕ, true, false, Option, Some, None, is_some}
use Rattle.std.specs.Option.{SomeIff}
use mathlib.Core.Path.{sym, ◌∙◌}
use mathlib.Core.Bool.{false≢true}
use Rattle.repaint.proofs.Passing.{no_width}
use native.Mathlib.Omega.{arith}
use Rattle.repaint.proofs.Proposing.{served_lengths, gives_seven, gives_three, gives_six, holding_fresh, made_count, made_size, made_few}
use Rattle.repaint.proofs.Proposing.{made_fit, made_given, rooms}
use Rattle.repaint.proofs.painter.propose.Goals as goal

none_where : (o : Option ℕ) (P : Type 0) (v : ℕ) → is_some o ≡ false → SomeIff o P v → P → ⊥
none_where None P v e h = h
none_where (Some n) P v e h = absurd (false≢true (sym e))

some_where : (o : Option ℕ) (P : Type 0) (v : ℕ) → is_some o ≡ true → SomeIff o P v → P
some_where None P v e h = absurd (false≢true e)
some_where (Some n) P v e h = h.0

pub returns-then-is_none : goal.returns-then-is_none
returns-then-is_none c =
    let x = c.args in
    gives_seven x.personality x.before.now x.after.now x.rows.now x.columns.now x.lengths.now x.out.now
    (no_width _ _ (none_where _ _ _ c.if-is_none.ensures c.width_of.ensures))

pub returns-then-not-is_served : goal.returns-then-not-is_served
returns-then-not-is_served c =
    let x = c.args in
    gives_three x.personality x.before.now x.after.now x.rows.now x.columns.now x.lengths.now x.out.now
    (some_where _ _ _ c.if-is_none.ensures c.width_of.ensures)
    (sym c.is_served.ensures ∙ c.if-not-is_served.true)

pub paint-t-requires : goal.paint-t-requires
paint-t-requires c =
    let x = c.args in
    let s = (sym c.is_served.ensures ∙ c.if-not-is_served.false) in
    (served_lengths x.personality x.before.now x.after.now s, holding_fresh x.personality x.before.now x.after.now s)

pub returns-then-not-has_room : goal.returns-then-not-has_room
returns-then-not-has_room c =
    let x = c.args in
    let s = (sym c.is_served.ensures
    ∙ c.if-not-is_served.false) in
    let p = c.paint-t.ensures in
    gives_six x.personality x.before.now x.after.now x.rows.now x.columns.now x.lengths.now x.out.now
    (some_where _ _ _ c.if-is_none.ensures c.width_of.ensures) s (made_count x.personality x.before.now x.after.now s p)
    (made_size x.personality x.before.now x.after.now s p)
    (sym c.has_room.ensures ∙ c.if-not-has_room.true)

pub give-requires : goal.give-requires
give-requires c =
    let x = c.args in
    let s = (sym c.is_served.ensures ∙ c.if-not-is_served.false) in
    let p = c.paint-t.ensures in (
      made_fit x.personality x.before.now x.after.now s p,
      rooms _ _ _ _ _ _
          (sym c.has_room.ensures
          ∙ c.if-not-has_room.false),
    )

pub overflow_cast-result : goal.overflow_cast-result
overflow_cast-result c =
    let x = c.args in
    let s = (sym c.is_served.ensures ∙ c.if-not-is_served.false) in
    record {
      fits = omega (
        arith,
        (made_few x.personality x.before.now x.after.now s
            c.paint-t.ensures).0,
      );
    }

pub overflow_cast-result-2 : goal.overflow_cast-result-2
overflow_cast-result-2 c =
    let x = c.args in
    let s = (sym c.is_served.ensures ∙ c.if-not-is_served.false) in
    record {
      fits = omega (
        arith,
        (made_few x.personality x.before.now x.after.now s
            c.paint-t.ensures).1,
      );
    }

pub returns : goal.returns
returns c =
    let x = c.args in
    let s = (sym c.is_served.ensures ∙ c.if-not-is_served.false) in
    let p = c.paint-t.ensures in
    made_given x.personality x.before.now x.after.now s p
    (some_where _ _ _ c.if-is_none.ensures c.width_of.ensures) x.rows.now x.columns.now x.lengths.now x.out.now (sym c.has_room.ensures ∙ c.if-not-has_room.false) c.give.ensures
