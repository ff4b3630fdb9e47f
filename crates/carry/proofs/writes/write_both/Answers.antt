-- `carry::writes::write_both` meets its contract.
use mathlib.Core.Logic.{inl, inr}
use Rattle.std.specs.Prelude.{◌≡◌, ℕ, length}
use mathlib.Core.Path.{sym, ap, subst₂, ◌∙◌}
use mathlib.Core.Bool.{beq}
use native.Mathlib.Omega.{arith}
use Rattle.rules.specs.Cell.{both}
use Rattle.rules.specs.Search.{guarded_at}
use Rattle.rules.specs.Carry.{applied}
use Rattle.rules.specs.Row.{columns}
use Rattle.rules.proofs.Rows.{columns_width}
use Rattle.page.specs.RowList.{AllBut}
use Rattle.page.proofs.RowList.{listed, listed_length, beside_is}
use Rattle.carry.proofs.Guards.{kept_guards, both_hold, mode_kept}
use Rattle.carry.proofs.Touched.{touched_range, others_kept}
use Rattle.carry.proofs.writes.write_both.Goals as goal

pub write_some-requires : goal.write_some-requires
write_some-requires c = let p = c.requires in (p.0, p.1.0)

pub write_some-requires-2 : goal.write_some-requires-2
write_some-requires-2 c = let p = c.requires in (c.write_some.auto.page ∙ p.0, p.1.1.0)

pub returns-then-is_empty : goal.returns-then-is_empty
returns-then-is_empty c =
    let written : let x = c.args in
    c.write_some-2.new.page ≡ applied (columns x.wide) x.on x.second (applied (columns x.wide) x.on x.first x.page.now) =
    let x = c.args in
    c.write_some-2.ensures ∙ ap (applied (columns x.wide) x.on x.second) c.write_some.ensures in
    (written, inl (grind arith))

pub rebuild-requires : goal.rebuild-requires
rebuild-requires c =
    let size : length c.write_some-2.new.page ≡ length c.args.page.now =
    c.write_some-2.auto.page ∙ c.write_some.auto.page in
    let p = c.requires in
    (size ∙ p.0, listed_length _ _ p.1.1.1 (grind arith))

pub returns-then-on-after : goal.returns-then-on-after
returns-then-on-after c =
    let written : let x = c.args in
    c.write_some-2.new.page ≡ applied (columns x.wide) x.on x.second (applied (columns x.wide) x.on x.first x.page.now) =
    let x = c.args in
    c.write_some-2.ensures ∙ ap (applied (columns x.wide) x.on x.second) c.write_some.ensures in
    (written, inr c.rebuild.ensures)

pub returns-then-keeps_guards : goal.returns-then-keeps_guards
returns-then-keeps_guards c =
    let written : let x = c.args in
    c.write_some-2.new.page ≡ applied (columns x.wide) x.on x.second (applied (columns x.wide) x.on x.first x.page.now) =
    let x = c.args in
    c.write_some-2.ensures ∙ ap (applied (columns x.wide) x.on x.second) c.write_some.ensures in
    let after_first : let x = c.args in
    guarded_at x.after c.write_some-2.new.page ≡ guarded_at x.on (applied (columns x.wide) x.on x.first x.page.now) =
    let x = c.args in
    ap (guarded_at x.after) (written)
    ∙ mode_kept (columns x.wide) x.on x.after x.second (applied (columns x.wide) x.on x.first x.page.now)
    (both_hold _ _ c.if-on-after.false (sym c.keeps_guards.ensures ∙ c.if-not-keeps_guards.false)) in
    let x = c.args in (
      written,
      beside_is (columns x.wide)
          (sym (after_first
          ∙ kept_guards (columns x.wide) x.on x.first x.page.now (sym c.keeps_guards-2.ensures ∙ c.if-keeps_guards.true)))
          c.requires.1.1.1,
    )

pub recount-requires : goal.recount-requires
recount-requires c =
    let written : let x = c.args in
    c.write_some-2.new.page ≡ applied (columns x.wide) x.on x.second (applied (columns x.wide) x.on x.first x.page.now) =
    let x = c.args in
    c.write_some-2.ensures ∙ ap (applied (columns x.wide) x.on x.second) c.write_some.ensures in
    let size : length c.write_some-2.new.page ≡ length c.args.page.now =
    c.write_some-2.auto.page ∙ c.write_some.auto.page in
    let after_first : let x = c.args in
    guarded_at x.after c.write_some-2.new.page ≡ guarded_at x.on (applied (columns x.wide) x.on x.first x.page.now) =
    let x = c.args in
    ap (guarded_at x.after) (written)
    ∙ mode_kept (columns x.wide) x.on x.after x.second (applied (columns x.wide) x.on x.first x.page.now)
    (both_hold _ _ c.if-on-after.false (sym c.keeps_guards.ensures ∙ c.if-not-keeps_guards.false)) in
    let others : let x = c.args in
    AllBut (columns x.wide) (guarded_at x.after c.write_some-2.new.page) x.rows.now c.touched-top.result.top c.touched-top.result.bottom =
    let x = c.args in
    let p = x.page.now in
    let g = guarded_at x.after c.write_some-2.new.page in
    subst₂ (λ (i j : ℕ). AllBut (columns x.wide) g x.rows.now i j) (sym c.touched-top.ensures.0) (sym c.touched-top.ensures.1)
    (others_kept (columns_width c.args.wide) x.first c.requires.1.0 x.on p c.requires.0 g (after_first)
    (listed (columns x.wide) (guarded_at x.on p) c.requires.1.1.1 (grind arith))) in
    let r = touched_range (columns_width c.args.wide) c.args.first c.requires.1.0 in (
      size ∙ c.requires.0,
      (
        listed_length _ _ c.requires.1.1.1 (grind arith),
        (omega (arith, c.touched-top.ensures, r), (omega (arith, c.touched-top.ensures, r), others)),
      ),
    )

pub returns : goal.returns
returns c =
    let written : let x = c.args in
    c.write_some-2.new.page ≡ applied (columns x.wide) x.on x.second (applied (columns x.wide) x.on x.first x.page.now) =
    let x = c.args in
    c.write_some-2.ensures ∙ ap (applied (columns x.wide) x.on x.second) c.write_some.ensures in
    (written, inr c.recount.ensures)
