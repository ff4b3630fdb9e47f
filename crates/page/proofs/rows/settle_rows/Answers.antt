-- `page::rows::settle_rows` meets its contract.
use mathlib.Core.Path.{◌≡◌, ◌∙◌, sym, ap, subst}
use Prim.Native.Nat.{ℕ, ◌*◌, ◌≤◌, ◌<◌}
use native.Mathlib.Omega.{arith}
use Rattle.rules.specs.Search.{guarded_at, others, first_in}
use Rattle.rules.proofs.Searching.{around_here, around_wrapped, around_none}
use Rattle.rules.proofs.Rows.{columns_width}
use Rattle.rules.specs.Row.{columns}
use Rattle.page.proofs.RowSearch.{segment_rows}
use Rattle.page.proofs.rows.settle_rows.Goals as goal

pub first_open-after-requires : goal.first_open-after-requires
first_open-after-requires c =
    let asked : (from : ℕ)
    → let x = c.args in from < x.end → (from < c.row_of-bottom.result * (columns x.wide)) × (c.row_of-bottom.result ≤ 24) =
    λ from h. subst (λ (k : ℕ). (from < k * (columns c.args.wide)) × (k ≤ 24)) (sym c.row_of-bottom.ensures)
    (omega (arith, c.requires.1.1), segment_rows (columns_width c.args.wide) c.args.end c.requires.1.1.1.1.0) in
    (c.requires.0, (c.requires.1.0, asked c.args.from c.requires.1.1.1.0))

pub returns-then-after-end : goal.returns-then-after-end
returns-then-after-end c =
    let guards = guarded_at c.args.protect c.args.page.now in
    let found : (from n : ℕ)
    → let x = c.args in n ≡ first_in (others (guards)) from (c.row_of-bottom.result * (columns x.wide)) → n ≡ first_in (others (guards)) from x.end =
    λ from n h. let m = others (guards) in
    h ∙ ap (λ (k : ℕ). first_in m from (k * (columns c.args.wide))) c.row_of-bottom.ensures ∙ ap (first_in m from) c.requires.1.1.1.1.1 in
    let x = c.args in
    around_here (others (guards)) x.first x.end x.from (found x.from _ c.first_open-after.ensures) c.if-after-end.true

pub first_open-wrapped-requires : goal.first_open-wrapped-requires
first_open-wrapped-requires c =
    let asked : (from : ℕ)
    → let x = c.args in from < x.end → (from < c.row_of-bottom.result * (columns x.wide)) × (c.row_of-bottom.result ≤ 24) =
    λ from h. subst (λ (k : ℕ). (from < k * (columns c.args.wide)) × (k ≤ 24)) (sym c.row_of-bottom.ensures)
    (omega (arith, c.requires.1.1), segment_rows (columns_width c.args.wide) c.args.end c.requires.1.1.1.1.0) in
    (c.requires.0, (c.requires.1.0, asked c.args.first c.requires.1.1.0))

pub returns-then-wrapped-end : goal.returns-then-wrapped-end
returns-then-wrapped-end c =
    let guards = guarded_at c.args.protect c.args.page.now in
    let found : (from n : ℕ)
    → let x = c.args in n ≡ first_in (others (guards)) from (c.row_of-bottom.result * (columns x.wide)) → n ≡ first_in (others (guards)) from x.end =
    λ from n h. let m = others (guards) in
    h ∙ ap (λ (k : ℕ). first_in m from (k * (columns c.args.wide))) c.row_of-bottom.ensures ∙ ap (first_in m from) c.requires.1.1.1.1.1 in
    let x = c.args in
    around_wrapped (others (guards)) x.first x.end x.from (found x.from _ c.first_open-after.ensures) c.if-after-end.false
    (found x.first _ c.first_open-wrapped.ensures) c.if-wrapped-end.true

pub returns-else-wrapped-end : goal.returns-else-wrapped-end
returns-else-wrapped-end c =
    let guards = guarded_at c.args.protect c.args.page.now in
    let found : (from n : ℕ)
    → let x = c.args in n ≡ first_in (others (guards)) from (c.row_of-bottom.result * (columns x.wide)) → n ≡ first_in (others (guards)) from x.end =
    λ from n h. let m = others (guards) in
    h ∙ ap (λ (k : ℕ). first_in m from (k * (columns c.args.wide))) c.row_of-bottom.ensures ∙ ap (first_in m from) c.requires.1.1.1.1.1 in
    let x = c.args in
    around_none (others (guards)) x.first x.end x.from (found x.from _ c.first_open-after.ensures) c.if-after-end.false
    (found x.first _ c.first_open-wrapped.ensures) c.if-wrapped-end.false
