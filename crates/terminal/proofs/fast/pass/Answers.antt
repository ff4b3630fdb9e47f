-- `terminal::fast::pass` meets its contract. The loop: acts lead from the cursor `first` and the byte `from` to the cursor and the byte where it
-- stands.
use Rattle.std.specs.Prelude.{◌≡◌, ℕ, ◌+◌, ◌≤◌, true, List}
use mathlib.Core.Path.{refl, sym}
use native.Mathlib.Nat.{add-zero}
use native.Mathlib.Omega.{arith}
use Rattle.terminal.specs.FastPath.{Passes, none}
use Rattle.terminal.proofs.FastPaths.{Range, fits_size, passes_then, passes_range}
use Rattle.terminal.proofs.fast.pass.Goals as goal

pub loop-i-init : goal.loop-i-init
loop-i-init c = (none, λ z. refl)

pub put-text-requires : goal.put-text-requires
put-text-requires c =
    let stands : let a = c.args in Range a.ground a.input.now a.from a.page.now c.loop-i.at c.loop-i.i c.loop-i.page
    c.loop-i.refused =
    passes_range c.loop-i.invariant.0 c.requires.1.1 c.requires.1.0 in
    let r = stands in
    (fits_size c.requires.0 r.size, (r.below, r.within))

pub shape_of-page-then-input-i : goal.shape_of-page-then-input-i
shape_of-page-then-input-i c =
    let Went : ℕ → ℕ → List ℕ → ℕ → Type 0 =
    λ at i p f. let a = c.args in
    Passes a.ground a.input.now a.first a.from a.page.now at i p f in
    let went : Went c.put-text.result.at c.put-text.result.taken c.put-text.new.page c.loop-i.refused =
    passes_then c.loop-i.invariant.0 c.put-text.ensures (sym (add-zero _)) in
    let Ends : ℕ → ℕ → List ℕ → ℕ → Type 0 =
    λ at i p f. let a = c.args in
    Range a.ground a.input.now a.from a.page.now at i p f in
    let ends : (at i f : ℕ) (p : List ℕ) → Went at i p f → Ends at i p f =
    λ at i f p t. let p = c.requires in passes_range t p.1.1 p.1.0 in
    (ends _ _ _ _ (went)).size

pub returns-then-input-i : goal.returns-then-input-i
returns-then-input-i c =
    let Went : ℕ → ℕ → List ℕ → ℕ → Type 0 =
    λ at i p f. let a = c.args in
    Passes a.ground a.input.now a.first a.from a.page.now at i p f in
    let went : Went c.put-text.result.at c.put-text.result.taken c.put-text.new.page c.loop-i.refused =
    passes_then c.loop-i.invariant.0 c.put-text.ensures (sym (add-zero _)) in
    (went, c.loop-i.invariant.1)

pub turn-next-requires : goal.turn-next-requires
turn-next-requires c =
    let Went : ℕ → ℕ → List ℕ → ℕ → Type 0 =
    λ at i p f. let a = c.args in
    Passes a.ground a.input.now a.first a.from a.page.now at i p f in
    let went : Went c.put-text.result.at c.put-text.result.taken c.put-text.new.page c.loop-i.refused =
    passes_then c.loop-i.invariant.0 c.put-text.ensures (sym (add-zero _)) in
    let Ends : ℕ → ℕ → List ℕ → ℕ → Type 0 =
    λ at i p f. let a = c.args in
    Range a.ground a.input.now a.from a.page.now at i p f in
    let ends : (at i f : ℕ) (p : List ℕ) → Went at i p f → Ends at i p f =
    λ at i f p t. let p = c.requires in passes_range t p.1.1 p.1.0 in
    let r = ends _ _ _ _ (went) in
    (fits_size c.requires.0 r.size, (r.below, omega (arith, c.if-input-i.false)))

pub overflow_add-refused : goal.overflow_add-refused
overflow_add-refused c =
    let Went : ℕ → ℕ → List ℕ → ℕ → Type 0 =
    λ at i p f. let a = c.args in
    Passes a.ground a.input.now a.first a.from a.page.now at i p f in
    let went : Went c.put-text.result.at c.put-text.result.taken c.put-text.new.page c.loop-i.refused =
    passes_then c.loop-i.invariant.0 c.put-text.ensures (sym (add-zero _)) in
    let Ends : ℕ → ℕ → List ℕ → ℕ → Type 0 =
    λ at i p f. let a = c.args in
    Range a.ground a.input.now a.from a.page.now at i p f in
    let ends : (at i f : ℕ) (p : List ℕ) → Went at i p f → Ends at i p f =
    λ at i f p t. let p = c.requires in passes_range t p.1.1 p.1.0 in
    let goes : let r = c.turn-next.result in Went r.at r.taken c.turn-next.new.page (c.loop-i.refused + r.refused) =
    passes_then (went) c.turn-next.ensures.0 refl in
    let r = ends _ _ _ _ (goes) in
    omega (arith, r.from, r.within, c.well_formed)

pub shape_of-page-then-next-i : goal.shape_of-page-then-next-i
shape_of-page-then-next-i c =
    let Went : ℕ → ℕ → List ℕ → ℕ → Type 0 =
    λ at i p f. let a = c.args in
    Passes a.ground a.input.now a.first a.from a.page.now at i p f in
    let went : Went c.put-text.result.at c.put-text.result.taken c.put-text.new.page c.loop-i.refused =
    passes_then c.loop-i.invariant.0 c.put-text.ensures (sym (add-zero _)) in
    let Ends : ℕ → ℕ → List ℕ → ℕ → Type 0 =
    λ at i p f. let a = c.args in
    Range a.ground a.input.now a.from a.page.now at i p f in
    let ends : (at i f : ℕ) (p : List ℕ) → Went at i p f → Ends at i p f =
    λ at i f p t. let p = c.requires in passes_range t p.1.1 p.1.0 in
    let goes : let r = c.turn-next.result in Went r.at r.taken c.turn-next.new.page (c.loop-i.refused + r.refused) =
    passes_then (went) c.turn-next.ensures.0 refl in
    (ends _ _ _ _ (goes)).size

pub returns-then-next-i : goal.returns-then-next-i
returns-then-next-i c =
    let Went : ℕ → ℕ → List ℕ → ℕ → Type 0 =
    λ at i p f. let a = c.args in
    Passes a.ground a.input.now a.first a.from a.page.now at i p f in
    let went : Went c.put-text.result.at c.put-text.result.taken c.put-text.new.page c.loop-i.refused =
    passes_then c.loop-i.invariant.0 c.put-text.ensures (sym (add-zero _)) in
    let goes : let r = c.turn-next.result in Went r.at r.taken c.turn-next.new.page (c.loop-i.refused + r.refused) =
    passes_then (went) c.turn-next.ensures.0 refl in
    let silent : c.args.stop ≡ true → c.loop-i.refused + c.turn-next.result.refused ≡ 0 =
    λ z. omega (arith, c.loop-i.invariant.1 z, c.turn-next.ensures.1 z) in
    (goes, silent)

pub loop-i-smaller : goal.loop-i-smaller
loop-i-smaller c =
    let stands : let a = c.args in Range a.ground a.input.now a.from a.page.now c.loop-i.at c.loop-i.i c.loop-i.page
    c.loop-i.refused =
    passes_range c.loop-i.invariant.0 c.requires.1.1 c.requires.1.0 in
    let onwards : c.loop-i.i ≤ c.put-text.result.taken =
    let r = stands in omega (arith, (passes_range c.put-text.ensures r.within r.below).from) in
    omega (arith, c.if-next-i.false, onwards, c.if-input-i.false)

pub loop-i-preserved : goal.loop-i-preserved
loop-i-preserved c =
    let Went : ℕ → ℕ → List ℕ → ℕ → Type 0 =
    λ at i p f. let a = c.args in
    Passes a.ground a.input.now a.first a.from a.page.now at i p f in
    let went : Went c.put-text.result.at c.put-text.result.taken c.put-text.new.page c.loop-i.refused =
    passes_then c.loop-i.invariant.0 c.put-text.ensures (sym (add-zero _)) in
    let goes : let r = c.turn-next.result in Went r.at r.taken c.turn-next.new.page (c.loop-i.refused + r.refused) =
    passes_then (went) c.turn-next.ensures.0 refl in
    let silent : c.args.stop ≡ true → c.loop-i.refused + c.turn-next.result.refused ≡ 0 =
    λ z. omega (arith, c.loop-i.invariant.1 z, c.turn-next.ensures.1 z) in
    (goes, silent)

pub shape_of-page : goal.shape_of-page
shape_of-page c =
    let stands : let a = c.args in Range a.ground a.input.now a.from a.page.now c.loop-i.at c.loop-i.i c.loop-i.page
    c.loop-i.refused =
    passes_range c.loop-i.invariant.0 c.requires.1.1 c.requires.1.0 in
    (stands).size

pub returns : goal.returns
returns c = c.loop-i.invariant
