-- The exported conversion, from the promise of the terminal's.
--     turns_unnamed, turns_done, turns_refused     numbers that name no state, and one
-- Assumes nothing.
use mathlib.Core.Path.{◌≡◌, refl, sym, ap, ◌∙◌}
use mathlib.Core.Bool.{Bool, true, false}
use mathlib.Core.List.{List}
use Rattle.std.specs.Prelude.{Result, Ok, Err}
use Prim.Native.Nat.{ℕ}
use lib.Dec.{eqb}
use Rattle.rules.specs.declared.State.{State}
use Rattle.rules.specs.declared.Answer.{Answer}
use Rattle.rules.specs.Cell.{pick}
use Rattle.rules.specs.State.{number}
use Rattle.rules.specs.Convert.{convert_rule}
use Rattle.terminal.specs.Promise as Terminal
use Rattle.wy50.specs.declared.raw.RawState.{RawState}
use Rattle.wy50.specs.Raw.{packed, unpacked, named}
use Rattle.wy50.specs.Converting.{raw_convert, Turns}

module _ (p : List ℕ) (x : RawState) (t : List ℕ) where
  pub turns_unnamed : named x ≡ false → Turns (raw_convert p x t) (record { answer = 7; state = x }) t
  unfolding raw_convert
  turns_unnamed off = rw off (record { answer = refl; target = refl; state = refl })

  module _ {s : State} (on : named x ≡ true) (e : s ≡ unpacked x) where
    pub turns_done : {u : State} {y : RawState} {q : List ℕ} → Terminal.Turns s (convert_rule p s t) (Ok u) q → y ≡ packed x u
        → Turns (raw_convert p x t) (record { answer = 0; state = y }) q
    unfolding raw_convert
    turns_done h v =
        let h' = rw e at h in
        let o = convert_rule p (unpacked x) t in
        rw on (record {
          answer = h'.answer;
          target = h'.target;
          state = v ∙ ap (packed x) h'.state ∙ ap (λ (n : ℕ). pick (eqb n 0) (packed x o.state) x) h'.answer;
        })

    pub turns_refused : {a : Answer} {k : ℕ} {q : List ℕ} → Terminal.Turns s (convert_rule p s t) (Err a) q → k ≡ number a
        → Turns (raw_convert p x t) (record { answer = k; state = x }) q
    unfolding raw_convert
    turns_refused h z =
        let h' = rw e at h in
        let o = convert_rule p (unpacked x) t in
        rw on (record {
          answer = z ∙ h'.answer;
          target = h'.target;
          state = ap (λ (b : Bool). pick b (packed x o.state) x) h'.done;
        })
