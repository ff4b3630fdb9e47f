-- The judge of bytes (document 02, A12): "accepts bytes exactly if the ruled terminal of a named personality, fed them from power-on at the pages'
-- width with the first page and no reply room, answers 0 to each and ends with the second page".
use Rattle.std.specs.Prelude.{◌≡◌, ℕ, Bool, List, [], ◌∷◌, length, ◌==◌}
use Rattle.rules.specs.declared.Personality.{Personality}
use Rattle.rules.specs.declared.State.{State}
use Rattle.rules.specs.Cell.{both, same}
use Rattle.rules.specs.Row.{columns}
use Rattle.rules.specs.State.{with_screen}
use Rattle.rules.specs.Possible.{power_on}
use Rattle.rules.specs.Plan.{unsplit_screen}
use Rattle.rules.specs.Step.{step_rule}
use Rattle.rules.specs.Calls.{Ran, run_rule}
use Rattle.repaint.specs.declared.Verdict.TheVariants as Verdict
use Rattle.repaint.specs.Spans.{Pages, verdict_number}

-- "from power-on at the pages' width": a wide one is the power-on state as the conversion of A11 leaves it
unfoldable pub power_on_at : Bool → Personality → State
power_on_at wide m = record {
  core = with_screen (power_on m).core (unsplit_screen wide);
  sending = (power_on m).sending;
  gathered = (power_on m).gathered;
  setup = (power_on m).setup;
}

-- "fed them .. no reply room, answers 0 to each and ends with" the page q: the single step, byte after byte, from a page and a state
pub data Leads (q : List ℕ) : List ℕ → List ℕ → State → Type 0 where
  end : (s : State) → Leads q [] q s
  byte : (b : ℕ) (bs p : List ℕ) (s : State) → (step_rule p s b 0).answer ≡ 0 → Leads q bs (step_rule p s b 0).page (step_rule p s b 0).state
      → Leads q (b ∷ bs) p s

-- the first page is a, and the second b
abbrev pub AcceptsBytes : Personality → Bool → List ℕ → List ℕ → List ℕ → Type 0
AcceptsBytes m wide a b bytes = Leads b bytes a (power_on_at wide m)

-- accepted exactly if the sentence holds; "unlike or wrong lengths answer 7"
pub data BytesVerdict (m : Personality) (a b bytes : List ℕ) : ℕ → Type 0 where
  accepted : (wide : Bool) → Pages (columns wide) a b → AcceptsBytes m wide a b bytes → BytesVerdict m a b bytes (verdict_number Verdict.Accepted)
  refused : (wide : Bool) → Pages (columns wide) a b → (AcceptsBytes m wide a b bytes → ⊥)
      → BytesVerdict m a b bytes (verdict_number Verdict.NotAccepted)
  wrong : ((w : ℕ) → Pages w a b → ⊥) → BytesVerdict m a b bytes (verdict_number Verdict.WrongLength)

-- ---- as the code finds it: by one run

-- a run that took n bytes, and all of them with answer 0
unfoldable pub clean : Ran → ℕ → Bool
clean o n = both (o.answer == 0) (both (o.taken == n) (o.refused == 0))

unfoldable pub paints : Personality → Bool → List ℕ → List ℕ → List ℕ → Bool
paints m wide a b bytes =
    let o = run_rule a (power_on_at wide m) bytes 0 in
    both (clean o (length bytes)) (same o.page b)
