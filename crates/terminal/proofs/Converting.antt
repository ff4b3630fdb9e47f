-- The conversion to the other width.
--     stops_filled     tab stops cleared
--     settles_below     the cell that the cursor settles in
--     on-screen, on_state     the state at the other width
--     turns_refused, bad_target, turned_over     the call, refused and done
-- Assumes nothing.
use Rattle.std.specs.Prelude.{◌≡◌, ℕ, ◌+◌, ◌-◌, ◌*◌, ◌<◌, ◌≤◌, Bool, true, false, not, eqb, List, [], length, take, drop, replicate, nat_eq, Ok, Err}
use mathlib.Core.Path.{refl, sym, ap, ◌∙◌}
use mathlib.Core.List.{append-nil}
use native.Mathlib.Nat.{zero-mul}
use native.Mathlib.Omega.{arith}
use lib.ListN.{length-take, length-drop, drop_of_length-le}
use lib.Seq.{drop-drop}
use borrow.Rule.Slice.PartMut.{put_mid}
use Rattle.rules.specs.declared.Answer.{Answer}
use Rattle.rules.specs.declared.Core.{Core}
use Rattle.rules.specs.declared.State.{State}
use Rattle.rules.specs.declared.Screen.{Screen}
use Rattle.rules.specs.Cell.{both}
use Rattle.rules.specs.Row.{height, columns}
use Rattle.rules.specs.Search.{guarded_at, settled}
use Rattle.rules.specs.State.{number, segment_top, segment_bottom, segment_start, segment_end, with_cursor, with_screen, with_tabs, sends}
use Rattle.rules.specs.Possible.{good}
use Rattle.rules.specs.Plan.{unsplit_screen}
use Rattle.rules.specs.Carry.{landed}
use Rattle.rules.specs.Convert.{other_width, converted, loses, core_on, stops_within, state_on, unturned, convert_rule}
use Rattle.rules.proofs.Unrevealing.{both_false}
use Rattle.rules.proofs.Screens.{unsplit_screen_lem}
use Rattle.rules.proofs.Convert.{home_lands, converts}
use Rattle.carry.proofs.Settling.{settle_range}
use Rattle.terminal.specs.Promise.{Turns}

-- ---- tab stops

-- those from column w on cleared
pub stops_filled : (w : ℕ) (l : List Bool) {v : List Bool} → length l ≡ 132 → w ≤ 132 → v ≡ replicate (length (take (132 - w) (drop w l))) false
    → put_mid w (132 - w) l v ≡ stops_within w l
stops_filled w l {v} long most e =
    let n : length (take (132 - w) (drop w l)) ≡ 132 - w = omega (arith, length-take (132 - w) (drop w l), length-drop w l) in
    let z : drop (w + (132 - w)) l ≡ [] = drop_of_length-le l {i = w + (132 - w)} (omega arith) in
    rw (drop-drop (132 - w) w l, z, append-nil v, e, n)

pub columns_most : (wide : Bool) → columns wide ≤ 132
unfolding columns
columns_most true = omega arith
columns_most false = omega arith

-- ---- the state

-- home, and the end of the page
start_home : (wide : Bool) → segment_start (unsplit_screen wide) ≡ 0
unfolding segment_top
start_home wide = omega arith

end_page : (wide : Bool) → segment_end (unsplit_screen wide) ≡ 24 * columns wide
unfolding segment_bottom
end_page wide = refl

pub settles_below : (wide on : Bool) (p : List ℕ) {n : ℕ} → length p ≡ 24 * columns wide → n ≡ settled (guarded_at on p) 0 (24 * columns wide) 0
    → n < 3168
settles_below wide on p long e =
    settle_range (unsplit_screen wide) (unsplit_screen_lem wide) (home_lands wide) p long on (e ∙ rw (start_home wide, end_page wide))

-- unsplit, the cursor at a cell
abbrev home_at : Bool → ℕ → Screen
home_at wide n = record { wide = wide; active = 0; split = 0; cursor0 = n; cursor1 = 0 }

pub home_is : (wide : Bool) (g : List Bool) (n e : ℕ) → e ≡ 24 * columns wide → n ≡ settled g 0 e 0
    → home_at wide n ≡ home_at wide (settled g 0 (24 * columns wide) 0)
home_is wide g n e h i = rw (i, h)

pub on_core : (c : Core) (p : List ℕ) (x : Screen)
    → x ≡ home_at (not c.screen.wide) (settled (guarded_at c.modes.protect p) 0 (24 * other_width c.screen.wide) 0)
    → with_screen c x ≡ core_on p c
unfolding landed with_cursor segment_top segment_bottom
on_core c p x e =
    ap (with_screen c) e
    ∙ ap (λ (k : ℕ). with_screen c
    (home_at (not c.screen.wide) (settled (guarded_at c.modes.protect p) k (24 * other_width c.screen.wide) 0)))
    (sym (zero-mul (other_width c.screen.wide)))

pub on_state : (s : State) (p : List ℕ) (c : Core) (t : List Bool) → c ≡ core_on p s.core
    → t ≡ stops_within (other_width s.core.screen.wide) s.setup.tabs
    → (record { core = c; sending = s.sending; gathered = s.gathered; setup = with_tabs s.setup t }) ≡ state_on p s
unfolding state_on
on_state s p c t e f = rw (e, f)

-- ---- the call

module _ (p : List ℕ) (s : State) (t : List ℕ) where
  pub turns_refused : (a : Answer) → nat_eq (number a) 0 ≡ false → convert_rule p s t ≡ unturned (number a) t s
      → Turns s (convert_rule p s t) (Err a) t
  turns_refused a n e = rw e (record { answer = refl; done = sym n; state = refl; target = refl })

  pub bad_target : eqb (length t) (height * other_width s.core.screen.wide) ≡ false
      → both (good p s) (eqb (length t) (height * other_width s.core.screen.wide)) ≡ false
  bad_target e = rw e (both_false (good p s))

  pub turned_over : (q : List ℕ) (u : State) → good p s ≡ true → length t ≡ height * other_width s.core.screen.wide
      → sends s.sending ≡ false
      → loses (columns s.core.screen.wide) (other_width s.core.screen.wide) 0 p ≡ false → q ≡ converted s.core.screen.wide p
      → u ≡ state_on q s
      → Turns s (convert_rule p s t) (Ok u) q
  turned_over q u g l n k e f =
      rw (converts p s t g l n k)
      (record { answer = refl; done = refl; state = f ∙ ap (λ (l : List ℕ). state_on l s) e; target = e })
