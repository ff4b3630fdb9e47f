-- Every byte of a stream is taken.
--     came_good, came_length     page and state are good, and the page has the length of its width
--     each_taken                 the statement of specs/Watch
-- Assumes nothing.
use Rattle.std.proofs.Common.{◌≡◌, ℕ, zero, suc, ◌<◌, ◌≤◌, Bool, true, false, ltb, List, [], ◌∷◌, length, sym, refl, ap, ◌∙◌, subst, arith, length-drop, length-take, lt-ltb, ne_eqb}
use borrow.Author.Tests.{eqb-false}
use Rattle.rules.specs.declared.State.{State}
use Rattle.rules.specs.Cell.{pick}
use Rattle.rules.specs.State.{page_length, sends, with_sending}
use Rattle.rules.specs.Possible.{good}
use Rattle.rules.specs.Send.{Spot, places, bytes_of, sent_from, left_from}
use Rattle.rules.specs.Step.{goes_on, step_rule}
use Rattle.rules.specs.Calls.{behind, repeated, run_inside, run_rule}
use Rattle.rules.proofs.Rows.{columns_width, width_range}
use Rattle.rules.proofs.Screens.{screen_inside}
use Rattle.rules.proofs.Sends.{places_small, bytes_beyond, places_left, some_left, ok_good, sent_bound}
use Rattle.rules.proofs.Kept.{good_parts, possible_parts, step_good, run_good}
use Rattle.rules.proofs.Bound.{step_taken}
use Rattle.rules.proofs.Left.{step_good_most}
use Rattle.alert.specs.Watch.{Watch, stepped, resumed, finished, most_times, watched, watched_all, starting, Came, EachTaken}
use Rattle.alert.proofs.Starting.{starts}
use Rattle.alert.proofs.Watching.{finish_step, over_still}

abbrev Good : Watch → Type 0
Good x = good x.page x.state ≡ true

-- no send is under way
record Ready (x : Watch) : Type 0 where
  is_good : Good x
  over : sends x.state.sending ≡ false

-- how many bytes are left of the send
abbrev left : Watch → ℕ
left x = length (bytes_of (places x.page x.state.core x.state.sending))

module _ (p : List ℕ) (s : State) (g : good p s ≡ true) where
  abbrev bytes : List ℕ
  bytes = bytes_of (places p s.core s.sending)

  -- no reply is longer
  most : length bytes ≤ 3192
  unfolding sent_from
  most =
      let w = possible_parts s (good_parts p s g).1 in
      let i = screen_inside s.core.screen w.core.screen in
      let k = ok_good s.core.screen s.core.pending s.sending w.sending in
      omega (
        arith,
        length-take (length bytes) bytes,
        sent_bound p s.core i s.sending k (length bytes),
        width_range (columns_width s.core.screen.wide),
      )

  module _ (n : ℕ) (u : sends s.sending ≡ true) where
    some : 0 < length bytes
    some = some_left p s.core s.core.pending s.sending (possible_parts s (good_parts p s g).1).sending u

    -- a run over no bytes sends some of them
    ran : 0 < n → ((run_rule p s [] n).page ≡ p) × ((run_rule p s [] n).state ≡ with_sending s (left_from p s.core s.sending n))
    unfolding run_rule run_inside behind repeated goes_on
    ran h = rw (g, u, ne_eqb n 0 (omega arith)) (refl, refl)

    fewer : 0 < n → length (bytes_of (places p s.core (left_from p s.core s.sending n))) < length bytes
    fewer h =
        let w = possible_parts s (good_parts p s g).1 in
        let i = screen_inside s.core.screen w.core.screen in
        let k = ok_good s.core.screen s.core.pending s.sending w.sending in
        let e = ap (λ (l : List Spot). length (bytes_of l)) (places_left p s.core (good_parts p s g).0 i s.sending k n h) in
        omega (
          arith,
          e,
          ap length (bytes_beyond (places_small p s.core s.sending) n),
          length-drop n bytes,
          some,
        )

module _ (n : ℕ) where
  resumed_good : (x : Watch) → Good x → Good (resumed n x)
  unfolding resumed
  resumed_good x g = run_good x.page x.state [] n g

  stepped_good : (x : Watch) (b : ℕ) → Good x → Good (stepped n x b)
  unfolding stepped
  stepped_good x b g = step_good x.page x.state b n g

  either_good : (t : Bool) (x y : Watch) → Good x → Good y → Good (pick t x y)
  either_good true x y a b = a
  either_good false x y a b = b

  finished_good : (k : ℕ) (x : Watch) → Good x → Good (finished n k x)
  unfolding finished
  finished_good zero x g = g
  finished_good (suc k) x g =
      either_good (sends x.state.sending) (finished n k (resumed n x)) x (finished_good k (resumed n x) (resumed_good x g)) g

  watched_good : (x : Watch) (b : ℕ) → Good x → Good (watched n x b)
  unfolding watched
  watched_good x b g = finished_good most_times (stepped n x b) (stepped_good x b g)

  all_good : (l : List ℕ) (x : Watch) → Good x → Good (watched_all n x l)
  unfolding watched_all
  all_good [] x g = g
  all_good (b ∷ l) x g = all_good l (watched n x b) (watched_good x b g)

pub came_good : {page drawn : List ℕ} {s : State} → Came page drawn s → good page s ≡ true
came_good c =
    let x = starting c.wide c.personality c.kept in
    subst (λ (y : Watch). Good y) (sym c.fed.is) (all_good c.room c.fed.bytes x (starts c.wide c.personality).fine)

pub came_length : {page drawn : List ℕ} {s : State} → Came page drawn s → length page ≡ page_length s.core.screen
came_length {page} {s = s} c = (good_parts page s (came_good c)).0

module _ (n : ℕ) (h : 0 < n) where
  left_less : (x : Watch) → Good x → sends x.state.sending ≡ true → left (resumed n x) < left x
  unfolding resumed
  left_less x g u =
      let r = ran x.page x.state g n u h in
      rw (r.0, r.1) (fewer x.page x.state g n u h)

  finish_next : (k : ℕ) (x : Watch) → Good x → left x ≤ suc k → (Good (resumed n x) → left (resumed n x) ≤ k → Ready (finished n k (resumed n x)))
      → Ready (finished n (suc k) x)
  finish_next k x g m y = by (sends x.state.sending) refl
    where
      by : (t : Bool) → sends x.state.sending ≡ t → Ready (finished n (suc k) x)
      by true u = rw (finish_step n k x u) (y (resumed_good n x g) (omega (arith, left_less x g u)))
      by false u = rw (over_still n (suc k) x u) (record { is_good = g; over = u })

  finish_last : (x : Watch) → Good x → left x ≤ 0 → Ready x
  finish_last x g m = by (sends x.state.sending) refl
    where
      by : (t : Bool) → sends x.state.sending ≡ t → Ready x
      by true u = absurd (omega (arith, some x.page x.state g n u))
      by false u = record { is_good = g; over = u }

  finish_ready : (k : ℕ) (x : Watch) → Good x → left x ≤ k → Ready (finished n k x)
  unfolding finished
  finish_ready zero x g m = finish_last x g m
  finish_ready (suc k) x g m = finish_next k x g m (finish_ready k (resumed n x))

  byte_ready : (x : Watch) (b : ℕ) → Ready x → Ready (watched n x b)
  unfolding watched
  byte_ready x b r =
      let g = stepped_good n x b r.is_good in
      finish_ready most_times (stepped n x b) g (most (stepped n x b).page (stepped n x b).state g)

  all_ready : (l : List ℕ) (x : Watch) → Ready x → Ready (watched_all n x l)
  unfolding watched_all
  all_ready [] x r = r
  all_ready (b ∷ l) x r = all_ready l (watched n x b) (byte_ready x b r)

  -- a byte is taken outside a send
  answered : (p : List ℕ) (s : State) (b : ℕ) → good p s ≡ true → sends s.sending ≡ false
      → (step_rule p s b n).taken ≡ ltb (step_rule p s b n).answer 6
  unfolding step_rule
  answered p s b g u = rw (g, u)

  ready_taken : (x : Watch) (b : ℕ) → Ready x → (step_rule x.page x.state b n).taken ≡ true
  ready_taken x b r =
      let p = x.page in
      let s = x.state in
      let a = eqb-false (step_rule p s b n).answer 6 (step_taken p s b n r.is_good r.over h) in
      answered p s b r.is_good r.over
      ∙ lt-ltb (step_rule p s b n).answer 6 (omega (arith, step_good_most p s b n r.is_good r.over, a))

pub each_taken : EachTaken
each_taken wide m drawn bytes b n h =
    let x = starts wide m in
    ready_taken n h _ b (all_ready n h bytes (starting wide m drawn) (record { is_good = x.fine; over = x.quiet }))
