-- Laws of a search.
--     hit, miss, first_none, hit_last, miss_last, last_none     one turn of a loop that looks at one cell
--     around_here, around_wrapped, around_none, back_here, back_wrapped     a search that wraps, by what its two searches found
--     guard_at, open_at, start_at, length_sought     what is known of each cell
--     first_range, last_range, around_range, back_range, edit_range     where a search ends
-- Assumes nothing.
use mathlib.Core.Path.{◌≡◌, refl, sym, ap, ◌∙◌}
use mathlib.Core.List.{List, [], ◌∷◌, ◌++◌}
use mathlib.Core.Bool.{Bool, true, false, not}
use Prim.Native.Nat.{ℕ, zero, suc, ◌+◌, ◌-◌, ◌*◌, ◌≤◌, ◌<◌}
use native.Mathlib.Nat.{le_of_suc-le-suc, not-suc-le-zero, zero-add, add-zero}
use native.Mathlib.Numerals.{add-one}
use native.Mathlib.Omega.{arith}
use lib.ListN.{length, get_or, take, drop}
use lib.Dec.{ltb, eqb, eqb-suc-zero}
use borrow.Author.Tests.{lt-ltb, le-ltb, ltb-true}
use lib.Seq.{length-take-le, slice, slice-cons, slice_empty, length-slice, take-suc, drop-append-le}
use Rattle.rules.specs.Cell.{pick, both, either, guarded}
use Rattle.rules.specs.Row.{Width, row_end}
use Rattle.rules.proofs.Rows.{row_after_lem, row_inside}
use Rattle.rules.specs.Search.{guarded_at, others, which_cells, sought_at, starts_from, first_true, last_true, first_in, last_in, around, around_back}
use Rattle.rules.specs.Search.{edit_end}
use Rattle.rules.specs.declared.Sought.{Sought}
use Rattle.rules.specs.declared.Sought.TheVariants as Sought

-- going up from a to e: b says whether the cell at a is sought
module _ (m : List Bool) (a e : ℕ) {b : Bool} (h : a < e) (k : e ≤ length m) (s : b ≡ get_or m a false) where
  pub hit : b ≡ true → first_in m a e ≡ a
  unfolding first_in
  hit t = rw (slice-cons a e m false h k, ← s, t)

  pub miss : b ≡ false → first_in m a e ≡ first_in m (a + 1) e
  unfolding first_in
  miss t = rw (slice-cons a e m false h k, ← s, t, add-one)

pub first_none : (m : List Bool) (e : ℕ) → first_in m e e ≡ e
unfolding first_in
first_none m e = rw slice_empty

last_snoc : (none at : ℕ) (m : List Bool) (b : Bool) → last_true none at (m ++ b ∷ []) ≡ pick b (at + length m) (last_true none at m)
last_snoc none at [] true = omega arith
last_snoc none at [] false = refl
last_snoc none at (true ∷ m) b = last_snoc at (suc at) m b ∙ ap (λ (k : ℕ). pick b k (last_true at (suc at) m)) (omega arith)
last_snoc none at (false ∷ m) b = last_snoc none (suc at) m b ∙ ap (λ (k : ℕ). pick b k (last_true none (suc at) m)) (omega arith)

-- going down from e to a: b says whether the cell before e is sought
module _ (none : ℕ) (m : List Bool) (a e : ℕ) {b : Bool} (h : a < e) (k : e ≤ length m) (s : b ≡ get_or m (e - 1) false) where
  last_step : last_in none m a e ≡ pick b (e - 1) (last_in none m a (e - 1))
  unfolding last_in
  last_step =
      let n : e ≡ suc (e - 1) = omega arith in
      let l : length (take (e - 1) m) ≡ e - 1 = length-take-le (e - 1) m (omega arith) in
      let cut : slice a e m ≡ slice a (e - 1) m ++ get_or m (e - 1) false ∷ [] =
      ap (λ (j : ℕ). slice a j m) n ∙ ap (drop a) (take-suc m (e - 1) false (omega arith))
      ∙ drop-append-le a (take (e - 1) m) (get_or m (e - 1) false ∷ []) (omega arith) in
      let w : a + length (slice a (e - 1) m) ≡ e - 1 = omega (arith, length-slice a (e - 1) m (omega arith)) in
      ap (last_true none a) cut ∙ last_snoc none a (slice a (e - 1) m) (get_or m (e - 1) false) ∙ rw (w, ← s)

  pub hit_last : b ≡ true → last_in none m a e ≡ e - 1
  hit_last t = last_step ∙ rw t

  pub miss_last : b ≡ false → last_in none m a e ≡ last_in none m a (e - 1)
  miss_last t = last_step ∙ rw t

pub last_none : (none : ℕ) (m : List Bool) (a : ℕ) → last_in none m a a ≡ none
unfolding last_in
last_none none m a = rw slice_empty

module _ (m : List Bool) (first end from : ℕ) {r : ℕ} (e : r ≡ first_in m from end) where
  pub around_here : r < end → r ≡ around m first end from
  unfolding around
  around_here h = rw (← e, lt-ltb r end h)

  module _ (h : end ≤ r) {q : ℕ} (f : q ≡ first_in m first end) where
    pub around_wrapped : q < end → q ≡ around m first end from
    unfolding around
    around_wrapped k = rw (← e, le-ltb r end h, ← f, lt-ltb q end k)

    pub around_none : end ≤ q → first ≡ around m first end from
    unfolding around
    around_none k = rw (← e, le-ltb r end h, ← f, le-ltb q end k)

module _ (m : List Bool) (first end from : ℕ) {r : ℕ} (e : r ≡ last_in end m first from) where
  pub back_here : r < end → r ≡ around_back m first end from
  unfolding around_back
  back_here h = rw (← e, lt-ltb r end h)

  pub back_wrapped : end ≤ r → {q : ℕ} → q ≡ last_in first m first end → q ≡ around_back m first end from
  unfolding around_back
  back_wrapped h f = rw (← e, le-ltb r end h) f

-- ---- what is known of each cell

pub length_by : (f : ℕ → Bool) (p : List ℕ) → length (which_cells f p) ≡ length p
unfolding which_cells
length_by f [] = refl
length_by f (v ∷ p) = ap suc (length_by f p)

pub length_guards : (on : Bool) (p : List ℕ) → length (guarded_at on p) ≡ length p
length_guards on p = length_by (guarded on) p

pub length_others : (g : List Bool) → length (others g) ≡ length g
unfolding others
length_others [] = refl
length_others (b ∷ g) = ap suc (length_others g)

length_starts : (first at : ℕ) (after : Bool) (g : List Bool) → length (starts_from first at after g) ≡ length g
unfolding starts_from
length_starts first at after [] = refl
length_starts first at after (b ∷ g) = ap suc (length_starts first (suc at) b g)

pub length_sought : (k : Sought) (g : List Bool) → length (sought_at k g) ≡ length g
length_sought Sought.Open g = length_others g
length_sought Sought.Guarded g = refl
length_sought (Sought.FieldStart first) g = length_starts first 0 true g

pub guard_at : (on : Bool) (p : List ℕ) (i : ℕ) → i < length p → get_or (guarded_at on p) i false ≡ guarded on (get_or p i 0)
unfolding which_cells
guard_at on [] i h = absurd (not-suc-le-zero h)
guard_at on (v ∷ p) zero h = refl
guard_at on (v ∷ p) (suc i) h = guard_at on p i (le_of_suc-le-suc h)

pub open_at : (g : List Bool) (i : ℕ) → i < length g → get_or (others g) i false ≡ not (get_or g i false)
unfolding others
open_at [] i h = absurd (not-suc-le-zero h)
open_at (b ∷ g) zero h = refl
open_at (b ∷ g) (suc i) h = open_at g i (le_of_suc-le-suc h)

-- whether the cell before cell i of the list is guarded: b says so of what is before the list
abbrev before : Bool → List Bool → ℕ → Bool
before b g zero = b
before b g (suc j) = get_or g j false

before_cons : (b c : Bool) (g : List Bool) (j : ℕ) → before c g j ≡ before b (c ∷ g) (suc j)
before_cons b c g zero = refl
before_cons b c g (suc j) = refl

starts_from_at : (first k : ℕ) (b : Bool) (g : List Bool) (i : ℕ) → i < length g
    → get_or (starts_from first k b g) i false ≡ both (not (get_or g i false)) (either (eqb (k + i) first) (before b g i))
unfolding starts_from
starts_from_at first k b [] i h = absurd (not-suc-le-zero h)
starts_from_at first k b (c ∷ g) zero h = rw add-zero
starts_from_at first k b (c ∷ g) (suc j) h =
    let e : suc k + j ≡ k + suc j = omega arith in
    starts_from_at first (suc k) c g j (le_of_suc-le-suc h) ∙ rw (e, before_cons b c g j)

before_start : (g : List Bool) (i : ℕ) → before true g i ≡ either (eqb i 0) (get_or g (i - 1) false)
before_start g zero = refl
before_start g (suc j) =
    let e : suc j - 1 ≡ j = omega arith in
    rw (eqb-suc-zero, e)

pub start_at : (first : ℕ) (g : List Bool) (i : ℕ) → i < length g
    → get_or (sought_at (Sought.FieldStart first) g) i false
    ≡ both (not (get_or g i false)) (either (eqb i first) (either (eqb i 0) (get_or g (i - 1) false)))
start_at first g i h = starts_from_at first 0 true g i h ∙ rw (zero-add, before_start g i)

-- ---- where a search ends

first_from : (at : ℕ) (m : List Bool) → (at ≤ first_true at m) × (first_true at m ≤ at + length m)
first_from at [] = omega arith
first_from at (true ∷ m) = omega arith
first_from at (false ∷ m) = let r = first_from (suc at) m in omega arith

last_from : (none at lo hi : ℕ) (m : List Bool) → lo ≤ none → none ≤ hi → lo ≤ at → at + length m ≤ hi + 1 → (lo ≤ last_true none at m)
    × (last_true none at m ≤ hi)
last_from none at lo hi [] a b c d = omega arith
last_from none at lo hi (true ∷ m) a b c d = last_from at (suc at) lo hi m (omega arith) (omega arith) (omega arith) (omega arith)
last_from none at lo hi (false ∷ m) a b c d = last_from none (suc at) lo hi m (omega arith) (omega arith) (omega arith) (omega arith)

module _ (m : List Bool) where
  pub first_range : (a e : ℕ) → a ≤ e → e ≤ length m → (a ≤ first_in m a e) × (first_in m a e ≤ e)
  unfolding first_in
  first_range a e h k = let r = first_from a (slice a e m) in omega (arith, length-slice a e m k)

  pub last_range : (none a e hi : ℕ) → a ≤ e → e ≤ length m → a ≤ none → none ≤ hi → e ≤ hi + 1 → (a ≤ last_in none m a e) × (last_in none m a e ≤ hi)
  unfolding last_in
  last_range none a e hi h k n b d = last_from none a a hi (slice a e m) n b (omega arith) (omega (arith, length-slice a e m k))

  -- a search that wraps ends inside its segment
  pub around_range : (first end from : ℕ) → first < end → first ≤ from → from ≤ end → end ≤ length m
      → (first ≤ around m first end from) × (around m first end from < end)
  unfolding around
  around_range first end from h a b k =
      picked (ltb (first_in m from end) end) (ltb (first_in m first end) end) (ltb-true (first_in m from end) end) (ltb-true (first_in m first end) end)
      (first_range from end b k) (first_range first end (omega arith) k)
    where
      picked : (s t : Bool) → (s ≡ true → first_in m from end < end) → (t ≡ true → first_in m first end < end)
          → (from ≤ first_in m from end) × (first_in m from end ≤ end) → (first ≤ first_in m first end) × (first_in m first end ≤ end)
          → (first ≤ pick s (first_in m from end) (pick t (first_in m first end) first))
          × (pick s (first_in m from end) (pick t (first_in m first end) first) < end)
      picked true t p q r o = let x = p refl in omega arith
      picked false true p q r o = let x = q refl in omega arith
      picked false false p q r o = omega arith

  pub back_range : (first end from : ℕ) → first < end → first ≤ from → from ≤ end → end ≤ length m
      → (first ≤ around_back m first end from) × (around_back m first end from < end)
  unfolding around_back
  back_range first end from h a b k =
      picked (ltb (last_in end m first from) end) (ltb-true (last_in end m first from) end)
      (last_range end first from end a (omega arith) (omega arith) (omega arith) (omega arith))
      (last_range first first end (end - 1) (omega arith) k (omega arith) (omega arith) (omega arith))
    where
      picked : (s : Bool) → (s ≡ true → last_in end m first from < end)
          → (first ≤ last_in end m first from) × (last_in end m first from ≤ end) → (first ≤ last_in first m first end)
          × (last_in first m first end ≤ end - 1)
          → (first ≤ pick s (last_in end m first from) (last_in first m first end))
          × (pick s (last_in end m first from) (last_in first m first end) < end)
      picked true p r o = let x = p refl in omega arith
      picked false p r o = omega arith

-- the edit run lies in the page
pub edit_range : (w : ℕ) (g : List Bool) (at : ℕ) → Width w → length g ≡ 24 * w → at < 24 * w → (at ≤ edit_end w g at) × (edit_end w g at ≤ length g)
edit_range w g at k n h =
    let r = first_range g at (row_end w at) (omega (arith, row_after_lem k at)) (omega (arith, row_inside k at h)) in
    omega (arith, row_inside k at h)
