-- Filling makes the fewest parts.
--     cost_some, cost_small     a character costs one unit or two
--     opened, opened_fits, opened_new, filling_length     how many parts filling opens
--     joined_onto               a byte before the first of some texts
--     fewest                    the statement of specs/Parts: no cutting has fewer parts, and filling, or the text alone, is one
-- Assumes nothing.
use mathlib.Core.Path.{◌≡◌, refl, sym, ap, ◌∙◌}
use mathlib.Core.Bool.{Bool, true, false}
use mathlib.Core.List.{List, [], ◌∷◌, ◌++◌, append-nil}
use Prim.Native.Nat.{ℕ, suc, ◌+◌, ◌≤◌, ◌<◌}
use native.Mathlib.Omega.{arith}
use lib.Dec.{leb, eqb}
use lib.ListN.{length}
use borrow.Author.Tests.{leb-true, leb-false, le-leb, lt-leb, eqb-true, eqb-false, eq-eqb, ne_eqb}
use Rattle.rules.specs.Cell.{pick}
use Rattle.rules.specs.Theorems.Noninterference.{any_of}
use Rattle.counter.specs.Alphabet.{two_unit_characters, cost, units}
use Rattle.counter.specs.Pieces.{onto, joined}
use Rattle.counter.specs.Parts.{alone, of_several, filling, parts, Small, none, more, Allowed, single, several, Cutting, Fewest}

-- ---- characters

pick_small : (t : Bool) → (1 ≤ pick t 2 1) × (pick t 2 1 ≤ 2)
pick_small true = (omega arith, omega arith)
pick_small false = (omega arith, omega arith)

-- a character costs one unit or two
pub cost_some : (b : ℕ) → 1 ≤ cost b
unfolding cost
cost_some b = (pick_small (any_of two_unit_characters b)).0

pub cost_small : (b : ℕ) → cost b ≤ 2
unfolding cost
cost_small b = (pick_small (any_of two_unit_characters b)).1

-- ---- parts opened, n units being in the part under way

unfoldable pub opened : ℕ → List ℕ → ℕ
opened n [] = 0
opened n (b ∷ l) = pick (leb (n + cost b) of_several) (opened (n + cost b) l) (suc (opened (cost b) l))

pub opened_fits : (n b : ℕ) (l : List ℕ) → n + cost b ≤ of_several → opened n (b ∷ l) ≡ opened (n + cost b) l
unfolding opened
opened_fits n b l h = rw (le-leb (n + cost b) of_several h)

pub opened_new : (n b : ℕ) (l : List ℕ) → of_several < n + cost b → opened n (b ∷ l) ≡ suc (opened (cost b) l)
unfolding opened
opened_new n b l h = rw (lt-leb (n + cost b) of_several h)

-- more in the part under way opens no fewer parts, and at most one more
pub record Near (n m : ℕ) (l : List ℕ) : Type 0 where
  pub least : n ≤ m → opened n l ≤ opened m l
  pub most : opened m l ≤ suc (opened n l)

near_next : (n m b : ℕ) (l : List ℕ) → Near (n + cost b) (m + cost b) l → Near (cost b) (n + cost b) l → Near (m + cost b) (cost b) l
    → (s t : Bool) → leb (n + cost b) of_several ≡ s → leb (m + cost b) of_several ≡ t → Near n m (b ∷ l)
near_next n m b l x y z true true e f =
    let p = opened_fits n b l (leb-true _ _ e) in
    let q = opened_fits m b l (leb-true _ _ f) in
    record { least = λ h. rw (p, q) (x.least (omega arith)); most = rw (p, q) x.most }
near_next n m b l x y z true false e f =
    let p = opened_fits n b l (leb-true _ _ e) in
    let q = opened_new m b l (leb-false _ _ f) in
    let u = y.most in
    let v = y.least (omega arith) in
    record { least = λ h. rw (p, q) u; most = rw (p, q) (omega arith) }
near_next n m b l x y z false true e f =
    let p = opened_new n b l (leb-false _ _ e) in
    let q = opened_fits m b l (leb-true _ _ f) in
    let u = z.most in
    let g : of_several < n + cost b = leb-false _ _ e in
    let k : m + cost b ≤ of_several = leb-true _ _ f in
    record { least = λ h. absurd (omega arith); most = rw (p, q) (omega arith) }
near_next n m b l x y z false false e f =
    let p = opened_new n b l (leb-false _ _ e) in
    let q = opened_new m b l (leb-false _ _ f) in
    record { least = λ h. rw (p, q) (omega arith); most = rw (p, q) (omega arith) }

near : (n m : ℕ) (l : List ℕ) → Near n m l
unfolding opened
near n m [] = record { least = λ h. omega arith; most = omega arith }
near n m (b ∷ l) =
    near_next n m b l (near (n + cost b) (m + cost b) l) (near (cost b) (n + cost b) l) (near (m + cost b) (cost b) l) (leb (n + cost b) of_several)
    (leb (m + cost b) of_several) refl refl

-- a text that fits goes into the part under way
opened_append : (n : ℕ) (t l : List ℕ) → n + units t ≤ of_several → opened n (t ++ l) ≡ opened (n + units t) l
unfolding units
opened_append n [] l h = let e : n ≡ n + 0 = omega arith in ap (λ (m : ℕ). opened m l) e
opened_append n (b ∷ t) l h =
    let e : n + cost b + units t ≡ n + (cost b + units t) = omega arith in
    opened_fits n b (t ++ l) (omega arith) ∙ opened_append (n + cost b) t l (omega arith) ∙ ap (λ (m : ℕ). opened m l) e

-- every cutting into parts of 153 has as many parts as filling opens, from a full part on
small_most : {ts : List (List ℕ)} → Small ts → opened of_several (joined ts) ≤ length ts
unfolding joined opened
small_most none = omega arith
small_most (more {t = t} {ts = ts} h x) =
    let a = (near 0 of_several (t ++ joined ts)).most in
    let b = opened_append 0 t (joined ts) (omega arith) in
    let c = (near (0 + units t) of_several (joined ts)).least (omega arith) in
    let d = small_most x in
    omega arith

-- ---- filling

length_onto : (b x : ℕ) (ts : List (List ℕ)) → length (onto b (onto x ts)) ≡ length (onto x ts)
unfolding onto
length_onto b x [] = refl
length_onto b x (t ∷ ts) = refl

onto_next : (b n x : ℕ) (l : List ℕ) → length (onto x (filling (n + cost x) l)) ≡ suc (opened (n + cost x) l)
    → length (onto x (filling (cost x) l)) ≡ suc (opened (cost x) l) → (t : Bool)
    → length (onto b (pick t (onto x (filling (n + cost x) l)) ([] ∷ onto x (filling (cost x) l))))
    ≡ suc (pick t (opened (n + cost x) l) (suc (opened (cost x) l)))
unfolding onto
onto_next b n x l p q true = length_onto b x (filling (n + cost x) l) ∙ p
onto_next b n x l p q false = ap suc q

onto_length : (b n : ℕ) (l : List ℕ) → length (onto b (filling n l)) ≡ suc (opened n l)
unfolding onto filling opened
onto_length b n [] = refl
onto_length b n (x ∷ l) =
    onto_next b n x l (onto_length x (n + cost x) l) (onto_length x (cost x) l) (leb (n + cost x) of_several)

-- filling from the start opens its parts as from a full part
pub filling_length : (l : List ℕ) → length (filling 0 l) ≡ opened of_several l
unfolding filling opened
filling_length [] = refl
filling_length (b ∷ l) =
    let h = cost_some b in
    let k = cost_small b in
    let e : 0 + cost b ≡ cost b = omega arith in
    rw (le-leb (0 + cost b) of_several (omega arith), lt-leb (of_several + cost b) of_several (omega arith))
    (onto_length b (0 + cost b) l ∙ ap (λ (n : ℕ). suc (opened n l)) e)

pub joined_onto : (b : ℕ) (ts : List (List ℕ)) → joined (onto b ts) ≡ b ∷ joined ts
unfolding onto joined
joined_onto b [] = refl
joined_onto b (t ∷ ts) = refl

-- the parts joined are the text
filling_next : (n b : ℕ) (l : List ℕ) → joined (filling (n + cost b) l) ≡ l → joined (filling (cost b) l) ≡ l → (t : Bool)
    → joined (pick t (onto b (filling (n + cost b) l)) ([] ∷ onto b (filling (cost b) l))) ≡ b ∷ l
unfolding joined
filling_next n b l p q true = joined_onto b (filling (n + cost b) l) ∙ ap (λ (t : List ℕ). b ∷ t) p
filling_next n b l p q false = joined_onto b (filling (cost b) l) ∙ ap (λ (t : List ℕ). b ∷ t) q

filling_text : (n : ℕ) (l : List ℕ) → joined (filling n l) ≡ l
unfolding filling joined
filling_text n [] = refl
filling_text n (b ∷ l) = filling_next n b l (filling_text (n + cost b) l) (filling_text (cost b) l) (leb (n + cost b) of_several)

-- the first of some texts goes into a part that holds n units
data First (n : ℕ) : List (List ℕ) → Type 0 where
  nothing : First n []
  some : {t : List ℕ} {ts : List (List ℕ)} → n + units t ≤ of_several → Small ts → First n (t ∷ ts)

first_small : {n : ℕ} {ts : List (List ℕ)} → First n ts → Small ts
first_small nothing = none
first_small {n} (some {t = t} h x) = more {t = t} (omega arith) x

onto_first : {n : ℕ} {ts : List (List ℕ)} (b : ℕ) → n + cost b ≤ of_several → First (n + cost b) ts → First n (onto b ts)
unfolding onto units
onto_first {n} b h nothing = some {t = b ∷ []} (omega arith) none
onto_first {n} b h (some {t = t} k x) = some {t = b ∷ t} (omega arith) x

first_next : (n b : ℕ) (l : List ℕ) → n ≤ of_several → (n + cost b ≤ of_several → First (n + cost b) (filling (n + cost b) l))
    → First (cost b) (filling (cost b) l) → (t : Bool) → leb (n + cost b) of_several ≡ t
    → First n (pick t (onto b (filling (n + cost b) l)) ([] ∷ onto b (filling (cost b) l)))
unfolding units
first_next n b l h p q true e = let k = leb-true (n + cost b) of_several e in onto_first b k (p k)
first_next n b l h p q false e =
    some {t = []} (omega arith) (first_small (onto_first {n = 0} b (omega (arith, cost_small b)) q'))
  where
    q' : First (0 + cost b) (filling (cost b) l)
    q' = let z : 0 + cost b ≡ cost b = omega arith in rw z q

first_filling : (n : ℕ) (l : List ℕ) → n ≤ of_several → First n (filling n l)
unfolding filling
first_filling n [] h = nothing
first_filling n (b ∷ l) h =
    first_next n b l h (first_filling (n + cost b) l) (first_filling (cost b) l (omega (arith, cost_small b))) (leb (n + cost b) of_several) refl

-- ---- the fewest

no_units : (l : List ℕ) → units l ≡ 0 → l ≡ []
unfolding units
no_units [] e = refl
no_units (b ∷ l) e = absurd (omega (arith, cost_some b))

-- what is counted, by the units of the text
parts_none : (l : List ℕ) → units l ≡ 0 → parts l ≡ 0
unfolding parts
parts_none l e = rw (eq-eqb (units l) 0 e)

parts_one : (l : List ℕ) → (units l ≡ 0 → ⊥) → units l ≤ alone → parts l ≡ 1
unfolding parts
parts_one l e h = rw (ne_eqb (units l) 0 e, le-leb (units l) alone h)

parts_several : (l : List ℕ) → alone < units l → parts l ≡ length (filling 0 l)
unfolding parts
parts_several l h = rw (ne_eqb (units l) 0 (λ e. omega arith), lt-leb (units l) alone h)

least_small : (l : List ℕ) (ts : List (List ℕ)) → joined ts ≡ l → Small ts → (s t : Bool) → eqb (units l) 0 ≡ s → leb (units l) alone ≡ t
    → parts l ≤ length ts
unfolding joined units
least_small l ts e x true t f g = let z = parts_none l (eqb-true _ _ f) in omega arith
least_small l [] e x false true f g = absurd (eqb-false (units l) 0 f (sym (ap units e)))
least_small l (u ∷ ts) e x false true f g =
    let z = parts_one l (eqb-false _ _ f) (leb-true _ _ g) in omega arith
least_small l ts e x false false f g =
    let z = parts_several l (leb-false _ _ g) in
    let y = filling_length l in
    let w : opened of_several l ≤ length ts = rw e at (small_most x) in
    omega arith

least_single : (l t : List ℕ) → t ++ [] ≡ l → units t ≤ alone → (s : Bool) → eqb (units l) 0 ≡ s → parts l ≤ 1
least_single l t e h true f = let z = parts_none l (eqb-true _ _ f) in omega arith
least_single l t e h false f =
    let u : units l ≤ alone = rw (← e, append-nil) h in
    let z = parts_one l (eqb-false _ _ f) u in
    omega arith

least : (l : List ℕ) {ts : List (List ℕ)} → joined ts ≡ l → Allowed ts → parts l ≤ length ts
unfolding joined
least l e (single {t = t} h) = least_single l t e h (eqb (units l) 0) refl
least l e (several {ts = ts} x) = least_small l ts e x (eqb (units l) 0) (leb (units l) alone) refl refl

reached : (l : List ℕ) (s t : Bool) → eqb (units l) 0 ≡ s → leb (units l) alone ≡ t → (ts : List (List ℕ)) × Cutting l ts × (length ts ≡ parts l)
unfolding joined
reached l true t f g =
    let e = eqb-true (units l) 0 f in
    ([], record { text = sym (no_units l e); sizes = several none }, sym (parts_none l e))
reached l false true f g =
    let h = leb-true (units l) alone g in
    (l ∷ [], record { text = append-nil l; sizes = single h }, sym (parts_one l (eqb-false _ _ f) h))
reached l false false f g = (
  filling 0 l,
  record { text = filling_text 0 l; sizes = several (first_small (first_filling 0 l (omega arith))) },
  sym (parts_several l (leb-false _ _ g)),
)

pub fewest : Fewest
fewest l = (λ ts x. least l x.text x.sizes, reached l (eqb (units l) 0) (leb (units l) alone) refl refl)
