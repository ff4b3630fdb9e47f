-- How the code counts: what each byte does to what is known so far. That this is the count is shown in proofs/.
use Rattle.std.specs.Prelude.{Bool, not, List, [], ◌∷◌, ℕ, suc, ◌+◌, ◌-◌, ◌≤◌, leb, eqb, Err}
use Rattle.rules.specs.Cell.{pick, both, either}
use Rattle.counter.specs.declared.Refusal.{Refusal}
use Rattle.counter.specs.declared.text.Tally.{Tally}
use Rattle.counter.specs.Alphabet.{space, in_alphabet, cost}
use Rattle.counter.specs.Pieces.{is_mark}
use Rattle.counter.specs.Parts.{alone, of_several}
use Rattle.counter.specs.Count.{Counted, of_units, capped}

-- nothing counted yet: no part is open, so that the next character opens one
abbrev pub no_tally : Tally
no_tally = record { place = 0; units = 0; parts = 0; held = of_several }

-- a character of n units more
unfoldable pub tallied : Tally → ℕ → Tally
tallied t n = record {
  place = t.place + 1;
  units = capped (t.units + n);
  parts = pick (leb (t.held + n) of_several) t.parts (t.parts + 1);
  held = pick (leb (t.held + n) of_several) (t.held + n) n;
}

-- the parts of a text so tallied
unfoldable pub tally_parts : Tally → ℕ
tally_parts t = pick (eqb t.units 0) 0 (pick (leb t.units alone) 1 t.parts)

-- a tally of at most n bytes
pub record Within (t : Tally) (n : ℕ) : Type 0 where
  pub place : t.place ≤ n
  pub parts : t.parts ≤ n
  pub held : t.held ≤ of_several

-- ---- bytes, where `cut` says whether marks are cut out

unfoldable pub cuts : Bool → ℕ → Bool
cuts cut b = both cut (is_mark b)

-- what is left of a text when its marks are cut out
unfoldable pub remaining : Bool → List ℕ → List ℕ
remaining cut [] = []
remaining cut (b ∷ l) = let t = remaining cut l in pick (cuts cut b) t (b ∷ t)

unfoldable pub refuses : Bool → ℕ → Bool
refuses cut b = both (not (cuts cut b)) (not (in_alphabet b))

unfoldable pub advanced : Bool → Tally → ℕ → Tally
advanced cut t b = pick (cuts cut b) t (tallied t (cost b))

unfoldable pub walked : Bool → Tally → List ℕ → Counted
walked cut t [] = of_units t.units (tally_parts t)
walked cut t (b ∷ l) =
    let r = walked cut (advanced cut t b) l in
    pick (refuses cut b) (Err (Refusal.BadByte t.place)) r

-- without trailing spaces, and trailing marks that are cut out
unfoldable pub drops : Bool → ℕ → Bool
drops cut b = either (eqb b space) (cuts cut b)

unfoldable pub onto_stripped : Bool → ℕ → List ℕ → List ℕ
onto_stripped cut b [] = pick (drops cut b) [] (b ∷ [])
onto_stripped cut b (x ∷ l) = b ∷ x ∷ l

unfoldable pub stripped : Bool → List ℕ → List ℕ
stripped cut [] = []
stripped cut (b ∷ l) = onto_stripped cut b (stripped cut l)

-- ---- where pieces stand

-- how many marks
unfoldable pub marks_in : List ℕ → ℕ
marks_in [] = 0
marks_in (b ∷ l) = pick (is_mark b) 1 0 + marks_in l

-- the place behind mark number n; one behind the end where there are fewer marks
unfoldable pub past : ℕ → List ℕ → ℕ
past n [] = pick (eqb n 0) 0 1
past n (b ∷ l) = let r = past (n - pick (is_mark b) 1 0) l in pick (eqb n 0) 0 (suc r)
