-- Laws of the loop that reads a decimal number. Assumes nothing.
use Rattle.std.proofs.Common.{◌≡◌, ℕ, ◌+◌, ◌*◌, ◌<◌, ◌≤◌, Bool, true, false, ltb, Option, Some, None, List, [], ◌∷◌, length, get_or, drop, sym, refl, ◌∙◌, add-one, arith, drop_of_length-le, drop-cons, le-ltb, lt-ltb}
use Rattle.rules.specs.Cell.{both}
use Rattle.replay_text.specs.Text.{below, limit, decimal_digit, are_digits, value, number_of}

pub both_false : (t : Bool) → both t false ≡ false
both_false true = refl
both_false false = refl

-- a number below n, or nothing
pub below_none : (n x : ℕ) → below n x ≡ None → n ≤ x
below_none n x e = grind arith

pub below_some : (n x : ℕ) {d : ℕ} → below n x ≡ Some d → (d ≡ x) × (d < n)
below_some n x e = (grind arith, grind arith)

pub value_grows : (n : ℕ) (w : List ℕ) → n ≤ value n w
unfolding value
value_grows n [] = omega arith
value_grows n (c ∷ w) = omega (arith, value_grows (n * 10 + decimal_digit c) w)

-- after i digits the number is n
pub record Reading (w : List ℕ) (n i : ℕ) : Type 0 where
  pub within : i ≤ length w
  pub small : n < limit
  pub digits : are_digits w ≡ are_digits (drop i w)
  pub number : value 0 w ≡ value n (drop i w)

pub read_start : (w : List ℕ) → Reading w 0 0
read_start w = record { within = omega arith; small = omega arith; digits = refl; number = refl }

-- an empty word spells no number
pub read_none : (w : List ℕ) → length w ≡ 0 → None ≡ number_of w
read_none w e = rw (le-ltb 0 (length w) (omega arith))

module _ {w : List ℕ} {n i : ℕ} (v : Reading w n i) where
  pub read_end : 0 < length w → length w ≤ i → Some n ≡ number_of w
  unfolding are_digits value
  read_end p h =
      let d : are_digits w ≡ true = v.digits ∙ rw (drop_of_length-le w h) in
      let e : value 0 w ≡ n = v.number ∙ rw (drop_of_length-le w h) in
      rw (lt-ltb 0 (length w) p, d, e, lt-ltb n limit v.small)

  -- the next byte, as a digit
  module _ (h : i < length w) where
    next_digits : {d : ℕ} → d ≡ decimal_digit (get_or w i 0) → are_digits (drop i w) ≡ both (ltb d 10) (are_digits (drop (i + 1) w))
    unfolding are_digits
    next_digits q = rw (add-one, drop-cons w i 0 h, q)

    next_value : {d : ℕ} → d ≡ decimal_digit (get_or w i 0) → value n (drop i w) ≡ value (n * 10 + d) (drop (i + 1) w)
    unfolding value
    next_value q = rw (add-one, drop-cons w i 0 h, q)

    pub read_bad : {r : Option ℕ} → r ≡ below 10 (decimal_digit (get_or w i 0)) → r ≡ None → None ≡ number_of w
    read_bad q k =
        let l : 10 ≤ decimal_digit (get_or w i 0) = below_none _ _ (sym q ∙ k) in
        let e : are_digits w ≡ false = v.digits ∙ next_digits refl ∙ rw (le-ltb (decimal_digit (get_or w i 0)) 10 l) in
        rw (lt-ltb 0 (length w) (omega arith), e)

    -- a digit
    module _ {r : Option ℕ} {d : ℕ} (q : r ≡ below 10 (decimal_digit (get_or w i 0))) (k : r ≡ Some d) where
      digit : (d ≡ decimal_digit (get_or w i 0)) × (d < 10)
      digit = below_some _ _ (sym q ∙ k)

      pub read_on : n * 10 + d < limit → Reading w (n * 10 + d) (i + 1)
      read_on l = record {
        within = omega arith;
        small = l;
        digits = v.digits ∙ next_digits digit.0 ∙ rw (lt-ltb d 10 digit.1);
        number = v.number ∙ next_value digit.0;
      }

      pub read_large : limit ≤ n * 10 + d → None ≡ number_of w
      read_large j =
          let l : limit ≤ value 0 w = omega (arith, v.number, next_value digit.0, value_grows (n * 10 + d) (drop (i + 1) w)) in
          rw (lt-ltb 0 (length w) (omega arith), le-ltb (value 0 w) limit l, both_false (are_digits w))
