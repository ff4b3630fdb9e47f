-- Laws of a text that is put into a room.
--     none, and, one, full                    a text in parts
--     within                                  where the text ends
--     decimal_put                             a number
-- Left, begin, go, byte_on, text_done, done          a loop that puts a text: what is left to put makes of the room what the whole makes of the first
-- Assumes nothing.
use Rattle.std.proofs.Common.{◌≡◌, ℕ, ◌+◌, ◌/◌, ◌<◌, ◌≤◌, Bool, true, false, ltb, leb, List, [], ◌∷◌, ◌++◌, length, get_or, drop, set, sym, refl, ap, ◌∙◌, subst, add-one, arith, length-set, drop_of_length-le, drop-cons, ltb-true, le-ltb, lt-ltb}
use Rattle.rules.specs.Cell.{pick}
use Rattle.rules.specs.Send.{digit}
use Rattle.alert.specs.Room.{Room, up_to, put_byte, put, Puts, decimal_of}

put_append : (x y : List ℕ) (r : Room) → put (x ++ y) r ≡ put y (put x r)
unfolding put
put_append [] y r = refl
put_append (b ∷ x) y r = put_append x y (put_byte b r.next r.bytes)

pub none : {n : ℕ} {w : List ℕ} → Puts [] n w n w
unfolding put
none = record { is = refl }

pub and : {x y : List ℕ} {n m r : ℕ} {w w' w'' : List ℕ} → Puts x n w m w' → Puts y m w' r w'' → Puts (x ++ y) n w r w''
and {x} {y} {n} {w = w} a b = record { is = b.is ∙ ap (put y) a.is ∙ sym (put_append x y (up_to n w)) }

pub one : {n : ℕ} (b : ℕ) {w : List ℕ} → n < length w → Puts (b ∷ []) n w (n + 1) (set w n b)
unfolding put
one {n} b {w} h = record { is = rw (lt-ltb n (length w) h) }

pub full : {n : ℕ} (b : ℕ) {w : List ℕ} → length w ≤ n → Puts (b ∷ []) n w n w
unfolding put
full {n} b {w} h = record { is = rw (le-ltb n (length w) h) }

-- to put x from place n of the room w on leaves what y leaves from place m of the room v on
pub record Left (x : List ℕ) (n : ℕ) (w y : List ℕ) (m : ℕ) (v : List ℕ) : Type 0 where
  pub is : put x (up_to n w) ≡ put y (up_to m v)

pub begin : {x : List ℕ} {n : ℕ} {w : List ℕ} → Left x n w x n w
begin = record { is = refl }

pub go : {a x y : List ℕ} {n n' m : ℕ} {w w' v : List ℕ} → Puts a n w n' w' → Left (a ++ x) n w y m v → Left x n' w' y m v
go {a} {x} {n = n} {w = w} p l = record { is = ap (put x) p.is ∙ sym (put_append a x (up_to n w)) ∙ l.is }

pub done : {y : List ℕ} {n m : ℕ} {w v : List ℕ} → Left [] n w y m v → Puts y m v n w
unfolding put
done l = record { is = l.is }

-- a byte of a text
pub byte_on : (text : List ℕ) (i : ℕ) {n n' m : ℕ} {w w' y v : List ℕ} → i < length text → Puts (get_or text i 0 ∷ []) n w n' w'
    → Left (drop i text) n w y m v → Left (drop (i + 1) text) n' w' y m v
byte_on text i h p l = go p (rw (add-one i, ← drop-cons text i 0 h) l)

-- the text is put
pub text_done : (text : List ℕ) (i : ℕ) {n m : ℕ} {w y v : List ℕ} → length text ≤ i → Left (drop i text) n w y m v → Puts y m v n w
text_done text i h l = done (rw (drop_of_length-le text {i = i} h) at l)

-- ---- the place after a text lies in the room

abbrev Inside : Room → Type 0
Inside r = r.next ≤ length r.bytes

step : (x : List ℕ) (b n : ℕ) (w : List ℕ) (t : Bool) → (t ≡ true → n < length w) → (n < length w → Inside (put x (up_to (n + 1) (set w n b))))
    → Inside (put x (up_to n w)) → Inside (put x (pick t (up_to (n + 1) (set w n b)) (up_to n w)))
step x b n w true e f g = f (e refl)
step x b n w false e f g = g

inside : (x : List ℕ) (n : ℕ) (w : List ℕ) → n ≤ length w → Inside (put x (up_to n w))
unfolding put
inside [] n w h = h
inside (b ∷ x) n w h =
    step x b n w (ltb n (length w)) (ltb-true n (length w)) (λ k. inside x (n + 1) (set w n b) (omega (arith, length-set w n b))) (inside x n w h)

pub within : {x : List ℕ} {n r : ℕ} {w v : List ℕ} → Puts x n w r v → n ≤ length w → r ≤ length v
within {x} {n} {w = w} p h = subst (λ (z : Room). Inside z) (sym p.is) (inside x n w h)

-- ---- numbers

pub decimal_put : (v : ℕ) {a b c d n n1 n2 n3 r : ℕ} {w w1 w2 w3 w4 : List ℕ} → a ≡ digit (v / 1000) → b ≡ digit (v / 100) → c ≡ digit (v / 10)
    → d ≡ digit v → Puts (pick (leb 1000 v) (a ∷ []) []) n w n1 w1 → Puts (pick (leb 100 v) (b ∷ []) []) n1 w1 n2 w2
    → Puts (pick (leb 10 v) (c ∷ []) []) n2 w2 n3 w3 → Puts (d ∷ []) n3 w3 r w4 → Puts (decimal_of v) n w r w4
unfolding decimal_of
decimal_put v ea eb ec ed p q s t = and (and (and (rw ea at p) (rw eb at q)) (rw ec at s)) (rw ed at t)
