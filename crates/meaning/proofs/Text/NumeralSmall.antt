-- A number that was read is at most too_large.
-- Assumes nothing.
use Prim.Native.Nat.{◌+◌, ◌≤◌, ℕ}
use mathlib.Core.Bool.{Bool, false}
use mathlib.Core.List.{List, [], ◌∷◌}
use mathlib.Core.Path.{◌≡◌}
use native.Mathlib.Omega.{arith}
use lib.Dec.{eqb, leb}
use lib.ListN.{drop, get_or}
use Rattle.meaning.proofs.Text.Choices.{by_pick, nonsense}
use Rattle.meaning.proofs.Text.NumeralLaws.{push_le}
use Rattle.meaning.specs.Text.Choice.{pick}
use Rattle.meaning.specs.Text.Lines.{field}
use Rattle.meaning.specs.Text.Numerals.{Numeral, digits, is_digit, negated, num, number, positive, push, stuck, too_large}

digits_small : (l : List ℕ) (at v : ℕ) (n : Bool) (w k : ℕ) → v ≤ too_large → digits l at v ≡ num n w k → w ≤ too_large
unfolding digits
digits_small [] at v n w k h e = let p : v ≡ w = cc in omega arith
digits_small (b ∷ bs) at v n w k h e =
    by_pick (is_digit b) (digits bs (at + 1) (push v b)) (num false v at) (num n w k) e
    (λ t q. digits_small bs (at + 1) (push v b) n w k (push_le v b) q) (λ t q. let p : v ≡ w = cc in omega arith)

positive_small : (l : List ℕ) (at : ℕ) (n : Bool) (w k : ℕ) → positive l at ≡ num n w k → w ≤ too_large
unfolding positive
positive_small [] at n w k e = nonsense (cc)
positive_small (b ∷ bs) at n w k e = by_pick (pick (leb 49 b) (leb b 57) false) (digits (b ∷ bs) at 0) (stuck at) (num n w k) e (λ t q. digits_small (b ∷ bs) at 0 n w k (omega arith) q) (λ t q. nonsense (cc))

negated_small : (x : Numeral) (n : Bool) (w k : ℕ) → negated x ≡ num n w k → ((m : Bool) → x ≡ num m w k → w ≤ too_large) → w ≤ too_large
unfolding negated
negated_small (num m v j) n w k e f = f m (cc)
negated_small (stuck j) n w k e f = nonsense (cc)

number_small : (m : Bool) (l : List ℕ) (at : ℕ) (n : Bool) (w k : ℕ) → number m l at ≡ num n w k → w ≤ too_large
unfolding number
number_small m [] at n w k e = nonsense (cc)
number_small m (b ∷ bs) at n w k e =
    by_pick (eqb b 48) (num false 0 (at + 1)) _ (num n w k) e (λ t q. let p : 0 ≡ w = cc in omega arith)
    (λ t q. by_pick (pick m (eqb b 45) false) _ _ (num n w k) q
    (λ u r. negated_small (positive bs (at + 1)) n w k r (λ x y. positive_small bs (at + 1) x w k y))
    (λ u r. positive_small (b ∷ bs) at n w k r))

pub field_small : (m : Bool) (s : List ℕ) (at : ℕ) (n : Bool) (w k : ℕ) → field m s at ≡ num n w k → w ≤ too_large
unfolding field
field_small m s at n w k e = by_pick (eqb (get_or s at 0) 32) _ _ _ e (λ t q. number_small m (drop (at + 1) s) (at + 1) n w k q) (λ t q. nonsense (cc))

-- ---- where no minus may stand, none is read

digits_plain : (l : List ℕ) (at v : ℕ) (n : Bool) (w k : ℕ) → digits l at v ≡ num n w k → n ≡ false
unfolding digits
digits_plain [] at v n w k e = cc
digits_plain (b ∷ bs) at v n w k e =
    by_pick (is_digit b) (digits bs (at + 1) (push v b)) (num false v at) (num n w k) e (λ t q. digits_plain bs (at + 1) (push v b) n w k q) (λ t q. cc)

positive_plain : (l : List ℕ) (at : ℕ) (n : Bool) (w k : ℕ) → positive l at ≡ num n w k → n ≡ false
unfolding positive
positive_plain [] at n w k e = nonsense (cc)
positive_plain (b ∷ bs) at n w k e = by_pick (pick (leb 49 b) (leb b 57) false) (digits (b ∷ bs) at 0) (stuck at) (num n w k) e (λ t q. digits_plain (b ∷ bs) at 0 n w k q) (λ t q. nonsense (cc))

number_plain : (l : List ℕ) (at : ℕ) (n : Bool) (w k : ℕ) → number false l at ≡ num n w k → n ≡ false
unfolding number
number_plain [] at n w k e = nonsense (cc)
number_plain (b ∷ bs) at n w k e =
    by_pick (eqb b 48) (num false 0 (at + 1)) _ (num n w k) e (λ t q. cc) (λ t q. positive_plain (b ∷ bs) at n w k q)

pub field_plain : (s : List ℕ) (at : ℕ) (n : Bool) (w k : ℕ) → field false s at ≡ num n w k → n ≡ false
unfolding field
field_plain s at n w k e = by_pick (eqb (get_or s at 0) 32) _ _ _ e (λ t q. number_plain (drop (at + 1) s) (at + 1) n w k q) (λ t q. nonsense (cc))
