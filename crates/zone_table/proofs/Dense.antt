-- What is collected without a gap: its places, its parts and how long it is; and the claims of the first zones.
-- Assumes nothing.
use Prim.Native.Nat.{ℕ, zero, suc, ◌+◌, ◌-◌, ◌≤◌, ◌<◌}
use mathlib.Core.Path.{◌≡◌, refl, sym, ◌∙◌, ap}
use mathlib.Core.Bool.{Bool, true, false}
use mathlib.Core.List.{List, [], ◌∷◌, ◌++◌, append_assoc, append-nil, map}
use mathlib.Core.Option.{some}
use native.Mathlib.Omega.{arith}
use native.Mathlib.Nat.{add-zero}
use lib.ListN.{length, get_or, get_elem?, take, length-append}
use lib.Seq.{take_all, take-append-le}
use Rattle.meaning.specs.Text.Choice.{pick}
use Rattle.meaning.specs.Text.ModelTable.{collect}
use Rattle.meaning.specs.Text.ModelReader.{words}
use Rattle.meaning.specs.Text.RightModel.{Each}
use Rattle.meaning.specs.Text.ProposalTable.{all_claims, pool_start, start_in, end_in, claims_in, zone_in}
use Rattle.meaning.specs.Zones.Zone.{Zone}
use Rattle.meaning.proofs.Text.Choices.{by_lt}

module _ {A : Type 0} where
  -- f 0, f 1, .., n of them
  abbrev pub dense : ℕ → (ℕ → A) → List A
  dense n f = collect n (λ x. true) f

  pub dense_length : (n : ℕ) (f : ℕ → A) → length (dense n f) ≡ n
  unfolding collect
  dense_length zero f = refl
  dense_length (suc n) f = length-append (dense n f) (f n ∷ []) ∙ omega (arith, dense_length n f)

  nth_left : (xs ys : List A) (k : ℕ) → k < length xs → get_elem? (xs ++ ys) k ≡ get_elem? xs k
  nth_left [] ys k h = absurd (omega arith)
  nth_left (x ∷ xs) ys zero h = refl
  nth_left (x ∷ xs) ys (suc k) h = nth_left xs ys k (omega arith)

  nth_last : (xs : List A) (y : A) (k : ℕ) → k ≡ length xs → get_elem? (xs ++ y ∷ []) k ≡ some y
  nth_last [] y k h = rw h
  nth_last (x ∷ xs) y k h = rw h (nth_last xs y (length xs) refl)

  pub dense_nth : (n : ℕ) (f : ℕ → A) (k : ℕ) → k < n → get_elem? (dense n f) k ≡ some (f k)
  unfolding collect
  dense_nth zero f k h = absurd (omega arith)
  dense_nth (suc n) f k h =
      by_lt k n
      (λ l. nth_left (dense n f) (f n ∷ []) k (omega (arith, dense_length n f)) ∙ dense_nth n f k l)
      (λ l. let z : k ≡ n = omega arith in rw z (nth_last (dense n f) (f n) n (sym (dense_length n f))))

  -- the first k of them
  pub dense_take : (n : ℕ) (f : ℕ → A) (k : ℕ) → k ≤ n → take k (dense n f) ≡ dense k f
  unfolding collect
  dense_take zero f k h = let z : k ≡ 0 = omega arith in rw z
  dense_take (suc n) f k h =
      by_lt k (suc n)
      (λ l. take-append-le k (dense n f) (f n ∷ []) (omega (arith, dense_length n f)) ∙ dense_take n f k (omega arith))
      (λ l. let z : k ≡ suc n = omega arith in rw z (take_all (suc n) (dense n f ++ f n ∷ []) (omega (arith, length-append (dense n f) (f n ∷ []), dense_length n f))))

  -- where the test holds of the first n and of no other, those are collected
  pub collect_dense : (N n : ℕ) (p : ℕ → Bool) (f : ℕ → A) → n ≤ N → ((k : ℕ) → k < n → p k ≡ true) → ((k : ℕ) → k < N → n ≤ k → p k ≡ false) → collect N p f ≡ dense n f
  unfolding collect
  collect_dense zero n p f h a b = let z : n ≡ 0 = omega arith in rw z
  collect_dense (suc N) n p f h a b =
      by_lt N n
      (λ l.
      let z : n ≡ suc N = omega arith in
      rw (z, a N l) (ap (λ (xs : List A). xs ++ f N ∷ []) (collect_dense N N p f (omega arith) (λ k i. a k (omega arith)) (λ k i j. absurd (omega arith)))))
      (λ l. rw (b N (omega arith) l, append-nil) (collect_dense N n p f l a (λ k i j. b k (omega arith) j)))

  -- where as many hold as are collected, and these are the first, no other holds
  collect_more : (n : ℕ) (p : ℕ → Bool) (f : ℕ → A) → length (collect (suc n) p f) ≡ length (collect n p f) + length (pick (p n) (f n ∷ []) [])
  unfolding collect
  collect_more n p f = length-append (collect n p f) (pick (p n) (f n ∷ []) [])

  collect_le : (k n : ℕ) (p : ℕ → Bool) (f : ℕ → A) → k ≤ n → length (collect k p f) ≤ length (collect n p f)
  collect_le k zero p f h = let z : k ≡ 0 = omega arith in rw z (omega arith)
  collect_le k (suc n) p f h =
      by_lt k (suc n) (λ l. omega (arith, collect_le k n p f (omega arith), collect_more n p f)) (λ l. let z : k ≡ suc n = omega arith in rw z (omega arith))

  pub collect_front : (N n : ℕ) (p : ℕ → Bool) (f : ℕ → A) → n ≡ length (collect N p f) → ((k : ℕ) → k < n → p k ≡ true) → (k : ℕ) → k < N → n ≤ k → p k ≡ false
  collect_front N n p f e a k h l = go (p k) refl
    where
      go : (b : Bool) → p k ≡ b → p k ≡ false
      go false i = i
      go true i =
          let u = ap length (collect_dense n n p f (omega arith) a (λ x y z. absurd (omega arith))) ∙ dense_length n f in
          let v = collect_le n k p f l in
          let w = collect_more k p f ∙ ap (λ (b : Bool). length (collect k p f) + length (pick b (f k ∷ []) [])) i in
          absurd (omega (arith, u, v, w, collect_le (suc k) N p f (omega arith)))

  -- each of what was collected
  each_left : (P : A → Type 0) (xs ys : List A) → Each P (xs ++ ys) → Each P xs
  each_left P [] ys a = tt
  each_left P (x ∷ xs) ys a = (a.0, each_left P xs ys a.1)

  each_last : (P : A → Type 0) (xs : List A) (y : A) → Each P (xs ++ y ∷ []) → P y
  each_last P [] y a = a.0
  each_last P (x ∷ xs) y a = each_last P xs y a.1

  pub collect_each : (P : A → Type 0) (N : ℕ) (p : ℕ → Bool) (f : ℕ → A) → Each P (collect N p f) → (k : ℕ) → k < N → p k ≡ true → P (f k)
  unfolding collect
  collect_each P zero p f a k h e = absurd (omega arith)
  collect_each P (suc N) p f a k h e =
      by_lt k N
      (λ l. collect_each P N p f (each_left P (collect N p f) (pick (p N) (f N ∷ []) []) a) k l e)
      (λ l. let z : k ≡ N = omega arith in rw z (each_last P (collect N p f) (f N) (rw (rw z at e) at a)))

-- ---- cells in a row

pub words_length : (t : List ℕ) (k n : ℕ) → length (map (λ (x : ℕ). x - 1) (words t k n)) ≡ n
unfolding words
words_length t k zero = refl
words_length t k (suc n) = ap suc (words_length t (suc k) n)

pub words_append : (t : List ℕ) (k a b : ℕ) → map (λ (x : ℕ). x - 1) (words t k (a + b)) ≡ map (λ (x : ℕ). x - 1) (words t k a) ++ map (λ (x : ℕ). x - 1) (words t (k + a) b)
unfolding words
words_append t k zero b = let z : 0 + b ≡ b = omega arith in rw (z, add-zero k)
words_append t k (suc a) b =
    let z : suc a + b ≡ suc (a + b) = omega arith in
    let y : k + suc a ≡ suc k + a = omega arith in
    rw (z, y) (ap (λ (l : List ℕ). (get_or t k 0 - 1) ∷ l) (words_append t (suc k) a b))

pub words_nth : (t : List ℕ) (k n x : ℕ) → x < n → get_elem? (map (λ (x : ℕ). x - 1) (words t k n)) x ≡ some (get_or t (k + x) 0 - 1)
unfolding words
words_nth t k zero x h = absurd (omega arith)
words_nth t k (suc n) zero h = rw (add-zero k)
words_nth t k (suc n) (suc x) h = let z : k + suc x ≡ suc k + x = omega arith in rw z (words_nth t (suc k) n x (omega arith))

-- ---- the claims of the first zones

claims_append : (xs ys : List Zone) → all_claims (xs ++ ys) ≡ all_claims xs ++ all_claims ys
claims_append [] ys = refl
claims_append (z ∷ xs) ys = ap (λ (l : List ℕ). z.claims ++ l) (claims_append xs ys) ∙ sym (append_assoc z.claims (all_claims xs) (all_claims ys))

pub claims_more : (k : ℕ) (f : ℕ → Zone) → all_claims (dense (suc k) f) ≡ all_claims (dense k f) ++ (f k).claims
unfolding collect
claims_more k f = claims_append (dense k f) (f k ∷ []) ∙ ap (λ (l : List ℕ). all_claims (dense k f) ++ l) (append-nil (f k).claims)

pub zone_claims : (t : List ℕ) (k : ℕ) → (zone_in t k).claims ≡ map (λ (x : ℕ). x - 1) (words t (pool_start + start_in t k) (end_in t k - start_in t k))
unfolding zone_in claims_in
zone_claims t k = refl

-- where no zone's claims end before they begin, the first k zones' are those in front of where the next begin
pub claims_front : (t : List ℕ) (k : ℕ) → ((j : ℕ) → j < k → start_in t j ≤ end_in t j) → all_claims (dense k (zone_in t)) ≡ map (λ (x : ℕ). x - 1) (words t pool_start (start_in t k))
unfolding collect words
claims_front t zero h = refl
claims_front t (suc k) h =
    let z : start_in t k + (end_in t k - start_in t k) ≡ end_in t k = (let l = h k (omega arith) in omega arith) in
    claims_more k (zone_in t)
    ∙ ap (λ (l : List ℕ). l ++ (zone_in t k).claims) (claims_front t k (λ j l. h j (omega arith)))
    ∙ ap (λ (l : List ℕ). map (λ (x : ℕ). x - 1) (words t pool_start (start_in t k)) ++ l) (zone_claims t k)
    ∙ sym (words_append t pool_start (start_in t k) (end_in t k - start_in t k))
    ∙ ap (λ (n : ℕ). map (λ (x : ℕ). x - 1) (words t pool_start n)) z
