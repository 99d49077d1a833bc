-- Where the obligations of a zone stand in the list of all: behind the start's and those of the zones before it.
-- Assumes nothing.
use mathlib.Core.Path.{◌≡◌, refl, sym, ◌∙◌, ap}
use mathlib.Core.List.{List, [], ◌∷◌, ◌++◌, append_assoc, append-nil, tail}
use mathlib.Core.Option.{some}
use Prim.Native.Nat.{ℕ, zero, suc, ◌+◌, ◌≤◌, ◌<◌}
use native.Mathlib.Omega.{arith}
use lib.ListN.{length, get_elem?, take, drop, length-append}
use lib.Seq.{length-take-le}
use Rattle.meaning.specs.Lists.{nth1}
use Rattle.meaning.specs.Model.{Model}
use Rattle.meaning.specs.Zones.Zone.{Zone, Proposal}
use Rattle.meaning.specs.Zones.Steps.{Step, steps}
use Rattle.meaning.specs.Check.Obligations.{Obligation, follows, head0, claimed, of_zones, obligations}
use Rattle.meaning.specs.Check.Answer.{zone_number, place_number}
use Rattle.verdict.proofs.FoundLaws.{none_some}

-- ---- lists in two parts

module _ {A : Type 0} where
  nth_front : (xs ys : List A) (k : ℕ) → k < length xs → get_elem? (xs ++ ys) k ≡ get_elem? xs k
  nth_front [] ys k h = absurd (omega arith)
  nth_front (x ∷ xs) ys zero h = refl
  nth_front (x ∷ xs) ys (suc k) h = nth_front xs ys k (omega arith)

  nth_behind : (xs ys : List A) (k : ℕ) → get_elem? (xs ++ ys) (length xs + k) ≡ get_elem? ys k
  nth_behind [] ys k = let e : 0 + k ≡ k = omega arith in ap (get_elem? ys) e
  nth_behind (x ∷ xs) ys k = let e : suc (length xs) + k ≡ suc (length xs + k) = omega arith in ap (get_elem? (x ∷ xs ++ ys)) e ∙ nth_behind xs ys k

  pub nth_inside : (xs : List A) (k : ℕ) (a : A) → get_elem? xs k ≡ some a → k < length xs
  nth_inside [] k a e = absurd (none_some e)
  nth_inside (x ∷ xs) zero a e = omega arith
  nth_inside (x ∷ xs) (suc k) a e = omega (arith, nth_inside xs k a e)

  -- those before a place, what stands there, and those behind it
  parted : (xs : List A) (k : ℕ) (a : A) → get_elem? xs k ≡ some a → xs ≡ take k xs ++ (a ∷ drop (suc k) xs)
  parted [] k a e = absurd (none_some e)
  parted (x ∷ xs) zero a e = let z : x ≡ a = cc in ap (λ (y : A). y ∷ xs) z
  parted (x ∷ xs) (suc k) a e = ap (λ (l : List A). x ∷ l) (parted xs k a e)

  one_more : (xs : List A) (k : ℕ) (a : A) → get_elem? xs k ≡ some a → take (suc k) xs ≡ take k xs ++ (a ∷ [])
  one_more [] k a e = absurd (none_some e)
  one_more (x ∷ xs) zero a e = let z : x ≡ a = cc in ap (λ (y : A). y ∷ []) z
  one_more (x ∷ xs) (suc k) a e = ap (λ (l : List A). x ∷ l) (one_more xs k a e)

-- ---- the obligations of one zone

-- each step has one
pub claimed_length : (n : ℕ) (z : Zone) (k : ℕ) (ss : List Step) (cs : List ℕ) → length (claimed n z k ss cs) ≡ length ss
claimed_length n z k [] cs = refl
claimed_length n z k (s ∷ ss) cs = ap suc (claimed_length n z (suc k) ss (tail cs))

-- it names the zone's number and its own place
pub claimed_named : (n : ℕ) (z : Zone) (k : ℕ) (ss : List Step) (cs : List ℕ) (x : ℕ) (o : Obligation)
    → get_elem? (claimed n z k ss cs) x ≡ some o → (zone_number o ≡ n) × (place_number o ≡ k + x)
claimed_named n z k [] cs x o e = absurd (none_some e)
claimed_named n z k (s ∷ ss) cs zero o e =
    let q : follows (record { number = n; place = k; zone = z; step = s; claim = head0 cs }) ≡ o = cc in
    (sym (ap zone_number q), sym (ap place_number q) ∙ omega arith)
claimed_named n z k (s ∷ ss) cs (suc x) o e =
    let r = claimed_named n z (suc k) ss (tail cs) x o e in
    (r.0, omega (arith, r.1))

-- ---- zone by zone

module _ (m : Model) where
  pub zones_append : (k : ℕ) (xs ys : List Zone) → of_zones m k (xs ++ ys) ≡ of_zones m k xs ++ of_zones m (k + length xs) ys
  zones_append k [] ys = let e : k ≡ k + 0 = omega arith in ap (λ (i : ℕ). of_zones m i ys) e
  zones_append k (x ∷ xs) ys =
      let e : suc k + length xs ≡ k + suc (length xs) = omega arith in
      ap (λ (l : List Obligation). claimed k x 1 (steps m x) x.claims ++ l) (zones_append (suc k) xs ys ∙ ap (λ (i : ℕ). of_zones m (suc k) xs ++ of_zones m i ys) e)
      ∙ sym (append_assoc (claimed k x 1 (steps m x) x.claims) (of_zones m (suc k) xs) (of_zones m (k + suc (length xs)) ys))

  -- those of zone k + n, with all before them and behind them
  module _ (k : ℕ) (zs : List Zone) (n : ℕ) (z : Zone) (at : get_elem? zs n ≡ some z) where
    named : k + length (take n zs) ≡ k + n
    named = ap (λ (i : ℕ). k + i) (length-take-le n zs (omega (arith, nth_inside zs n z at)))

    zones_parted : of_zones m k zs
        ≡ of_zones m k (take n zs) ++ (claimed (k + n) z 1 (steps m z) z.claims ++ of_zones m (suc (k + n)) (drop (suc n) zs))
    zones_parted =
        ap (of_zones m k) (parted zs n z at) ∙ zones_append k (take n zs) (z ∷ drop (suc n) zs)
        ∙ ap (λ (i : ℕ). of_zones m k (take n zs) ++ of_zones m i (z ∷ drop (suc n) zs)) named

    zones_more : of_zones m k (take (suc n) zs) ≡ of_zones m k (take n zs) ++ claimed (k + n) z 1 (steps m z) z.claims
    zones_more =
        ap (of_zones m k) (one_more zs n z at) ∙ zones_append k (take n zs) (z ∷ [])
        ∙ ap (λ (i : ℕ). of_zones m k (take n zs) ++ of_zones m i (z ∷ [])) named
        ∙ ap (λ (l : List Obligation). of_zones m k (take n zs) ++ l) (append-nil (claimed (k + n) z 1 (steps m z) z.claims))

    pub count_more : length (of_zones m k (take (suc n) zs)) ≡ length (of_zones m k (take n zs)) + length (steps m z)
    count_more =
        ap length zones_more ∙ length-append (of_zones m k (take n zs)) (claimed (k + n) z 1 (steps m z) z.claims)
        ∙ ap (λ (i : ℕ). length (of_zones m k (take n zs)) + i) (claimed_length (k + n) z 1 (steps m z) z.claims)

  -- ---- the list of all

  -- the number of the last obligation of the first n zones
  abbrev pub up_to_zone : Proposal → ℕ → ℕ
  up_to_zone p n = suc (length (of_zones m 1 (take n p.zones)))

  module _ (p : Proposal) (n : ℕ) (z : Zone) (at : nth1 p.zones (suc n) ≡ some z) where
    -- one zone more
    pub upto_next : up_to_zone p (suc n) ≡ up_to_zone p n + length (steps m z)
    upto_next = omega (arith, count_more 1 p.zones n z at)

    -- the obligation at place x of a zone
    pub zone_stands : (x : ℕ) → 1 ≤ x → x ≤ length (steps m z)
        → nth1 (obligations m p) (up_to_zone p n + x) ≡ nth1 (claimed (suc n) z 1 (steps m z) z.claims) x
    zone_stands zero a b = absurd (omega arith)
    zone_stands (suc y) a b =
        let before = of_zones m 1 (take n p.zones) in
        let here = claimed (1 + n) z 1 (steps m z) z.claims in
        let behind = of_zones m (suc (1 + n)) (drop (suc n) p.zones) in
        let long = claimed_length (1 + n) z 1 (steps m z) z.claims in
        let e : up_to_zone p n + suc y ≡ suc (suc (length before + y)) = omega arith in
        let g : 1 + n ≡ suc n = omega arith in
        ap (nth1 (obligations m p)) e ∙ ap (λ (l : List Obligation). get_elem? l (length before + y)) (zones_parted 1 p.zones n z at)
        ∙ nth_behind before (here ++ behind) y ∙ nth_front here behind y (omega (arith, long))
        ∙ ap (λ (i : ℕ). get_elem? (claimed i z 1 (steps m z) z.claims) y) g
