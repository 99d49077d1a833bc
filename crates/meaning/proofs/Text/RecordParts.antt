-- The first i slots of a proper thing: just those.
-- Assumes nothing.
use Prim.Native.Nat.{◌<◌, ◌≤◌, suc, zero, ℕ}
use mathlib.Core.Bool.{Bool, false, true}
use mathlib.Core.Path.{◌∙◌, ◌≡◌, refl, sym}
use native.Mathlib.Omega.{arith}
use Rattle.meaning.proofs.Text.Choices.{by_lt}
use Rattle.meaning.proofs.Text.RecordLaws.{Lawful, Proper, part}
use Rattle.meaning.specs.Text.Records.{Format}

module _ {M W : Type 0} (F : Format M W) (L : Lawful F) where
  part_none : (m : M) (i : ℕ) → F.is_none (F.get m i) ≡ true → part F L m (suc i) ≡ part F L m i
  unfolding part
  part_none m i e = rw e

  part_some : (m : M) (i : ℕ) → F.is_none (F.get m i) ≡ false → part F L m (suc i) ≡ F.put (part F L m i) i (F.get m i)
  unfolding part
  part_some m i e = rw e

  module _ (m : M) (p : Proper F L m) where
    part_good : (i : ℕ) → i ≤ F.size → (c : ℕ) × (L.Good (part F L m i) c) × (c ≤ i)
    unfolding part
    part_good zero h = (0, L.good_start, omega arith)
    part_good (suc i) h = go (F.is_none (F.get m i)) refl (part_good i (omega arith))
      where
        go : (t : Bool) → F.is_none (F.get m i) ≡ t → (c : ℕ) × (L.Good (part F L m i) c) × (c ≤ i) → (c : ℕ) × (L.Good (part F L m (suc i)) c) × (c ≤ suc i)
        go true e r = (r.0, rw (part_none m i e) r.1, (let a = r.2 in omega arith))
        go false e r = (suc i, rw (part_some m i e) (L.good_put (part F L m i) r.0 i (F.get m i) r.1 (p.right i h e) r.2), omega arith)

    pub part_above : (i k : ℕ) → i ≤ k → k < F.size → F.get (part F L m i) k ≡ F.none
    unfolding part
    part_above zero k a b = L.get_start k b
    part_above (suc i) k a b = go (F.is_none (F.get m i)) refl (part_above i k (omega arith) b)
      where
        go : (t : Bool) → F.is_none (F.get m i) ≡ t → F.get (part F L m i) k ≡ F.none → F.get (part F L m (suc i)) k ≡ F.none
        go true e r = rw (part_none m i e) r
        go false e r =
            let g = part_good i (omega arith) in
            rw (part_some m i e) (L.get_other (part F L m i) g.0 i (F.get m i) k g.1 (p.right i (omega arith) e) b (omega arith) ∙ r)

    pub part_below : (i k : ℕ) → k < i → i ≤ F.size → F.get (part F L m i) k ≡ F.get m k
    unfolding part
    part_below zero k a b = absurd (omega arith)
    part_below (suc i) k a b = go (F.is_none (F.get m i)) refl (λ h. part_below i k h (omega arith))
      where
        go : (t : Bool) → F.is_none (F.get m i) ≡ t → (k < i → F.get (part F L m i) k ≡ F.get m k) → F.get (part F L m (suc i)) k ≡ F.get m k
        go true e r =
            rw (part_none m i e) (by_lt k i r
            (λ h. let z : k ≡ i = omega arith in rw z (part_above i i (omega arith) (omega arith) ∙ sym (L.none_is (F.get m i) e))))
        go false e r =
            let g = part_good i (omega arith) in
            let o = p.right i (omega arith) e in
            rw (part_some m i e) (by_lt k i
            (λ h. L.get_other (part F L m i) g.0 i (F.get m i) k g.1 o (omega arith) (omega arith) ∙ r h)
            (λ h. let z : k ≡ i = omega arith in rw z (L.get_same (part F L m i) g.0 i (F.get m i) g.1 o)))
