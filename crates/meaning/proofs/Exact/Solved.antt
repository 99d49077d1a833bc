-- A set of valuations made from a list of bounds, one bound after the other, as a matrix is tightened; and what is found of such a set
-- holds of the valuations of a zone's step.
-- Assumes nothing.
use mathlib.Core.Path.{◌≡◌, sym, subst}
use mathlib.Core.Logic.{◌↔◌}
use mathlib.Core.List.{List, [], ◌∷◌, ◌++◌}
use mathlib.Core.Option.{Option}
use Prim.Native.Nat.{ℕ, suc, ◌<◌}
use lib.IntN.{ℤ, neg_ℤ}
use lib.ListN.{length, get_or, take}
use lib.Seq.{take-suc}
use Rattle.meaning.specs.Model.{Bound, Model}
use Rattle.meaning.specs.Zones.Zone.{Zone}
use Rattle.meaning.specs.Zones.Steps.{Step}
use Rattle.meaning.specs.Inner.Bounds.{bound, Meets, Met, Apart}
use Rattle.meaning.specs.Inner.Slots.{zone_bounds}
use Rattle.meaning.specs.Inner.Sources.{source_bounds, Source}
use Rattle.meaning.specs.Inner.Smallest.{Solves, Tightens, NoneMeet, Lowest}
use Rattle.meaning.proofs.Exact.Bounds.{apart_meets, met_append}
use Rattle.meaning.proofs.Exact.Entries.{BestE, best_same, Inside}
use Rattle.meaning.proofs.Exact.Smallest.{lowest_same}

-- ── one bound after the other ──────────────────────────────────────────────────────────────────

pub solves_first : (S : (ℕ → ℕ) → Type 0) → ((x : ℕ → ℕ) → S x → x 0 ≡ 0) → ((x : ℕ → ℕ) → x 0 ≡ 0 → S x) → Solves S []
solves_first S f g = record { origin = f; sound = λ x s. tt; whole = λ x e w. g x e }

pub solves_more : (S R : (ℕ → ℕ) → Type 0) (bs : List Bound) (b : Bound) → Solves S bs → Tightens S b R → Solves R (bs ++ (b ∷ []))
solves_more S R bs b k t = record {
  origin = λ x r. k.origin x (t.sound x r).0;
  sound = λ x r. let w = t.sound x r in (met_append x bs (b ∷ [])).1 (k.sound x w.0, (w.1, tt));
  whole = λ x z h. let w = (met_append x bs (b ∷ [])).0 h in t.whole x (k.whole x z w.0) w.1.0;
}

-- the turn of a loop over a table of bounds, behind those that stand already
pub solves_next : (S R : (ℕ → ℕ) → Type 0) (fs bs : List Bound) (k : ℕ) (b₀ : Bound) → k < length bs → Solves S (fs ++ take k bs)
    → Tightens S (get_or bs k b₀) R → Solves R (fs ++ take (suc k) bs)
solves_next S R fs bs k b₀ h j t = record {
  origin = λ x r. j.origin x (t.sound x r).0;
  sound = λ x r.
      let w = t.sound x r in
      let a = (met_append x fs (take k bs)).0 (j.sound x w.0) in
      (met_append x fs (take (suc k) bs)).1 (a.0, subst (Met x) (sym (take-suc bs k b₀ h)) ((met_append x (take k bs) (get_or bs k b₀ ∷ [])).1 (a.1, (w.1, tt))));
  whole = λ x z g.
      let a = (met_append x fs (take (suc k) bs)).0 g in
      let c = (met_append x (take k bs) (get_or bs k b₀ ∷ [])).0 (subst (Met x) (take-suc bs k b₀ h) a.1) in
      t.whole x (j.whole x z ((met_append x fs (take k bs)).1 (a.0, c.0))) c.1.0;
}

-- one bound that nothing in S meets: nothing meets them all, whatever follows
pub none_more : (S : (ℕ → ℕ) → Type 0) (bs cs : List Bound) (b : Bound) → Solves S bs → ((x : ℕ → ℕ) → S x → Meets x b → ⊥) → NoneMeet (bs ++ (b ∷ cs))
none_more S bs cs b k h x z g = let w = (met_append x bs (b ∷ cs)).0 g in h x (k.whole x z w.0) w.1.0

-- ── what is found of S holds of the valuations of a zone, and of a zone's step ─────────────────

module _ (m : Model) (z : Zone) (S : (ℕ → ℕ) → Type 0) (k : Solves S (zone_bounds m z)) where
  pub inside_iff : (x : ℕ → ℕ) → S x ↔ Inside m z x
  inside_iff x = (λ s. record { origin = k.origin x s; met = k.sound x s }, λ q. k.whole x q.origin q.met)

  pub inside_best : (a b : ℕ) (e : Option ℤ) → BestE S a b e → BestE (Inside m z) a b e
  inside_best a b e h = best_same S (Inside m z) a b e (λ x. (inside_iff x).0) (λ x. (inside_iff x).1) h

module _ (m : Model) (z : Zone) (st : Step) (S : (ℕ → ℕ) → Type 0) (k : Solves S (source_bounds m z st)) where
  pub source_iff : (x : ℕ → ℕ) → S x ↔ Source m z st x
  source_iff x = (λ s. record { origin = k.origin x s; met = k.sound x s }, λ q. k.whole x q.origin q.met)

  pub source_best : (a b : ℕ) (e : Option ℤ) → BestE S a b e → BestE (Source m z st) a b e
  source_best a b e h = best_same S (Source m z st) a b e (λ x. (source_iff x).0) (λ x. (source_iff x).1) h

  pub source_lowest : (n : ℕ) (x : ℕ → ℕ) → Lowest n S x → Lowest n (Source m z st) x
  source_lowest n x l = lowest_same n S (Source m z st) x source_iff l

  -- the smallest of S tightened by the bound the other way round
  pub source_apart : (R : (ℕ → ℕ) → Type 0) (a b : ℕ) (c : ℤ) → Tightens S (bound b a (neg_ℤ c)) R → (n : ℕ) (x : ℕ → ℕ) → Lowest n R x
      → Lowest n (λ (y : ℕ → ℕ). Source m z st y × Apart y a b c) x
  source_apart R a b c t n x l =
      lowest_same n R (λ (y : ℕ → ℕ). Source m z st y × Apart y a b c) x
      (λ y. (
        λ r. let w = t.sound y r in ((source_iff y).0 w.0, (apart_meets y a b c).1 w.1),
        λ r. t.whole y ((source_iff y).1 r.0) ((apart_meets y a b c).0 r.1),
      ))
      l

  -- nothing in S meets it: no state has it
  pub source_none_apart : (a b : ℕ) (c : ℤ) → ((x : ℕ → ℕ) → S x → Meets x (bound b a (neg_ℤ c)) → ⊥) → (y : ℕ → ℕ) → Source m z st y → Apart y a b c → ⊥
  source_none_apart a b c h y s w = h y ((source_iff y).1 s) ((apart_meets y a b c).0 w)

-- nothing meets the bounds of a step: no state takes it
pub source_none : (m : Model) (z : Zone) (st : Step) → NoneMeet (source_bounds m z st) → (x : ℕ → ℕ) → Source m z st x → ⊥
source_none m z st h x s = h x s.origin s.met
