-- Laws of an edge by its number, and of the tasks that are released.
-- Assumes nothing.
use Prim.Native.Nat.{ℕ}
use mathlib.Core.Path.{◌≡◌, sym, ◌∙◌, ap, subst}
use mathlib.Core.List.{List}
use mathlib.Core.Option.{Option, some}
use lib.Dec.{eqb}
use Rattle.meaning.specs.Lists.{nth1}
use Rattle.meaning.specs.Model.{Edge, releases, location_at}
use Rattle.meaning.specs.Text.ModelTable.{decode}
use Rattle.meaning.proofs.Hooks.{leaves_at_is, target_is, released_is}
use Rattle.model_table.specs.Parts.{from_in, to_in, edge_of}
use Rattle.home.specs.declared.Releases.{Releases}
use Rattle.home.specs.Stands.{Lists}
use Rattle.home.specs.Asked.{leaves_if, leaves_by, target_if, target_by, released_if, released_by}

-- ---- an edge by its number

module _ (t : List ℕ) (k : ℕ) (h : nth1 (decode t).edges k ≡ some (edge_of t k)) where
  pub leaves_some : (l f : ℕ) → f ≡ from_in t k → eqb f l ≡ leaves_by (decode t) k l
  leaves_some l f e = ap (λ (x : ℕ). eqb x l) e ∙ sym (ap (λ (x : Option Edge). leaves_if x l) h ∙ leaves_at_is (edge_of t k) l)

  pub target_some : (l n : ℕ) → n ≡ to_in t k → n ≡ target_by (decode t) k l
  target_some l n e = e ∙ sym (ap (λ (x : Option Edge). target_if x l) h ∙ target_is (edge_of t k) l)

  pub released_some : (n : ℕ) → n ≡ to_in t k → releases (location_at (decode t) n) ≡ released_by (decode t) k
  released_some n e =
      ap (λ (x : ℕ). releases (location_at (decode t) x)) e ∙ sym (ap (released_if (decode t)) h ∙ released_is (decode t) (edge_of t k))

-- ---- what is released

pub lists_same : (ts us : List ℕ) (r : Releases) → ts ≡ us → Lists ts r → Lists us r
lists_same ts us r e w = subst (λ (l : List ℕ). Lists l r) e w
