-- Laws of the step at a place: which it is, that it is in the list, and that it is the only one there.
-- Assumes nothing.
use mathlib.Core.Path.{◌≡◌, sym, ◌∙◌, ap}
use mathlib.Core.Bool.{false}
use mathlib.Core.List.{List, Memᴰ}
use mathlib.Core.Option.{some}
use Prim.Native.Nat.{ℕ, zero, suc, ◌≤◌}
use native.Mathlib.Omega.{arith}
use lib.ListN.{length, get_elem?}
use Rattle.meaning.specs.Lists.{nth1}
use Rattle.meaning.specs.Model.{Model}
use Rattle.meaning.specs.Machine.Release.{overflows_any}
use Rattle.meaning.specs.Zones.Reached.{Home}
use Rattle.meaning.specs.Zones.Steps.{by_edge, choices, places}
use Rattle.meaning.proofs.Lists.{at_mem, map_at}
use Rattle.meaning.proofs.Zones.Choices.{places_free}
use Rattle.home.specs.Asked.{released_by}
use Rattle.zone_list.specs.declared.form.Kind.TheVariants.{Edge}
use Rattle.zone_list.specs.declared.form.Step.{Step}
use Rattle.zone_list.specs.Steps.{aheads, step_of, list_at, Listed, StepAt}
use Rattle.zone_list.specs.Chosen.{ChoiceIs}
use Rattle.zone_list.specs.Placed.{EdgeStep}
use Rattle.zone_list.proofs.FormLaws.{step_once}

-- ---- which it is

module _ (m : Model) (h : Home) (k n : ℕ) where
  -- none does: a choice of positions
  pub step_chosen : (ts ps : List ℕ) (c : ℕ) → ts ≡ released_by m k → length ts ≡ c → c ≤ 4 → overflows_any m (released_by m k) h.order ≡ false → ChoiceIs m ts h.order n ps
      → EdgeStep m h k n (record { kind = Edge k; positions = ps; count = c })
  step_chosen ts ps c q l few e w = record {
    formed = record {
      few = few;
      tick = tt;
      numbered = λ i g. w.form.numbered i (omega arith);
      unused = λ i g. w.form.unused i (omega arith);
    };
    is =
        map_at (by_edge k) (places m (released_by m k) h.order) n (aheads c ps)
        (ap (λ (pss : List (List ℕ)). get_elem? pss n) (places_free m (released_by m k) h.order e ∙ ap (λ (us : List ℕ). choices m us h.order) (sym q))
        ∙ w.is ∙ ap (λ (i : ℕ). some (aheads i ps)) l);
  }

-- ---- in the list

nth1_mem : {A : Type 0} (a : A) (l : List A) (x : ℕ) → nth1 l x ≡ some a → Memᴰ a l
nth1_mem a l zero e = absurd (cc)
nth1_mem a l (suc k) e = at_mem a l k e

-- it is in the list
pub step_at_listed : (m : Model) (h : Home) (x : ℕ) (r : Step) → StepAt m h x r → Listed m h r
step_at_listed m h x r w = record { formed = w.formed; here = nth1_mem (step_of r) (list_at m h) x w.is }

-- no other is at its place
pub step_at_once : (m : Model) (h : Home) (x : ℕ) (r s : Step) → length r.positions ≡ 4 → length s.positions ≡ 4 → StepAt m h x r → StepAt m h x s → r ≡ s
step_at_once m h x r s a b w v =
    let e : some (step_of r) ≡ some (step_of s) = sym w.is ∙ v.is in
    step_once r s a b w.formed v.formed (cc)
