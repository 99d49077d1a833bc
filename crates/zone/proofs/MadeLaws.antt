-- The zones that are made: the widest zone, and the zone of one state.
-- Assumes nothing.
use Prim.Native.Nat.{ℕ, suc, ◌+◌, ◌-◌, ◌*◌}
use mathlib.Core.Path.{◌≡◌, refl, sym, ◌∙◌, ap, subst}
use mathlib.Core.Logic.{◌↔◌, inl, ⊎_elim}
use mathlib.Core.List.Memᴰ
use mathlib.Core.List.{List, [], ◌∷◌, map, Memᴰ}
use native.Mathlib.Omega.{arith}
use lib.IntN.{ℤ, pos}
use lib.ListN.{length, get_or, take, length-map}
use Rattle.meaning.specs.Model.{Bound, Model}
use Rattle.meaning.specs.Machine.State as M
use Rattle.meaning.specs.Zones.Proper.{Proper}
use Rattle.meaning.specs.Zones.Variables.{variables}
use Rattle.meaning.specs.Zones.Zone as Z
use Rattle.meaning.specs.Zones.Zone.{clock_bounds, queue_bounds, InZone}
use Rattle.meaning.specs.Zones.Reached.{home_of}
use Rattle.meaning.specs.Text.RightModel.{RightModel}
use Rattle.meaning.proofs.Zones.Given.{widest_holds, zone_of_holds}
use Rattle.meaning.proofs.Text.Collects.{each_mem}
use Rattle.home.specs.Stands as H
use Rattle.home.specs.Stands.{RightHome}
use Rattle.home.specs.declared.Home.{Home}
use Rattle.zone_bounds.specs.Entries.{bounds_in, zone_with}
use Rattle.machine.specs.Stands as S
use Rattle.machine.specs.Stands.{task_of, queue_of, state_of}
use Rattle.machine.specs.declared.State.{State}
use Rattle.machine.proofs.QueueLaws.{order_is}
use Rattle.zone.specs.declared.Zone.{Zone}
use Rattle.zone.specs.Stands.{order_of, bounds_of, zone_of}
use Rattle.zone.specs.Promise.{WidestZone, ExactZone}
use Rattle.zone.specs.ByCell.{Empty, Written, ClocksWritten, JobsWritten, RightEntries}
use Rattle.zone.proofs.EntryLaws.{right_to}
use Rattle.zone.proofs.LendableLaws.{lent_make}
use Rattle.zone.proofs.StateLaws.{order_right, bounds_right}
use Rattle.zone.proofs.Writes.{written_make, written_none}

-- ---- lists

nothing_there : {A : Type 0} (l : List A) → ((a : A) → Memᴰ a l → ⊥) → l ≡ []
nothing_there [] h = refl
nothing_there (x ∷ l) h = absurd (h x (Memᴰ.head refl))

-- ---- the widest zone

module _ (m : Model) (h : Home) (bs : List ℤ) (r : RightHome m h) (e : Empty bs) where
  no_bounds : bounds_in bs ≡ []
  no_bounds = nothing_there (bounds_in bs) (written_none bs e)

  widest_is : zone_with h bs ≡ Z.widest h.location (H.order_of h)
  widest_is = ap (λ (b : List Bound). record { location = h.location; order = H.order_of h; bounds = b; claims = [] }) no_bounds

  pub widest_made : WidestZone m h (record { home = h; bounds = bs })
  widest_made = record {
    lendable = record { home = r; bounds = rw no_bounds (record { each = tt; rising = tt }) };
    is = widest_is;
    holds = λ x. subst (λ (y : Z.Zone). InZone m y x ↔ ((home_of x ≡ H.home_of h) × Proper m x)) (sym widest_is) (widest_holds m h.location (H.order_of h) x);
  }

-- ---- the zone of one state

module _ (m : Model) (r : RightModel m) (s : State) (l : S.Lendable m s) (b₁ b₂ : List ℤ) (w₁ : ClocksWritten (take m.clocks s.clocks) b₁) (w₂ : JobsWritten b₁ (length (take m.clocks s.clocks)) (take s.count s.jobs) b₂) where
  -- the zone that is made, the state, and the bounds that its zone has
  abbrev made : Zone
  made = record { home = record { location = s.location; tasks = map task_of s.jobs; count = s.count }; bounds = b₂ }

  abbrev queue : List M.Job
  queue = queue_of s.jobs s.count

  abbrev all : List Bound
  all = clock_bounds 1 (take m.clocks s.clocks) (queue_bounds 0 (suc (length (take m.clocks s.clocks))) queue)

  all_written : Written all b₂ (length (take m.clocks s.clocks) + 1 + 2 * length (take s.count s.jobs)) []
  all_written =
      let n : length (take m.clocks s.clocks) + 1 ≡ suc (length (take m.clocks s.clocks)) = omega arith in
      w₂.all all
      (subst (λ (v : ℕ). Written all b₁ (length (take m.clocks s.clocks) + 1) (queue_bounds 0 v queue)) (sym n)
      (w₁.all (queue_bounds 0 (suc (length (take m.clocks s.clocks))) queue)))

  to_all : (b : Bound) → Memᴰ b (bounds_in b₂) → Memᴰ b all
  to_all b x = all_written.from b (inl x)

  from_all : (b : Bound) → Memᴰ b all → Memᴰ b (bounds_in b₂)
  from_all b x = ⊎_elim (λ y. y) (λ y. absurd (Memᴰ.not-nil y)) (all_written.to b x)

  same_bounds : (b : Bound) → Memᴰ b (bounds_of made) ↔ Memᴰ b all
  same_bounds b = (to_all b, from_all b)

  same_order : order_of made ≡ M.order queue
  same_order = order_is s.jobs s.count

  right_entries : RightEntries (variables m (order_of made)) b₂
  right_entries =
      let e = l.proper.clocks in
      let n = length-map queue (λ (j : M.Job). j.task) in
      let o = ap length same_order in
      let d = bounds_right m s l r (variables m (order_of made) - 1) (omega arith) in
      record { each = λ k h. record { bound = λ q. right_to m made k (get_or b₂ k (pos 0)) (each_mem _ all d _ (to_all _ (written_make b₂ k h q))) } }

  same_states : (x : M.State) → InZone m (zone_of made) x ↔ (x ≡ state_of m s)
  same_states x =
      let g = zone_of_holds m (state_of m s) x l.proper in (
        λ h. g.0 (record { location = h.location; queue = h.queue ∙ same_order; proper = h.proper; bounds = λ b y. h.bounds b ((same_bounds b).1 y) }),
        λ e. let h = g.1 e in record { location = h.location; queue = h.queue ∙ sym same_order; proper = h.proper; bounds = λ b y. h.bounds b ((same_bounds b).0 y) },
      )

  pub exact_made : ExactZone m (state_of m s) made
  exact_made = record {
    lendable = lent_make m made (variables m (order_of made)) refl (order_right m s l) right_entries;
    location = refl;
    order = same_order;
    bounds = same_bounds;
    holds = same_states;
  }
