-- What the tests of one zone, and of the whole table, come to.
-- Assumes nothing.
use Prim.Native.Nat.{ℕ, suc, ◌+◌, ◌-◌, ◌*◌, ◌≤◌, ◌<◌}
use mathlib.Core.Path.{◌≡◌, sym, ◌∙◌, ap}
use mathlib.Core.Logic.{◌↔◌}
use mathlib.Core.Bool.{Bool, true, false}
use mathlib.Core.List.{List, map}
use native.Mathlib.Omega.{arith}
use lib.ListN.{length, get_or}
use Rattle.meaning.specs.Model.{Model}
use Rattle.meaning.specs.Zones.Variables.{variables}
use Rattle.meaning.specs.Zones.Steps.{steps}
use Rattle.meaning.specs.Zones.Reached as Z
use Rattle.meaning.specs.Text.Ranges.{text_most}
use Rattle.meaning.specs.Text.ModelTable as model
use Rattle.meaning.specs.Text.ModelReader.{words}
use Rattle.meaning.specs.Text.RightProposal.{zero_due, zeros_at}
use Rattle.meaning.specs.Text.ProposalReader.{Given}
use Rattle.meaning.specs.Text.ProposalText.{proposal_text}
use Rattle.meaning.specs.Text.ProposalTable.{pool_start, pool_size, start_in, end_in, order_in, claims_in, zone_in, decode}
use Rattle.model_table.specs.Right.{RightTable}
use Rattle.home.specs.declared.Home.{Home}
use Rattle.home.specs.Stands.{home_of}
use Rattle.zone_list.specs.declared.form.Steps.{Steps}
use Rattle.zone_list.specs.Steps.{list_at}
use Rattle.zone_list.specs.Counted.{numbers_in, zeros_kept, StepsAre}
use Rattle.zone_table.specs.Sound.{queue_in, BoundFits, SoundOrder, SoundClaims, SoundZone, Sound}
use Rattle.zone_table.specs.Read.{HomeRead}
use Rattle.zone_table.proofs.Deciding.{ruled_out, same_test}
use Rattle.zone_table.proofs.TestLaws.{bounds_right, bounds_fit}
use Rattle.zone_table.proofs.ReadLaws.{home_is}
use Rattle.zone_table.proofs.GivenSound.{given_sound}

module _ (u : List ℕ) (g : RightTable u) where
  abbrev m : Model
  m = model.decode u

  module _ (t : List ℕ) (k : ℕ) where
    -- ---- the claims

    module _ (s : SoundOrder m t k) (h : Home) (w : HomeRead t k (queue_in t k) h) (at : ℕ) (r : Steps) (v : StepsAre m (home_of h) t at r) where
      many_is : r.many ≡ length (steps m (zone_in t k))
      unfolding zone_in
      many_is = v.many ∙ ap (λ (o : Z.Home). length (list_at m o)) (home_is m t k h w s)

      zeros_is : at ≡ pool_start + start_in t k → end_in t k - start_in t k ≡ r.many → r.zeros ≡ zeros_at (zero_due m (zone_in t k)) (steps m (zone_in t k)) (claims_in t k)
      unfolding zone_in claims_in numbers_in
      zeros_is a b =
          v.zeros
          ∙ ap (λ (o : Z.Home). zeros_kept m o t at) (home_is m t k h w s)
          ∙ ap (λ (n : ℕ). zeros_at (zero_due m (zone_in t k)) (steps m (zone_in t k)) (map (λ (x : ℕ). x - 1) (words t at n))) (sym (b ∙ many_is))
          ∙ ap (λ (i : ℕ). zeros_at (zero_due m (zone_in t k)) (steps m (zone_in t k)) (map (λ (x : ℕ). x - 1) (words t i (end_in t k - start_in t k)))) a

      module _ (from to : ℕ) (e : from ≡ start_in t k) (f : to ≡ get_or t (8 * k + 7) 0) where
        pub claims_many : (r.many ≡ to - from → ⊥) → SoundClaims m t k → ⊥
        claims_many z c = let i = c.many in z (omega (arith, many_is))

        pub claims_test : at ≡ pool_start + from → from ≤ to → to ≤ pool_size → r.many ≡ to - from → (r.zeros ≡ true) ↔ SoundClaims m t k
        claims_test a b d i =
            let z = zeros_is (a ∙ rw e) (omega arith) in (
              (λ p. record { ends = omega arith; most = omega arith; many = omega (arith, many_is); zeros = sym z ∙ p }),
              (λ c. z ∙ c.zeros),
            )

    -- ---- the zone

    module _ (n q : ℕ) (e : n ≡ suc (m.clocks + (q + q))) (f : q ≡ queue_in t k) (r : Bool) (d : (r ≡ true) ↔ ((x : ℕ) → x < 289 → BoundFits (n - 1) x (get_or t (384 + 289 * k + x) 0))) where
      last_is : n - 1 ≡ variables m (order_in t k) - 1
      last_is = omega arith

      pub zone_bounds : r ≡ false → SoundZone m t k → ⊥
      zone_bounds h s = ruled_out r d h (bounds_fit t k (n - 1) m last_is s.bounds)

      pub zone_test : (p s : Bool) → (p ≡ true) ↔ SoundOrder m t k → p ≡ true → r ≡ true → (s ≡ true) ↔ SoundClaims m t k → (s ≡ true) ↔ SoundZone m t k
      zone_test p s a b h y = same_test s y (λ c. record { order = a.0 b; bounds = bounds_right t k (n - 1) m last_is (d.0 h); claims = c }) (λ z. z.claims)

  -- ---- the whole table

  module _ (t : List ℕ) where
    pub given_test : (n : ℕ) (r s : Bool) → n ≡ length (proposal_text (decode t)) → (r ≡ true) ↔ Sound m t → r ≡ true → (s ≡ true) ↔ (n ≤ text_most) → (s ≡ true) ↔ Given m t
    given_test n r s e d h y =
        let b = given_sound m g.right t in
        same_test s y (λ l. b.1 (d.0 h, omega arith)) (λ w. let l = (b.0 w).1 in omega arith)

    pub given_fails : (r : Bool) → (r ≡ true) ↔ Sound m t → r ≡ false → Given m t → ⊥
    given_fails r d h w = ruled_out r d h ((given_sound m g.right t).0 w).0
