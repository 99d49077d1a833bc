-- The obligation at a place of a zone: its step is that of the zone's list, and its claim that of the table.
-- Assumes nothing.
use mathlib.Core.Path.{◌≡◌, sym, ◌∙◌, ap, subst}
use mathlib.Core.List.{List, [], ◌∷◌}
use mathlib.Core.Option.{some}
use Prim.Native.Nat.{ℕ, zero, suc, ◌+◌, ◌-◌, ◌≤◌}
use native.Mathlib.Omega.{arith}
use lib.IntN.{ℤ}
use lib.ListN.{length, get_elem?}
use Rattle.meaning.specs.Lists.{nth1}
use Rattle.meaning.specs.Model.{Model}
use Rattle.meaning.specs.Zones.Zone as Z
use Rattle.meaning.specs.Zones.Steps.{Step, steps}
use Rattle.meaning.specs.Zones.Reached as R
use Rattle.meaning.specs.Check.Obligations.{Obligation, claimed}
use Rattle.meaning.specs.Text.RightModel.{Each, RightModel}
use Rattle.meaning.specs.Text.RightProposal.{RightZone}
use Rattle.meaning.specs.Text.ProposalReader.{Given}
use Rattle.meaning.specs.Text.ProposalTable.{zone_in, decode}
use Rattle.meaning.proofs.Text.Keyed.{each_nth}
use Rattle.meaning.proofs.Text.ProposalTheorems.{proposal_given_right}
use Rattle.meaning.specs.Inner.Slots.{zone_bounds, RangedZone}
use Rattle.std.proofs.Common.{Option}
use Rattle.home.specs.declared.Home.{Home}
use Rattle.home.specs.Stands.{home_of}
use Rattle.zone_list.specs.declared.form.Step as L
use Rattle.zone_list.specs.Steps.{step_of, list_at, StepAt}
use Rattle.zone_bounds.specs.Narrowed.{Narrowed}
use Rattle.zone.specs.declared.Zone.{Zone}
use Rattle.zone.specs.Stands.{zone_of}
use Rattle.zone.proofs.LendableLaws.{lent_ranged}
use Rattle.zone_table.specs.Sound.{zones_in, SoundZone}
use Rattle.zone_table.specs.Read.{claims_at, claim_at, ZoneRead}
use Rattle.zone_table.proofs.ZoneParts.{given_is_sound, zone_is, claim_is, home_at_lem, home_right, read_is, read_lendable}
use Rattle.verdict.specs.declared.answer.Found.{Found}
use Rattle.verdict.specs.Judged.{following, AtPlace, ClosedOf, Judged}

-- ---- the list of a zone's obligations

claimed_at : (n : ℕ) (z : Z.Zone) (k : ℕ) (ss : List Step) (cs : List ℕ) (i : ℕ) (st : Step) (c : ℕ) → get_elem? ss i ≡ some st → get_elem? cs i ≡ some c
    → get_elem? (claimed n z k ss cs) i ≡ some (following n (k + i) z st c)
claimed_at n z k [] cs i st c e h = absurd (let w : ◌≡◌ {A = ℕ} 0 1 = cc in omega arith)
claimed_at n z k (s ∷ ss) [] i st c e h = absurd (let w : ◌≡◌ {A = ℕ} 0 1 = cc in omega arith)
claimed_at n z k (s ∷ ss) (d ∷ cs) zero st c e h =
    let p : s ≡ st = cc in
    let q : d ≡ c = cc in
    let w : k ≡ k + 0 = omega arith in
    ap (λ (x : Step). some (following n k z x d)) p ∙ ap (λ (x : ℕ). some (following n k z st x)) q ∙ ap (λ (x : ℕ). some (following n x z st c)) w
claimed_at n z k (s ∷ ss) (d ∷ cs) (suc i) st c e h =
    let w : suc k + i ≡ k + suc i = omega arith in
    claimed_at n z (suc k) ss cs i st c e h ∙ ap (λ (x : ℕ). some (following n x z st c)) w

-- the obligation at place x is that of the step there, with the claim there
pub place_is : (m : Model) (n : ℕ) (z : Z.Zone) (x : ℕ) (st : Step) (c : ℕ) → nth1 (steps m z) x ≡ some st → nth1 z.claims x ≡ some c → AtPlace m n z x (following n x z st c)
place_is m n z zero st c e h = absurd (let w : ◌≡◌ {A = ℕ} 0 1 = cc in omega arith)
place_is m n z (suc i) st c e h =
    let w : 1 + i ≡ suc i = omega arith in
    claimed_at n z 1 (steps m z) z.claims i st c e h ∙ ap (λ (x : ℕ). some (following n x z st c)) w

some_once : {A : Type 0} (x y : A) → some x ≡ some y → x ≡ y
some_once x y e = cc

-- ---- the table

nth1_each : {A : Type 0} (P : A → Type 0) (l : List A) (x : ℕ) (v : A) → Each P l → nth1 l x ≡ some v → P v
nth1_each P l zero v h e = absurd (let w : ◌≡◌ {A = ℕ} 0 1 = cc in omega arith)
nth1_each P l (suc k) v h e = each_nth P l k v h e

module _ (m : Model) (r : RightModel m) (t : List ℕ) (g : Given m t) (n : ℕ) (a : 1 ≤ n) (b : n ≤ zones_in t) where
  abbrev k : ℕ
  k = n - 1

  sound : SoundZone m t k
  sound = (given_is_sound m r t g).zones k (omega arith)

  right_zone : RightZone m (zones_in t) (zone_in t k)
  right_zone = nth1_each (RightZone m (zones_in t)) (decode t).zones n (zone_in t k) (proposal_given_right m r t g).zones (zone_is m r t g n a b)

  -- as many claims as steps
  pub claims_many : claims_at t n ≡ length (steps m (zone_in t k))
  claims_many = sound.claims.many

  pub claims_most : claims_at t n ≤ 32767
  claims_most = omega (arith, sound.claims.most)

  -- each claim is 0 or a zone's number
  pub claim_most : (x : ℕ) → 1 ≤ x → x ≤ claims_at t n → claim_at t n x ≤ zones_in t
  claim_most x c d = nth1_each (λ (v : ℕ). v ≤ zones_in t) (zone_in t k).claims x (claim_at t n x) right_zone.claims.each (claim_is m r t g n a b x c d)

  -- the matrix of the zone by value is that of the zone of the proposal
  pub read_closed : (z : Zone) → ZoneRead t n z → (c : Option (List ℤ)) → Narrowed (zone_bounds m (zone_of z)) c → ClosedOf m (zone_in t k) z.home c
  read_closed z w c v =
      let e = read_is m r t g n a b z w in
      let q = subst (RangedZone m) e (lent_ranged m z (read_lendable m r t g n a b z w)) in
      record {
        right = home_right m r t g n a b z.home w.home;
        home = home_at_lem m r t g n a b z.home w.home;
        ranged = record { bounds = q.bounds; fit = q.fit };
        narrowed = subst (λ (y : Z.Zone). Narrowed (zone_bounds m y) c) e v;
      }

  module _ (h : Home) (closed : Option (List ℤ)) (w : ClosedOf m (zone_in t k) h closed) (x : ℕ) (c : 1 ≤ x) (d : x ≤ claims_at t n) where
    -- a place of the zone is one of the list of its location and queue order
    pub place_most : x ≤ length (list_at m (home_of h))
    place_most = omega (arith, claims_many, ap (λ (o : R.Home). length (list_at m o)) w.home)

    -- what is found of the step with its claim is found of the obligation there
    pub place_judged : (s : L.Step) → StepAt m (home_of h) x s → (f : Option Found) (y : ℕ) → y ≡ claim_at t n x
        → ((i j : ℕ) (u : Z.Zone) → ClosedOf m u h closed → Judged m (decode t) (following i j u (step_of s) y) f)
        → (o : Obligation) → AtPlace m n (zone_in t k) x o → Judged m (decode t) o f
    place_judged s v f y e j o q =
        let i : nth1 (steps m (zone_in t k)) x ≡ some (step_of s) = subst (λ (u : R.Home). nth1 (list_at m u) x ≡ some (step_of s)) w.home v.is in
        let p : following n x (zone_in t k) (step_of s) (claim_at t n x) ≡ o =
        some_once _ _ (sym (place_is m n (zone_in t k) x (step_of s) (claim_at t n x) i (claim_is m r t g n a b x c d)) ∙ q) in
        subst (λ (u : Obligation). Judged m (decode t) u f) p
        (subst (λ (i : ℕ). Judged m (decode t) (following n x (zone_in t k) (step_of s) i) f) e (j n x (zone_in t k) w))
