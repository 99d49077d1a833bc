-- The parts of a table that a text gives are those of the proposal that it holds, and a zone read by value is a zone of that proposal and may be lent.
-- Assumes nothing.
use Prim.Native.Nat.{ℕ, zero, suc, ◌+◌, ◌-◌, ◌*◌, ◌/◌, ◌%◌, ◌≤◌, ◌<◌}
use mathlib.Core.Path.{◌≡◌, refl, sym, ◌∙◌, ap}
use mathlib.Core.Bool.{Bool, true, false}
use mathlib.Core.List.{List, [], ◌∷◌, ◌++◌}
use mathlib.Core.Option.{some}
use native.Mathlib.Omega.{arith}
use lib.Dec.{ltb}
use lib.IntN.{ℤ, pos}
use lib.ListN.{length, get_or, get_elem?}
use lib.Seq.{get_or-take, ext_get_or}
use borrow.Author.Tests.{lt-ltb, ne_eqb, ltb-true}
use Rattle.meaning.specs.Lists.{nth1}
use Rattle.meaning.specs.Model.{Bound, Model}
use Rattle.meaning.specs.Numbers.{over}
use Rattle.meaning.specs.Zones.Zone as Z
use Rattle.meaning.specs.Zones.Reached as R
use Rattle.meaning.specs.Text.Choice.{pick}
use Rattle.meaning.specs.Text.Ranges.{bound_most}
use Rattle.meaning.specs.Text.Lines.{lowered_by}
use Rattle.meaning.specs.Text.ModelTable.{there, collect}
use Rattle.meaning.specs.Text.RightModel.{RightModel}
use Rattle.meaning.specs.Text.ProposalReader.{Given}
use Rattle.meaning.specs.Text.ProposalTable.{pool_start, start_in, end_in, order_in, bounds_in, claims_in, zone_in, decode}
use Rattle.meaning.proofs.Text.BoundLaws.{over_of}
use Rattle.meaning.proofs.Text.Choices.{by_lt, by_eq}
use Rattle.home.specs.declared.Home.{Home}
use Rattle.home.specs.Stands.{home_of, RightHome}
use Rattle.zone_bounds.specs.Entries.{is_bound, entry_in}
use Rattle.zone_bounds.specs.Entries as written
use Rattle.zone.specs.declared.Zone.{Zone}
use Rattle.zone.specs.Stands.{bounds_of, zone_of, Lendable}
use Rattle.zone_table.specs.Kept.{kept_bound}
use Rattle.zone_table.specs.Sound.{zones_in, queue_in, SoundZone, Sound}
use Rattle.zone_table.specs.Read.{claims_at, claim_at, KeptSmall, entry_of_kept, TasksRead, HomeRead, ZoneRead, without_claims}
use Rattle.zone_table.proofs.Dense.{dense_nth, words_length, words_nth}
use Rattle.zone_table.proofs.SoundGiven.{zones_dense}
use Rattle.zone_table.proofs.GivenSound.{given_sound}
use Rattle.zone_table.proofs.TestLaws.{bounds_fit}
use Rattle.zone_table.proofs.ReadLaws.{home_is, order_is, sound_home}

nth1_at : {A : Type 0} (l : List A) (n : ℕ) → 1 ≤ n → nth1 l n ≡ get_elem? l (n - 1)
nth1_at l zero h = absurd (omega arith)
nth1_at l (suc k) h = let z : suc k - 1 ≡ k = omega arith in rw z

-- the zone of these parts
abbrev made : ℕ → List ℕ → List Bound → Z.Zone
made l o b = record { location = l; order = o; bounds = b; claims = [] }

-- the same tests, and the same values where they hold
collect_where : {A : Type 0} (n : ℕ) (p q : ℕ → Bool) (f g : ℕ → A) → ((k : ℕ) → k < n → p k ≡ q k) → ((k : ℕ) → k < n → q k ≡ true → f k ≡ g k) → collect n p f ≡ collect n q g
unfolding collect
collect_where zero p q f g h e = refl
collect_where {A} (suc n) p q f g h e = rw (collect_where n p q f g (λ k l. h k (omega arith)) (λ k l. e k (omega arith)), h n (omega arith)) (ap (λ (l : List A). collect n q g ++ l) (go (q n) refl))
  where
    go : (b : Bool) → q n ≡ b → pick b (f n ∷ []) [] ≡ pick b (g n ∷ []) []
    go true i = ap (λ (x : A). x ∷ []) (e n (omega arith) i)
    go false i = refl

-- ---- what is read is determined

tasks_once : (t : List ℕ) (k n : ℕ) (o p : List ℕ) → TasksRead t k n o → TasksRead t k n p → o ≡ p
tasks_once t k n o p v w =
    let l = v.long in
    ext_get_or 0 o p (l ∙ sym w.long)
    (λ x h. by_lt x n
    (λ i. sym (get_or-take n o x 0 i) ∙ ap (λ (q : List ℕ). get_or q x 0) (v.is ∙ sym w.is) ∙ get_or-take n p x 0 i)
    (λ i. v.unused x i ∙ sym (w.unused x i)))

abbrev home : ℕ → List ℕ → ℕ → Home
home l o n = record { location = l; tasks = o; count = n }

-- any two locations with queue orders that are read so coincide
pub home_once : (t : List ℕ) (k n : ℕ) (g h : Home) → HomeRead t k n g → HomeRead t k n h → g ≡ h
home_once t k n g h v w =
    ap (λ (l : ℕ). home l g.tasks g.count) (v.location ∙ sym w.location)
    ∙ ap (λ (o : List ℕ). home h.location o g.count) (tasks_once t k n g.tasks h.tasks v.tasks w.tasks)
    ∙ ap (home h.location h.tasks) (v.count ∙ sym w.count)

abbrev value : Home → List ℤ → Zone
value h b = record { home = h; bounds = b }

-- any two zones that are read so coincide
pub zone_once : (t : List ℕ) (n : ℕ) (y z : Zone) → ZoneRead t n y → ZoneRead t n z → y ≡ z
zone_once t n y z v w =
    let k = v.bounds.long in
    ap (λ (h : Home). value h y.bounds) (home_once t (n - 1) (queue_in t (n - 1)) y.home z.home v.home w.home)
    ∙ ap (value z.home) (ext_get_or (pos 0) y.bounds z.bounds (k ∙ sym w.bounds.long) (λ x h. v.bounds.each x (omega arith) ∙ sym (w.bounds.each x (omega arith))))

module _ (m : Model) (r : RightModel m) (t : List ℕ) (g : Given m t) where
  pub given_is_sound : Sound m t
  given_is_sound = ((given_sound m r t).0 g).0

  -- a zone of the proposal
  module _ (n : ℕ) (a : 1 ≤ n) (b : n ≤ zones_in t) where
    abbrev k : ℕ
    k = n - 1

    sound : SoundZone m t k
    sound = given_is_sound.zones k (omega arith)

    pub zone_is : nth1 (decode t).zones n ≡ some (zone_in t k)
    zone_is = nth1_at (decode t).zones n a ∙ ap (λ (zs : List Z.Zone). get_elem? zs k) (zones_dense m t given_is_sound) ∙ dense_nth (zones_in t) (zone_in t) k (omega arith)

    -- the location with the queue order that is read
    pub home_at_lem : (h : Home) → HomeRead t k (queue_in t k) h → home_of h ≡ record { location = (zone_in t k).location; order = (zone_in t k).order }
    unfolding zone_in
    home_at_lem h w = home_is m t k h w sound.order

    pub home_right : (h : Home) → HomeRead t k (queue_in t k) h → RightHome m h
    home_right h w = sound_home m t k h w sound.order

    pub claims_is : length (zone_in t k).claims ≡ claims_at t n
    unfolding zone_in claims_in
    claims_is = words_length t (pool_start + start_in t k) (end_in t k - start_in t k)

    pub claim_is : (x : ℕ) → 1 ≤ x → x ≤ claims_at t n → nth1 (zone_in t k).claims x ≡ some (claim_at t n x)
    unfolding zone_in claims_in
    claim_is x c d = nth1_at (claims_in t k) x c ∙ words_nth t (pool_start + start_in t k) (end_in t k - start_in t k) (x - 1) (omega arith)

    -- what `zone_at` asks
    pub given_small : KeptSmall t k
    given_small x l = (bounds_fit t k _ m refl sound.bounds x l).most

    -- ---- the zone by value

    module _ (z : Zone) (w : ZoneRead t n z) where
      abbrev kept : ℕ → ℕ
      kept x = get_or t (384 + 289 * k + x) 0

      is_bound_lem : (v : ℕ) → v ≤ 64001 → is_bound (entry_of_kept v) ≡ ltb 0 v
      is_bound_lem v h =
          by_eq v 0 (λ e. rw e)
          (λ e.
          rw (ne_eqb v 0 e, lt-ltb 0 v (omega arith), ne_eqb (over (lowered_by bound_most (v - 1))) 1000000000 (λ i. omega (arith, over_of bound_most (v - 1)))))

      bounds_read : bounds_of z ≡ bounds_in t k
      unfolding written.bounds_in bounds_in
      bounds_read =
          collect_where 289 (λ x. is_bound (entry_in z.bounds x)) (λ x. there t (384 + 289 * k + x)) (λ x. record { i = x / 17; j = x % 17; c = entry_in z.bounds x }) (λ x. kept_bound (x / 17) (x % 17) (kept x - 1))
          (λ x l. ap is_bound (w.bounds.each x l) ∙ is_bound_lem (kept x) (given_small x l))
          (λ x l e.
          let p = ltb-true 0 (kept x) e in
          let v : entry_in z.bounds x ≡ lowered_by bound_most (kept x - 1) = w.bounds.each x l ∙ rw (ne_eqb (kept x) 0 (λ i. omega arith)) in
          rw v)

      -- the zone by value is that zone, up to its claims
      pub read_is : zone_of z ≡ without_claims (zone_in t k)
      unfolding zone_in
      read_is = ap (λ (h : R.Home). made h.location h.order (bounds_of z)) (home_at_lem z.home w.home) ∙ ap (made (get_or t (8 * k) 0 - 1) (order_in t k)) bounds_read

      pub read_lendable : Lendable m z
      read_lendable = record { home = home_right z.home w.home; bounds = rw (order_is m t k z.home w.home sound.order, bounds_read) sound.bounds }
