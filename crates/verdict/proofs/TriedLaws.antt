-- The obligations that are tried, zone by zone: all that come before hold, and the first that fails is the answer.
-- Assumes nothing.
use mathlib.Core.Path.{◌≡◌, refl, sym, ◌∙◌, ap, subst}
use mathlib.Core.List.{List}
use mathlib.Core.Option.{some}
use Prim.Native.Nat.{ℕ, zero, suc, ◌+◌, ◌-◌, ◌*◌, ◌≤◌, ◌<◌}
use native.Mathlib.Omega.{arith}
use native.Mathlib.Decide.{dec_lt}
use lib.ListN.{length}
use lib.Seq.{take_all}
use Rattle.meaning.specs.Lists.{nth1}
use Rattle.meaning.specs.Model.{Model}
use Rattle.meaning.specs.Zones.Zone.{Zone, Proposal}
use Rattle.meaning.specs.Zones.Steps.{steps}
use Rattle.meaning.specs.Check.Obligations.{Obligation, starts, claimed, of_zones, obligations, Holds}
use Rattle.meaning.specs.Check.Answer as A
use Rattle.meaning.specs.Text.RightModel.{RightModel}
use Rattle.meaning.specs.Text.ProposalReader as reader
use Rattle.meaning.specs.Text.ProposalTable as table
use Rattle.meaning.proofs.Lists.{mem_at}
use Rattle.zone_table.specs.Sound.{zones_in}
use Rattle.zone_table.proofs.ZoneParts.{given_is_sound, zone_is}
use Rattle.verdict.specs.declared.answer.Found.{Found}
use Rattle.verdict.specs.declared.answer.Failure.{Failure}
use Rattle.verdict.specs.declared.answer.Verdict.TheVariants.{Accepted, Failed}
use Rattle.verdict.specs.Answers.{fault_of, SaysFailed}
use Rattle.verdict.specs.AnsweredBy.{AnsweredBy}
use Rattle.verdict.specs.Failing.{failing}
use Rattle.verdict.specs.Judged.{AtPlace, FailsSo, FailsIn, AllHold, OwnHold}
use Rattle.verdict.proofs.FoundLaws.{none_some}
use Rattle.verdict.proofs.CountLaws.{nth_inside, claimed_named, up_to_zone, upto_next, zone_stands}
use Rattle.verdict.proofs.TryLaws.{place_few}

-- "tried" obligations are those of the start and of the first n zones, and they hold
pub record TriedTo (m : Model) (p : Proposal) (n tried : ℕ) : Type 0 where
  pub count : tried ≡ up_to_zone m p n
  pub hold : (i : ℕ) → i ≤ tried → (o : Obligation) → nth1 (obligations m p) i ≡ some o → Holds m p o

-- r says how an obligation fails, and those before it hold
pub record FailsBy (m : Model) (p : Proposal) (r : Failure) : Type 0 where
  pub failure : A.Failure
  pub fails : A.FailsAt m p failure
  pub says : SaysFailed failure r

-- ---- the places of one zone

module _ (m : Model) (n : ℕ) (z : Zone) where
  place_low : (x : ℕ) (o : Obligation) → AtPlace m n z x o → 1 ≤ x
  place_low zero o e = absurd (none_some e)
  place_low (suc x) o e = omega arith

  place_named : (x : ℕ) (o : Obligation) → AtPlace m n z x o → (A.zone_number o ≡ n) × (A.place_number o ≡ x)
  place_named zero o e = absurd (none_some e)
  place_named (suc x) o e =
      let r = claimed_named n z 1 (steps m z) z.claims x o e in
      (r.0, omega (arith, r.1))

-- ---- from zone to zone

-- a zone's own number, behind `before` others
pub own_on : (m : Model) (p : Proposal) (n : ℕ) (z : Zone) (r before more : ℕ) → OwnHold m p n z r → more ≡ before + r → AllHold m p n z before more
own_on m p n z r before more w e = record { hold = w.hold; number = omega (arith, w.number, e) }

module _ (m : Model) (p : Proposal) where
  -- obligation 1 holds
  pub tried_first : Holds m p starts → TriedTo m p 0 1
  tried_first h = record { count = refl; hold = hold }
    where
      hold : (i : ℕ) → i ≤ 1 → (o : Obligation) → nth1 (obligations m p) i ≡ some o → Holds m p o
      hold zero l o e = absurd (none_some e)
      hold (suc zero) l o e = let q : starts ≡ o = cc in subst (Holds m p) q h
      hold (suc (suc i)) l o e = absurd (omega arith)

  -- obligation 1 fails
  pub start_fails : (f : Found) → FailsSo m p starts f → FailsBy m p (failing 1 1 0 f)
  start_fails f j = record {
    failure = record { number = 1; zone = 1; place = 0; fault = fault_of f.fault; state = j.state };
    fails = record {
      obligation = starts;
      listed = refl;
      earlier = earlier;
      fails = j.fails;
      zone = refl;
      place = refl;
    };
    says = record { number = refl; zone = refl; place = refl; fault = refl; state = j.says };
  }
    where
      earlier : (i : ℕ) → i < 1 → (o : Obligation) → nth1 (obligations m p) i ≡ some o → Holds m p o
      earlier zero l o e = absurd (none_some e)
      earlier (suc i) l o e = absurd (omega arith)

  -- with all zones, all obligations
  pub tried_all : (n tried : ℕ) → length p.zones ≤ n → TriedTo m p n tried → A.Right m p (A.accepted tried)
  tried_all n tried l h =
      (record { all = λ o w. let q = mem_at w in h.hold (suc q.0) (omega (arith, long, nth_inside (obligations m p) q.0 o q.1)) o q.1 }, long)
    where
      long : tried ≡ length (obligations m p)
      long = h.count ∙ ap (λ (zs : List Zone). suc (length (of_zones m 1 zs))) (take_all n p.zones l)

  -- one zone more, number k, which is z
  module _ (k : ℕ) (low : 1 ≤ k) (z : Zone) (at : nth1 p.zones k ≡ some z) (tried : ℕ) (h : TriedTo m p (k - 1) tried) where
    next : suc (k - 1) ≡ k
    next = omega arith

    there : nth1 p.zones (suc (k - 1)) ≡ some z
    there = ap (nth1 p.zones) next ∙ at

    -- the obligation of a number behind those tried
    stands : (x : ℕ) → 1 ≤ x → x ≤ length (steps m z) → nth1 (obligations m p) (tried + x) ≡ nth1 (claimed k z 1 (steps m z) z.claims) x
    stands x a b =
        ap (λ (i : ℕ). nth1 (obligations m p) (i + x)) h.count ∙ zone_stands m p (k - 1) z there x a b
        ∙ ap (λ (i : ℕ). nth1 (claimed i z 1 (steps m z) z.claims) x) next

    -- up to a place up to which those of the zone hold
    hold_to : (last : ℕ) → last ≤ length (steps m z) → ((x : ℕ) → x ≤ last → (o : Obligation) → AtPlace m k z x o → Holds m p o)
        → (i : ℕ) → i ≤ tried + last → (o : Obligation) → nth1 (obligations m p) i ≡ some o → Holds m p o
    hold_to last b w i l o e = go (dec_lt tried i)
      where
        go : Dec (tried < i) → Holds m p o
        go (no c) = h.hold i (omega arith) o e
        go (yes c) =
            let g : tried + (i - tried) ≡ i = omega arith in
            w (i - tried) (omega arith) o (sym (stands (i - tried) (omega arith) (omega arith)) ∙ ap (nth1 (obligations m p)) g ∙ e)

    -- its obligations hold
    pub tried_next : (r : ℕ) → AllHold m p k z tried r → TriedTo m p k r
    tried_next r w = record {
      count = omega (arith, w.number, h.count, upto_next m p (k - 1) z there) ∙ ap (up_to_zone m p) next;
      hold = λ i l. hold_to (length (steps m z)) (omega arith) (λ x b. w.hold x) i (omega (arith, w.number));
    }

    -- by the zone's own number
    pub own_next : (r more : ℕ) → OwnHold m p k z r → more ≡ tried + r → TriedTo m p k more
    own_next r more w e = tried_next more (own_on m p k z r tried more w e)

    -- one of them fails
    pub tried_fails : (r : Failure) → FailsIn m p k z tried r → FailsBy m p r
    tried_fails r w =
        let o = w.obligation in
        let low_place = place_low m k z r.place o w.here in
        let high_place = place_few m p k z r.place o w.here in
        let named = place_named m k z r.place o w.here in
        record {
          failure = record { number = r.number; zone = k; place = r.place; fault = fault_of r.fault; state = w.fails.state };
          fails = record {
            obligation = o;
            listed = ap (nth1 (obligations m p)) w.number ∙ stands r.place low_place high_place ∙ w.here;
            earlier = λ i l. hold_to (r.place - 1) (omega arith) (λ x b. w.hold x (omega arith)) i (omega (arith, w.number));
            fails = w.fails.fails;
            zone = sym named.0;
            place = sym named.1;
          };
          says = record { number = refl; zone = w.zone; place = refl; fault = refl; state = w.fails.says };
        }

-- ---- the answer on the tables

module _ (m : Model) (v : RightModel m) (u : List ℕ) (g : reader.Given m u) where
  abbrev p : Proposal
  p = table.decode u

  -- a zone has no more steps than the pool has claims
  steps_few : (n : ℕ) → 1 ≤ n → n ≤ zones_in u → length (steps m (table.zone_in u (n - 1))) ≤ 32767
  steps_few n a b =
      let c = ((given_is_sound m v u g).zones (n - 1) (omega arith)).claims in
      omega (arith, c.many, c.most)

  answered_fails : (r : Failure) → FailsBy m p r → AnsweredBy m p (Failed r)
  answered_fails r h = record { answer = A.failed h.failure; right = h.fails; says = h.says }

  -- the answer where obligation 1 fails
  pub answered_start : (f : Found) → FailsSo m p starts f → AnsweredBy m p (Failed (failing 1 1 0 f))
  answered_start f j = answered_fails (failing 1 1 0 f) (start_fails m p f j)

  module _ (k : ℕ) (low : 1 ≤ k) (high : k ≤ zones_in u) (tried : ℕ) (h : TriedTo m p (k - 1) tried) where
    zone : nth1 p.zones k ≡ some (table.zone_in u (k - 1))
    zone = zone_is m v u g k low high

    -- the answer where an obligation of the next zone fails
    pub answered_zone : (r : Failure) → FailsIn m p k (table.zone_in u (k - 1)) tried r → AnsweredBy m p (Failed r)
    answered_zone r w = answered_fails r (tried_fails m p k low (table.zone_in u (k - 1)) zone tried h r w)

    -- where they hold, one zone more is tried, and the number stays small
    pub zone_tried : (r : ℕ) → AllHold m p k (table.zone_in u (k - 1)) tried r → tried ≤ 1 + 32767 * (k - 1)
        → record { few : r ≤ 1 + 32767 * (k + 1 - 1); tried : TriedTo m p (k + 1 - 1) r }
    zone_tried r w b =
        let more : k ≡ k + 1 - 1 = omega arith in
        record {
          few = omega (arith, w.number, steps_few k low high);
          tried = subst (λ (i : ℕ). TriedTo m p i r) more (tried_next m p k low (table.zone_in u (k - 1)) zone tried h r w);
        }

    -- by the zone's own number
    pub zone_own : (r next : ℕ) → OwnHold m p k (table.zone_in u (k - 1)) r → next ≡ tried + r → tried ≤ 1 + 32767 * (k - 1)
        → record { few : next ≤ 1 + 32767 * (k + 1 - 1); tried : TriedTo m p (k + 1 - 1) next }
    zone_own r next w e = zone_tried next (own_on m p k (table.zone_in u (k - 1)) r tried next w e)

  -- the answer where all are tried
  pub answered_all : (n tried : ℕ) → zones_in u ≤ n → TriedTo m p n tried → AnsweredBy m p (Accepted tried)
  answered_all n tried l h = record { answer = A.accepted tried; right = tried_all m p n tried l h; says = refl }
