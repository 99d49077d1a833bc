-- The loop of the proposal's reader: each record ends within the text, and each is stored by setting a few cells of the table so far.
-- Assumes nothing.
use Prim.Native.Nat.{◌*◌, ◌+◌, ◌-◌, ◌<◌, ◌≤◌, ℕ}
use mathlib.Core.List.{List, [], ◌++◌, ◌∷◌, tail}
use mathlib.Core.Path.{◌∙◌, ◌≡◌, ap, sym}
use native.Mathlib.Omega.{arith}
use lib.Dec.{ltb}
use lib.ListN.{drop, length, length-append, length-drop, replicate}
use Rattle.meaning.proofs.Text.Choices.{by_pick, nonsense}
use Rattle.meaning.proofs.Text.LineLaws.{fields_next}
use Rattle.meaning.proofs.Text.MoreLaws.{more_inv, numbers_long}
use Rattle.meaning.proofs.Text.ProposalLaws.{Good, Ok, end_ends, judged_next, lawful, next_inv}
use Rattle.meaning.proofs.Text.ProposalStore.{claims_more}
use Rattle.meaning.proofs.Text.RecordRowLoop.{Reading}
use Rattle.meaning.specs.Model.{Model}
use Rattle.meaning.specs.Text.Lines.{Range, around, between, fields, fields_more, numbers_text, ok}
use Rattle.meaning.specs.Text.ProposalReader.{Entry, Sofar, begun, bound, bound_of, claims, entry_text, is_mark, look, look_bound, look_claims, look_order, order, proposal_of, put, rises, row, whole, with_bound, with_claims}
use Rattle.meaning.specs.Text.ProposalTable.{all_claims}
use Rattle.meaning.specs.Text.ProposalText.{claims_text}
use Rattle.meaning.specs.Text.Ranges.{bound_most, queue_most, zones_most}
use Rattle.meaning.specs.Text.RecordRow.{next}
use Rattle.meaning.specs.Text.RightModel.{RightModel}
use Rattle.meaning.specs.Text.RightProposal.{claims_fit}
use Rattle.meaning.specs.Zones.Proper.{fits}
use Rattle.meaning.specs.Zones.Variables.{variables}
use Rattle.meaning.specs.Zones.Zone.{widest}

-- where a line with any number of numbers ends
more_next : (es : List Range) (n : ℕ) (e : Range) (s : List ℕ) (at : ℕ) (vs : List ℕ) (k : ℕ) → fields_more es n e s at ≡ ok vs k → (at < k) × (k ≤ length s)
more_next es n e s at vs k q = let c = more_inv es n e s at vs k q in fields_next (es ++ replicate c.0 e) s at vs k c.2

module _ (m : Model) (s : List ℕ) (at : ℕ) where
  order_next : (x : Sofar) (w : Entry) (k : ℕ) → look_order m s at x ≡ next w k → (at + 2 < k) × (k ≤ length s)
  unfolding look_order
  order_next (begun zs z) w k e = nonsense (cc)
  order_next (whole zs) w k e =
      by_pick (ltb (length zs) zones_most) _ _ _ e
      (λ _ e.
      let c = judged_next (fields_more (between 1 (length m.locations) ∷ []) queue_most (between 1 (length m.tasks)) s (at + 2)) _ w k e in
      by_pick (fits m (tail c.0)) _ _ _ c.3 (λ _ q. let n : c.1 ≡ k = cc in more_next _ _ _ s (at + 2) c.0 k (c.2 ∙ ap (ok c.0) n)) (λ _ q. nonsense (cc)))
      (λ _ e. nonsense (cc))

  bound_next : (x : Sofar) (w : Entry) (k : ℕ) → look_bound m s at x ≡ next w k → (at + 2 < k) × (k ≤ length s)
  unfolding look_bound
  bound_next (whole zs) w k e = nonsense (cc)
  bound_next (begun zs z) w k e =
      let c = judged_next (fields (between 0 (variables m z.order - 1) ∷ between 0 (variables m z.order - 1) ∷ around bound_most ∷ []) s (at + 2)) _ w k e in
      by_pick (rises z.bounds (bound_of c.0)) _ _ _ c.3 (λ _ q. let n : c.1 ≡ k = cc in fields_next _ s (at + 2) c.0 k (c.2 ∙ ap (ok c.0) n)) (λ _ q. nonsense (cc))

  claims_next : (x : Sofar) (w : Entry) (k : ℕ) → look_claims m s at x ≡ next w k → (at + 2 < k) × (k ≤ length s)
  unfolding look_claims
  claims_next (whole zs) w k e = nonsense (cc)
  claims_next (begun zs z) w k e =
      let c = judged_next (fields_more [] (length s) (between 0 zones_most) s (at + 2)) _ w k e in
      by_pick (claims_fit m z c.0) _ _ _ c.3 (λ _ q. let n : c.1 ≡ k = cc in more_next _ _ _ s (at + 2) c.0 k (c.2 ∙ ap (ok c.0) n)) (λ _ q. nonsense (cc))

  -- a record takes a byte at least, and ends within the text
  pub look_next : RightModel m → (x : Sofar) (w : Entry) (k : ℕ) → look m s at x ≡ next w k → (at < k) × (k ≤ length s)
  unfolding look
  look_next r x w k e =
      by_pick (is_mark s at 90 78) _ _ _ e (λ _ e. let n = order_next x w k e in (omega arith, n.1))
      (λ _ e. by_pick (is_mark s at 66 68) _ _ _ e (λ _ e. let n = bound_next x w k e in (omega arith, n.1))
      (λ _ e. by_pick (is_mark s at 71 79) _ _ _ e (λ _ e. let n = claims_next x w k e in (omega arith, n.1))
      (λ _ e. by_pick (is_mark s at 69 78) _ _ _ e (λ _ e. absurd (end_ends m r s at x w k e)) (λ _ e. nonsense (cc)))))

-- the text s is read up to `at`, and x is what was read
abbrev pub ReadingTo : (m : Model) → RightModel m → List ℕ → ℕ → Sofar → Type 0
ReadingTo m r s at x = Reading (row m) (lawful m r) (λ s at x w k e. look_next m s at r x w k e) s at x

-- ---- the pool has room

-- the claims that were read take two bytes each
pub pool_more : (m : Model) (r : RightModel m) (s : List ℕ) (at : ℕ) (x : Sofar) (w : Entry) (k : ℕ) → Good m r x → at ≤ length s → look m s at x ≡ next w k
    → 2 * length (all_claims (proposal_of x).zones) ≤ at → 2 * length (all_claims (proposal_of (put x w)).zones) ≤ k
unfolding proposal_of put entry_text claims_text
pool_more m r s at x w k g h e p = go x w g (next_inv m r s at x w k g e) p
  where
    n : (at < k) × (k ≤ length s)
    n = look_next m s at r x w k e

    go : (x : Sofar) (w : Entry) → Good m r x → Ok m r x w × (drop at s ≡ entry_text w ++ drop k s) → 2 * length (all_claims (proposal_of x).zones) ≤ at
        → 2 * length (all_claims (proposal_of (put x w)).zones) ≤ k
    go (whole zs) (order l o) g i p = let j = n.0 in omega (arith, ap length (claims_more zs (widest l o)), length-append (all_claims zs) [])
    go (whole zs) (bound b) g i p = absurd i.0
    go (whole zs) (claims c) g i p = absurd i.0
    go (begun zs z) (order l o) g i p = absurd i.0
    go (begun zs z) (bound b) g i p = let j = n.0 in omega (arith, ap length (claims_more zs z), ap length (claims_more zs (with_bound z b)))
    go (begun zs z) (claims c) g i p =
        let j = n in
        omega (
          arith,
          ap length (claims_more zs z),
          ap length (claims_more zs (with_claims z c)),
          length-append (all_claims zs) z.claims,
          length-append (all_claims zs) c,
          sym (length-drop at s) ∙ ap length i.1,
          length-append (numbers_text c) (drop k s),
          numbers_long c,
          length-drop k s,
        )
