-- The proposal's reader as it is called: what it answers done to. No proposal's text has a comma or a full stop, and its claims fit the pool.
-- Assumes nothing.
use Prim.Native.Nat.{◌*◌, ◌≤◌, ℕ}
use mathlib.Core.Bool.{Bool, true}
use mathlib.Core.List.{List, [], ◌++◌, ◌∷◌, map}
use mathlib.Core.Path.{◌∙◌, ◌≡◌, ap, refl}
use native.Mathlib.Omega.{arith}
use lib.Dec.{eqb}
use lib.ListN.{length, length-append}
use borrow.Author.Tests.{eqb-true}
use Rattle.meaning.proofs.Text.Choices.{by_pick, nonsense}
use Rattle.meaning.proofs.Text.ClearLaws.{Clear, clear_append, fields_clear, whole_clear, whole_done}
use Rattle.meaning.proofs.Text.MoreLaws.{numbers_long}
use Rattle.meaning.proofs.Text.ProposalRight.{read_told, right_read}
use Rattle.meaning.specs.Model.{Bound, Model}
use Rattle.meaning.specs.Text.Lines.{numbers_text}
use Rattle.meaning.specs.Text.ModelText.{texts}
use Rattle.meaning.specs.Text.ProposalReader.{Sofar, proposal_of, read_proposal, row, stored}
use Rattle.meaning.specs.Text.ProposalTable.{all_claims, encode, pool_size, size}
use Rattle.meaning.specs.Text.ProposalText.{bound_text, claims_text, end_text, order_text, proposal_text, zone_text}
use Rattle.meaning.specs.Text.Ranges.{text_most}
use Rattle.meaning.specs.Text.RecordRow.{read}
use Rattle.meaning.specs.Text.Records.{Answer, done, is_stop, refused, whole_text}
use Rattle.meaning.specs.Text.RightModel.{RightModel}
use Rattle.meaning.specs.Text.RightProposal.{RightProposal}
use Rattle.meaning.specs.Zones.Zone.{Proposal, Zone}

-- ---- commas and full stops

texts_clear : {A : Type 0} (t : A → List ℕ) (xs : List A) → ((x : A) → Clear (t x)) → Clear (texts t xs)
unfolding texts
texts_clear t [] h = tt
texts_clear t (x ∷ xs) h = clear_append (t x) (texts t xs) (h x) (texts_clear t xs h)

numbers_clear : (vs : List ℕ) → Clear (numbers_text vs)
unfolding numbers_text
numbers_clear vs = fields_clear (map (λ (v : ℕ). 0) vs) vs

bound_clear : (b : Bound) → Clear (bound_text b)
unfolding bound_text is_stop
bound_clear b = (refl, (refl, fields_clear _ _))

zone_clear : (z : Zone) → Clear (zone_text z)
unfolding zone_text order_text claims_text is_stop
zone_clear z =
    clear_append (order_text z.location z.order) (texts bound_text z.bounds ++ claims_text z.claims) (refl, (refl, numbers_clear (z.location ∷ z.order)))
    (clear_append (texts bound_text z.bounds) (claims_text z.claims) (texts_clear bound_text z.bounds bound_clear) (refl, (refl, numbers_clear z.claims)))

text_clear : (p : Proposal) → Clear (proposal_text p)
unfolding proposal_text is_stop
text_clear p = clear_append (texts zone_text p.zones) end_text (texts_clear zone_text p.zones zone_clear) (refl, (refl, (refl, tt)))

-- ---- how many claims a text has room for

claims_long : (zs : List Zone) → 2 * length (all_claims zs) ≤ length (texts zone_text zs)
unfolding texts zone_text claims_text
claims_long [] = omega arith
claims_long (z ∷ zs) =
    omega (
      arith,
      claims_long zs,
      numbers_long z.claims,
      length-append z.claims (all_claims zs),
      length-append (zone_text z) (texts zone_text zs),
      length-append (order_text z.location z.order) (texts bound_text z.bounds ++ claims_text z.claims),
      length-append (texts bound_text z.bounds) (claims_text z.claims),
    )

pub claims_room : (p : Proposal) → length (proposal_text p) ≤ text_most → length (all_claims p.zones) ≤ pool_size
unfolding proposal_text
claims_room p h = omega (arith, claims_long p.zones, length-append (texts zone_text p.zones) end_text)

-- ---- the reader as it is called

stored_done : (a : Answer Sofar) (t : List ℕ) → stored a ≡ done t → (x : Sofar) × (a ≡ done x) × (encode (proposal_of x) ≡ t)
unfolding stored
stored_done (done x) t e = (x, refl, (cc))
stored_done (refused k q) t e = nonsense (cc)

module _ (m : Model) (r : RightModel m) where
  -- the text of a proposal that a text can say is read, and gives its table
  pub proposal_written : (p : Proposal) → RightProposal m p → length (proposal_text p) ≤ text_most → read_proposal true m size (proposal_text p) ≡ done (encode p)
  unfolding read_proposal stored proposal_of
  proposal_written p w h = ap stored (whole_clear (proposal_text p) (read (row m) (proposal_text p)) (text_clear p) h ∙ right_read m r p w)

  -- what a text that is read tells
  pub record Known (lent : Bool) (n : ℕ) (s t : List ℕ) : Type 0 where
    pub lends : lent ≡ true
    pub full : n ≡ size
    pub short : length s ≤ text_most
    pub proposal : Proposal
    pub right : RightProposal m proposal
    pub text : s ≡ proposal_text proposal
    pub table : encode proposal ≡ t

  pub proposal_known : (lent : Bool) (n : ℕ) (s t : List ℕ) → read_proposal lent m n s ≡ done t → Known lent n s t
  unfolding read_proposal
  proposal_known lent n s t e =
      by_pick lent _ _ _ e
      (λ l e. by_pick (eqb n size) _ _ _ e
      (λ f e.
      let c = stored_done (whole_text s (read (row m) s)) t e in
      let d = whole_done s (read (row m) s) c.0 c.1 in
      let u = read_told m r s c.0 d.1 in
      record { lends = l; full = eqb-true n size f; short = d.0; proposal = proposal_of c.0; right = u.right; text = u.text; table = c.2 })
      (λ _ e. nonsense (cc)))
      (λ _ e. nonsense (cc))
