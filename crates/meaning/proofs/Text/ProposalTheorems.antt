-- The theorems of the proposal's text: what is read, what is written, what a table stands for, and which tables are refused by 13.
-- Assumes nothing.
use Prim.Native.Nat.{◌<◌, ◌≤◌, ℕ}
use mathlib.Core.Bool.{Bool, true}
use mathlib.Core.List.{List}
use mathlib.Core.Logic.{◌↔◌}
use mathlib.Core.Path.{◌∙◌, ◌≡◌, ap, subst, sym}
use native.Mathlib.Omega.{arith}
use lib.ListN.{length}
use Rattle.meaning.proofs.Text.Keyed.{each_map}
use Rattle.meaning.proofs.Text.ProposalEncode.{decode_encode, encode_length}
use Rattle.meaning.proofs.Text.ProposalRight.{right_read}
use Rattle.meaning.proofs.Text.ProposalWhole.{Known, claims_room, proposal_known, proposal_written}
use Rattle.meaning.specs.Model.{Model}
use Rattle.meaning.specs.Text.ProposalReader.{Given, Sofar, read_proposal, row, whole}
use Rattle.meaning.specs.Text.ProposalTable.{all_claims, decode, encode, pool_size, size}
use Rattle.meaning.specs.Text.ProposalText.{proposal_text}
use Rattle.meaning.specs.Text.Ranges.{text_most}
use Rattle.meaning.specs.Text.RecordRow.{read}
use Rattle.meaning.specs.Text.Records.{Answer, done}
use Rattle.meaning.specs.Text.RightModel.{Each, RightModel}
use Rattle.meaning.specs.Text.RightProposal.{RightProposal}
use Rattle.meaning.specs.Zones.Steps.{steps}
use Rattle.meaning.specs.Zones.Zone.{Proposal, Zone}

-- "GO: wrong number of claims" is shut out: each zone has a claim for each of its steps
pub proposal_claims : (m : Model) (p : Proposal) → RightProposal m p → Each (λ (z : Zone). length z.claims ≡ length (steps m z)) p.zones
proposal_claims m p w = each_map p.zones (λ z a. a.claims.many) w.zones

module _ (m : Model) (r : RightModel m) where
  -- the table of a proposal that a text within 65,535 bytes can say holds that proposal
  pub proposal_decode_encode : (p : Proposal) → RightProposal m p → length (proposal_text p) ≤ text_most → decode (encode p) ≡ p
  proposal_decode_encode p w h = decode_encode m r p w (claims_room p h)

  -- what a table that was read holds
  known_is : (lent : Bool) (n : ℕ) (s t : List ℕ) (k : Known m r lent n s t) → decode t ≡ k.proposal
  known_is lent n s t k = ap decode (sym k.table) ∙ proposal_decode_encode k.proposal k.right (subst (λ (x : List ℕ). length x ≤ text_most) k.text k.short)

  -- for every text: read and then written gives the same bytes
  pub proposal_read_then_write : (lent : Bool) (n : ℕ) (s t : List ℕ) → read_proposal lent m n s ≡ done t → proposal_text (decode t) ≡ s
  proposal_read_then_write lent n s t e = let k = proposal_known m r lent n s t e in ap proposal_text (known_is lent n s t k) ∙ sym k.text

  -- only one text gives a table
  pub proposal_given_text : (s t : List ℕ) → read_proposal true m size s ≡ done t → s ≡ proposal_text (decode t)
  proposal_given_text s t e = sym (proposal_read_then_write true size s t e)

  -- for every table that a text gives: written and then read gives the same table
  pub proposal_write_then_read : (t : List ℕ) → Given m t → read_proposal true m size (proposal_text (decode t)) ≡ done t
  proposal_write_then_read t g = ap (read_proposal true m size) (sym (proposal_given_text g.text t g.reads)) ∙ g.reads

  -- so a table is one that a text gives exactly when it is read back from what it is written as: refusal 13 can be told by reading
  pub proposal_given_iff : (t : List ℕ) → Given m t ↔ (read_proposal true m size (proposal_text (decode t)) ≡ done t)
  proposal_given_iff t = (proposal_write_then_read t, λ e. record { text = proposal_text (decode t); reads = e })

  -- what a table that was read stands for has all of document 01's ranges
  pub proposal_given_right : (t : List ℕ) → Given m t → RightProposal m (decode t)
  proposal_given_right t g =
      let k = proposal_known m r true size g.text t g.reads in
      subst (RightProposal m) (sym (known_is true size g.text t k)) k.right

  -- and its text is within 65,535 bytes
  pub proposal_given_short : (t : List ℕ) → Given m t → length (proposal_text (decode t)) ≤ text_most
  proposal_given_short t g =
      subst (λ (x : List ℕ). length x ≤ text_most) (proposal_given_text g.text t g.reads) (proposal_known m r true size g.text t g.reads).short

  -- every such proposal whose text is within 65,535 bytes is read, and gives its table
  pub proposal_text_read : (p : Proposal) → RightProposal m p → length (proposal_text p) ≤ text_most → read_proposal true m size (proposal_text p) ≡ done (encode p)
  proposal_text_read = proposal_written m r

  pub proposal_right_given : (p : Proposal) → RightProposal m p → length (proposal_text p) ≤ text_most → Given m (encode p)
  proposal_right_given p w h = record { text = proposal_text p; reads = proposal_text_read p w h }

  -- a table that a text gives is the table of the proposal that it holds
  pub proposal_given_encode : (t : List ℕ) → Given m t → encode (decode t) ≡ t
  proposal_given_encode t g = let k = proposal_known m r true size g.text t g.reads in ap encode (known_is true size g.text t k) ∙ k.table

  pub proposal_given_size : (t : List ℕ) → Given m t → length t ≡ size
  proposal_given_size t g = ap length (sym (proposal_given_encode t g)) ∙ encode_length (decode t)

  -- the tables that a text gives: those of a proposal that a text can say, whose text is within 65,535 bytes
  pub proposal_given_when : (t : List ℕ) → Given m t ↔ (RightProposal m (decode t) × (length (proposal_text (decode t)) ≤ text_most) × (encode (decode t) ≡ t))
  proposal_given_when t = (
    (λ g. (proposal_given_right t g, proposal_given_short t g, proposal_given_encode t g)),
    (λ w. subst (Given m) w.2 (proposal_right_given (decode t) w.0 w.1)),
  )

  -- a proposal whose text is longer has no table that a text gives
  pub proposal_long : (p : Proposal) → RightProposal m p → length (all_claims p.zones) ≤ pool_size → text_most < length (proposal_text p) → Given m (encode p) → ⊥
  proposal_long p w room h g =
      let l = proposal_given_short (encode p) g in
      let e = ap (λ (q : Proposal). length (proposal_text q)) (decode_encode m r p w room) in
      omega arith

  -- the reader answers done exactly for the texts within 65,535 bytes of such proposals
  pub proposal_read_iff : (s : List ℕ) → ((t : List ℕ) × (read_proposal true m size s ≡ done t)) ↔ ((p : Proposal) × RightProposal m p × (s ≡ proposal_text p) × (length s ≤ text_most))
  proposal_read_iff s = (
    (λ e. let k = proposal_known m r true size s e.0 e.1 in (k.proposal, k.right, k.text, k.short)),
    (λ w. (encode w.0, rw w.2 (proposal_text_read w.0 w.1 (subst (λ (x : List ℕ). length x ≤ text_most) w.2 w.3)))),
  )

  -- and the proposal is the only one with that text
  pub proposal_text_one : (p q : Proposal) → RightProposal m p → RightProposal m q → proposal_text p ≡ proposal_text q → p ≡ q
  proposal_text_one p q v w e =
      let a : ◌≡◌ {A = Answer Sofar} (done (whole p.zones)) (done (whole q.zones)) = sym (right_read m r p v) ∙ ap (read (row m)) e ∙ right_read m r q w in
      let b : p.zones ≡ q.zones = cc in
      ap (λ (zs : List Zone). record { zones = zs }) b
