-- The proposals that the records of a text give are just those that a text can say, and the text is theirs.
-- Assumes nothing.
use Prim.Native.Nat.{◌+◌, ◌-◌, ◌<◌, ◌≤◌, ℕ}
use mathlib.Core.Bool.{true}
use mathlib.Core.List.{List, [], ◌++◌, ◌∷◌, append_assoc, append-nil, map}
use mathlib.Core.Path.{◌∙◌, ◌≡◌, ap, refl, subst, sym}
use native.Mathlib.Omega.{arith}
use lib.ListN.{length, length-append}
use Rattle.meaning.proofs.Text.Collects.{each_append}
use Rattle.meaning.proofs.Text.Keyed.{each_map, each_map₂}
use Rattle.meaning.proofs.Text.ModelDecode.{texts_append}
use Rattle.meaning.proofs.Text.ProposalLaws.{Full, Good, Ok, lawful}
use Rattle.meaning.proofs.Text.RecordRowLaws.{Chain, chain_append, found_read, read_found}
use Rattle.meaning.specs.Lists.{flat}
use Rattle.meaning.specs.Model.{Bound, Model}
use Rattle.meaning.specs.Text.ModelText.{texts}
use Rattle.meaning.specs.Text.ProposalReader.{Entry, Sofar, begun, bound, claims, entry_text, order, proposal_of, put, row, whole, with_bound, with_claims}
use Rattle.meaning.specs.Text.ProposalText.{bound_text, claims_text, end_text, order_text, proposal_text, zone_text}
use Rattle.meaning.specs.Text.Ranges.{bound_most, zones_most}
use Rattle.meaning.specs.Text.RecordRow.{read}
use Rattle.meaning.specs.Text.Records.{done}
use Rattle.meaning.specs.Text.RightModel.{Each, Ordered, RightBound, RightModel, before}
use Rattle.meaning.specs.Text.RightProposal.{RightProposal, RightZone}
use Rattle.meaning.specs.Zones.Variables.{variables}
use Rattle.meaning.specs.Zones.Zone.{Proposal, Zone, widest}

texts_one : {A : Type 0} (t : A → List ℕ) (xs : List A) (x : A) → texts t (xs ++ x ∷ []) ≡ texts t xs ++ t x
unfolding texts
texts_one t xs x = texts_append t xs (x ∷ []) ∙ ap (λ (l : List ℕ). texts t xs ++ l) (append-nil (t x))

-- the lines of what was read so far
unfoldable sofar_text : Sofar → List ℕ
sofar_text (whole zs) = texts zone_text zs
sofar_text (begun zs z) = texts zone_text zs ++ (order_text z.location z.order ++ texts bound_text z.bounds)

-- the records of a zone
unfoldable pub entries_of : Zone → List Entry
entries_of z = order z.location z.order ∷ (map bound z.bounds ++ claims z.claims ∷ [])

texts_bounds : (bs : List Bound) → texts entry_text (map bound bs) ≡ texts bound_text bs
unfolding texts entry_text
texts_bounds [] = refl
texts_bounds (b ∷ bs) = ap (λ (l : List ℕ). bound_text b ++ l) (texts_bounds bs)

texts_entries : (z : Zone) → texts entry_text (entries_of z) ≡ zone_text z
unfolding entries_of zone_text texts entry_text
texts_entries z =
    ap (λ (l : List ℕ). order_text z.location z.order ++ l)
    (texts_one entry_text (map bound z.bounds) (claims z.claims) ∙ ap (λ (l : List ℕ). l ++ claims_text z.claims) (texts_bounds z.bounds))

texts_zones : (zs : List Zone) → texts entry_text (flat entries_of zs) ≡ texts zone_text zs
unfolding texts
texts_zones [] = refl
texts_zones (z ∷ zs) =
    texts_append entry_text (entries_of z) (flat entries_of zs) ∙ rw (texts_entries z, texts_zones zs)

module _ (m : Model) (r : RightModel m) where
  -- ---- what was read

  put_text : (x : Sofar) (w : Entry) → Ok m r x w → sofar_text (put x w) ≡ sofar_text x ++ entry_text w
  unfolding sofar_text put entry_text texts zone_text
  put_text (whole zs) (order l o) k = ap (λ (y : List ℕ). texts zone_text zs ++ y) (append-nil (order_text l o))
  put_text (whole zs) (bound b) k = absurd k
  put_text (whole zs) (claims c) k = absurd k
  put_text (begun zs z) (order l o) k = absurd k
  put_text (begun zs z) (bound b) k =
      let a = order_text z.location z.order in
      ap (λ (y : List ℕ). texts zone_text zs ++ (order_text z.location z.order ++ y)) (texts_one bound_text z.bounds b)
      ∙ rw (append_assoc, append_assoc)
  put_text (begun zs z) (claims c) k = texts_one zone_text zs (with_claims z c) ∙ rw (append_assoc, append_assoc)

  chain_text : (ws : List Entry) (x out : Sofar) → Chain (row m) (lawful m r) x ws out → sofar_text out ≡ sofar_text x ++ texts entry_text ws
  unfolding lawful texts
  chain_text [] x out c = ap sofar_text (sym c) ∙ sym (append-nil (sofar_text x))
  chain_text (w ∷ ws) x out c =
      chain_text ws (put x w) out c.1 ∙ ap (λ (l : List ℕ). l ++ texts entry_text ws) (put_text x w c.0) ∙ append_assoc (sofar_text x) (entry_text w) (texts entry_text ws)

  -- claims up to the last zone
  zone_up_to : (n : ℕ) (z : Zone) → RightZone m zones_most z → Each (λ (c : ℕ). c ≤ n) z.claims → RightZone m n z
  zone_up_to n z w a =
      record { order = w.order; bounds = w.bounds; claims = record { many = w.claims.many; zeros = w.claims.zeros; each = a } }

  full_right : (x : Sofar) → Good m r x → Full m r x → RightProposal m (proposal_of x) × (x ≡ whole (proposal_of x).zones)
  unfolding proposal_of
  full_right (begun zs z) g f = absurd f
  full_right (whole zs) g f = (
    record { low = f.0; high = g.0; zones = each_map₂ zs (λ z a b. zone_up_to (length zs) z a b) g.1 f.1 },
    refl,
  )

  -- a text that is read is the text of a proposal that a text can say
  pub record Told (s : List ℕ) (x : Sofar) : Type 0 where
    pub right : RightProposal m (proposal_of x)
    pub text : s ≡ proposal_text (proposal_of x)
    pub all : x ≡ whole (proposal_of x).zones

  pub read_told : (s : List ℕ) (x : Sofar) → read (row m) s ≡ done x → Told s x
  unfolding proposal_text sofar_text lawful texts
  read_told s x e =
      let f = read_found (row m) (lawful m r) s x e in
      let g = full_right x f.good f.full in
      let t : sofar_text x ≡ texts entry_text f.records = chain_text f.records (whole []) x f.chain in
      let u : sofar_text x ≡ texts zone_text (proposal_of x).zones = ap sofar_text g.1 in
      record { right = g.0; text = f.text ∙ ap (λ (l : List ℕ). l ++ end_text) (sym t ∙ u); all = g.1 }

  -- ---- what can be said

  module _ (zs : List Zone) where
    bounds_chain : (bs : List Bound) (z : Zone) → Each (RightBound (variables m z.order - 1) bound_most) bs → Ordered (λ (a b : Bound). before a b ≡ true) bs
        → Each (λ (b : Bound). Each (λ (a : Bound). before a b ≡ true) z.bounds) bs
        → Chain (row m) (lawful m r) (begun zs z) (map bound bs)
        (begun zs (record { location = z.location; order = z.order; bounds = z.bounds ++ bs; claims = z.claims }))
    unfolding lawful put
    bounds_chain [] z a o h =
        ap (λ (l : List Bound). begun zs (record { location = z.location; order = z.order; bounds = l; claims = z.claims })) (sym (append-nil z.bounds))
    bounds_chain (b ∷ bs) z a o h = (
      (a.0, h.0),
      subst (λ (l : List Bound). Chain (row m) (lawful m r) (begun zs (with_bound z b)) (map bound bs) (begun zs (record { location = z.location; order = z.order; bounds = l; claims = z.claims })))
          (append_assoc z.bounds (b ∷ []) bs)
          (bounds_chain bs (with_bound z b) a.1 o.1
          (each_map₂ bs (λ c u v. each_append (λ (a : Bound). before a c ≡ true) z.bounds (b ∷ []) u (v, tt)) h.1 o.0)),
    )

    zone_chain : (z : Zone) → length zs < zones_most → RightZone m zones_most z → Chain (row m) (lawful m r) (whole zs) (entries_of z) (whole (zs ++ z ∷ []))
    unfolding entries_of lawful put
    zone_chain z h w = (
      (h, w.order),
      chain_append (row m) (lawful m r) (map bound z.bounds) (claims z.claims ∷ []) (begun zs (widest z.location z.order))
          (begun zs (with_claims z [])) (whole (zs ++ z ∷ []))
          (bounds_chain z.bounds (widest z.location z.order) w.bounds.each w.bounds.rising (each_map z.bounds (λ b a. tt) w.bounds.each))
          (record { many = w.claims.many; zeros = w.claims.zeros; each = w.claims.each }, refl),
    )

  zones_chain : (zs rest : List Zone) → length zs + length rest ≤ zones_most → Each (RightZone m zones_most) rest
      → Chain (row m) (lawful m r) (whole zs) (flat entries_of rest) (whole (zs ++ rest))
  zones_chain zs [] h a = ap whole (sym (append-nil zs))
  zones_chain zs (z ∷ rest) h a =
      chain_append (row m) (lawful m r) (entries_of z) (flat entries_of rest) (whole zs) (whole (zs ++ z ∷ [])) (whole (zs ++ z ∷ rest))
      (zone_chain zs z (omega arith) a.0)
      (subst (λ (l : List Zone). Chain (row m) (lawful m r) (whole (zs ++ z ∷ [])) (flat entries_of rest) (whole l)) (append_assoc zs (z ∷ []) rest)
      (zones_chain (zs ++ z ∷ []) rest (omega (arith, length-append zs (z ∷ []))) a.1))

  -- the text of a proposal that a text can say is read
  pub right_read : (p : Proposal) → RightProposal m p → read (row m) (proposal_text p) ≡ done (whole p.zones)
  unfolding proposal_text lawful
  right_read p w =
      let n = w.high in
      rw (sym (texts_zones p.zones)) (found_read (row m) (lawful m r) (flat entries_of p.zones) (whole p.zones)
      (zones_chain [] p.zones (omega arith)
      (each_map p.zones (λ z a.
      record {
        order = a.order;
        bounds = a.bounds;
        claims = record { many = a.claims.many; zeros = a.claims.zeros; each = each_map z.claims (λ c b. omega arith) a.claims.each };
      })
      w.zones))
      (w.low, each_map p.zones (λ z a. a.claims.each) w.zones))
