-- The proposal text is lawful: what is read is what is written, both ways.
-- Assumes nothing.
use Prim.Native.Nat.{◌+◌, ◌-◌, ◌<◌, ◌≤◌, ℕ}
use mathlib.Core.Bool.{Bool, ◌&&◌, false, not, true}
use mathlib.Core.List.{List, [], ◌++◌, ◌∷◌, tail}
use mathlib.Core.Path.{◌∙◌, ◌≡◌, ap, refl, sym}
use native.Mathlib.Omega.{arith}
use lib.Dec.{eqb, leb, ltb}
use lib.ListN.{drop, drop_of_length-le, get_or, length, length-append, length-drop, replicate}
use borrow.Author.Tests.{eq-eqb, eqb-false, eqb-true, le-leb, le-ltb, leb-true, lt-ltb, ltb-false, ltb-true, ne_eqb}
use Rattle.meaning.proofs.Text.Choices.{and_true, by_pick, nonsense}
use Rattle.meaning.proofs.Text.Collects.{each_append, ordered_snoc}
use Rattle.meaning.proofs.Text.Keyed.{each_every, each_map, every_each}
use Rattle.meaning.proofs.Text.LineLaws.{Tame, Within, fields_inv, fields_read}
use Rattle.meaning.proofs.Text.ModelLaws.{by_three}
use Rattle.meaning.proofs.Text.MoreLaws.{Plain, each_within, numbers_long, plain_inv, plain_read, within_each}
use Rattle.meaning.proofs.Text.Places.{here_head, here_mark, mark_here}
use Rattle.meaning.proofs.Text.BoundLaws.{lowered_of, over_of, raised_of, under_of}
use Rattle.meaning.proofs.Text.RecordRowLaws.{Lawful}
use Rattle.meaning.specs.Lists.{every}
use Rattle.meaning.specs.Model.{Bound, Model}
use Rattle.meaning.specs.Text.Lines.{Fields, Range, around, bad, between, fields, fields_more, fields_text, numbers_text, ok, out, raised_by}
use Rattle.meaning.specs.Text.ProposalReader.{Entry, Sofar, begun, bound, bound_of, claims, entry_text, is_mark, judged, look, look_bound, look_claims, look_end, look_order, order, put, rises, row, up_to_last, whole, with_claims}
use Rattle.meaning.specs.Text.ProposalText.{bound_text, claims_text, end_text, order_text}
use Rattle.meaning.specs.Text.Ranges.{bound_most, queue_most, zones_most}
use Rattle.meaning.specs.Text.RecordRow.{Met, closed, next}
use Rattle.meaning.specs.Text.RightModel.{Each, RightBound, RightModel, before}
use Rattle.meaning.specs.Text.RightProposal.{RightBounds, RightClaims, RightOrder, RightZone, claims_fit, zero_due, zeros_at}
use Rattle.meaning.specs.Zones.Proper.{fits}
use Rattle.meaning.specs.Zones.Steps.{steps}
use Rattle.meaning.specs.Zones.Variables.{variables}
use Rattle.meaning.specs.Zones.Zone.{Zone}

-- ---- marks

mark_inv : (s : List ℕ) (at a b : ℕ) → 0 < a → 0 < b → is_mark s at a b ≡ true → drop at s ≡ a ∷ b ∷ drop (at + 2) s
unfolding is_mark
mark_inv = mark_here

-- ---- lines

pub judged_next : (x : Fields) (f : List ℕ → ℕ → Met Entry) (w : Entry) (k : ℕ) → judged x f ≡ next w k → (v : List ℕ) × (n : ℕ) × (x ≡ ok v n) × (f v n ≡ next w k)
unfolding judged
judged_next (bad p) f w k e = nonsense (cc)
judged_next (out p) f w k e = nonsense (cc)
judged_next (ok v n) f w k e = (v, n, refl, e)

judged_closed : (x : Fields) (f : List ℕ → ℕ → Met Entry) → judged x f ≡ closed → (v : List ℕ) × (n : ℕ) × (x ≡ ok v n) × (f v n ≡ closed)
unfolding judged
judged_closed (bad p) f e = nonsense (cc)
judged_closed (out p) f e = nonsense (cc)
judged_closed (ok v n) f e = (v, n, refl, e)

-- ---- tests

different : (a b : ℕ) (x : Bool) → not (eqb a b) && x ≡ true → (a ≡ b → ⊥) × (x ≡ true)
different a b x e = go (eqb a b) refl e
  where
    go : (t : Bool) → eqb a b ≡ t → not t && x ≡ true → (a ≡ b → ⊥) × (x ≡ true)
    go true t e = nonsense (cc)
    go false t e = (eqb-false a b t, e)

module _ (m : Model) (r : RightModel m) where
  -- ---- what the reader keeps to

  abbrev pub Good : Sofar → Type 0
  Good (whole zs) = (length zs ≤ zones_most) × Each (RightZone m zones_most) zs
  Good (begun zs z) = (length zs < zones_most) × Each (RightZone m zones_most) zs × RightOrder m z.location z.order × RightBounds m z.order z.bounds × (z.claims ≡ [])

  -- the record may stand after what was read
  abbrev pub Ok : Sofar → Entry → Type 0
  Ok (whole zs) (order l o) = (length zs < zones_most) × RightOrder m l o
  Ok (whole zs) (bound b) = ⊥
  Ok (whole zs) (claims c) = ⊥
  Ok (begun zs z) (order l o) = ⊥
  Ok (begun zs z) (bound b) = RightBound (variables m z.order - 1) bound_most b × Each (λ (a : Bound). before a b ≡ true) z.bounds
  Ok (begun zs z) (claims c) = RightClaims m zones_most z c

  -- EN may stand after what was read
  abbrev pub Full : Sofar → Type 0
  Full (whole zs) = (1 ≤ length zs) × Each (λ (z : Zone). Each (λ (c : ℕ). c ≤ length zs) z.claims) zs
  Full (begun zs z) = ⊥

  pub good_put : (x : Sofar) (w : Entry) → Good x → Ok x w → Good (put x w)
  unfolding put
  good_put (whole zs) (order l o) g k = (k.0, g.1, k.1, record { each = tt; rising = tt }, refl)
  good_put (whole zs) (bound b) g k = absurd k
  good_put (whole zs) (claims c) g k = absurd k
  good_put (begun zs z) (order l o) g k = absurd k
  good_put (begun zs z) (bound b) g k = (
    g.0,
    g.1,
    g.2,
    record {
      each = each_append (RightBound (variables m z.order - 1) bound_most) z.bounds (b ∷ []) g.3.each (k.0, tt);
      rising = ordered_snoc (λ (a b : Bound). before a b ≡ true) z.bounds b g.3.rising k.1;
    },
    g.4,
  )
  good_put (begun zs z) (claims c) g k = (
    (let h = g.0 in omega (arith, length-append zs (with_claims z c ∷ []))),
    each_append (RightZone m zones_most) zs (with_claims z c ∷ []) g.1
        (record { order = g.2; bounds = g.3; claims = record { many = k.many; zeros = k.zeros; each = k.each } }, tt),
  )

  -- ---- ZN

  abbrev place : Range
  place = between 1 (length m.locations)

  abbrev task : Range
  task = between 1 (length m.tasks)

  plain_place : Plain place
  plain_place = record { below = refl; high = (let h = r.locations_high in omega arith) }

  plain_task : Plain task
  plain_task = record { below = refl; high = (let h = r.tasks_high in omega arith) }

  order_inv : (s : List ℕ) (at : ℕ) (x : Sofar) (w : Entry) (k : ℕ) → is_mark s at 90 78 ≡ true → look_order m s at x ≡ next w k → Ok x w × (drop at s ≡ entry_text w ++ drop k s)
  unfolding look_order entry_text order_text
  order_inv s at (begun zs z) w k t e = nonsense (cc)
  order_inv s at (whole zs) w k t e =
      by_pick (ltb (length zs) zones_most) _ _ _ e
      (λ h e.
      let c = judged_next (fields_more (place ∷ []) queue_most task s (at + 2)) _ w k e in
      by_pick (fits m (tail c.0)) _ _ _ c.3
      (λ f q.
      let n : c.1 ≡ k = cc in
      let i = plain_inv (place ∷ []) task (plain_place, tt) plain_task queue_most s (at + 2) c.0 k (c.2 ∙ ap (ok c.0) n) in
      go c.0 i.0 i.1 i.2 f i.3 (ltb-true (length zs) zones_most h) (cc))
      (λ _ q. nonsense (cc)))
      (λ _ e. nonsense (cc))
    where
      go : (v : List ℕ) (n : ℕ) → n ≤ queue_most → Within (place ∷ replicate n task) v → fits m (tail v) ≡ true → drop (at + 2) s ≡ numbers_text v ++ drop k s → length zs < zones_most
          → order (get_or v 0 0) (tail v) ≡ w → Ok (whole zs) w × (drop at s ≡ entry_text w ++ drop k s)
      go [] n l a f d h q = absurd a
      go (v ∷ vs) n l a f d h q =
          let b = within_each task n vs a.2 in
          rw (sym q) (
            (h, record { low = a.0; high = a.1; few = (let z = b.0 in omega arith); tasks = b.1; fit = f }),
            mark_inv s at 90 78 (omega arith) (omega arith) t ∙ ap (λ (y : List ℕ). 90 ∷ 78 ∷ y) d,
          )

  order_read : (s : List ℕ) (at : ℕ) (zs : List Zone) (l : ℕ) (o u : List ℕ) → Ok (whole zs) (order l o) → drop at s ≡ entry_text (order l o) ++ u
      → (k : ℕ) × (look m s at (whole zs) ≡ next (order l o) k) × (drop k s ≡ u) × (at < k)
  unfolding look is_mark look_order judged entry_text order_text
  order_read s at zs l o u g e =
      let b = here_mark s at 90 78 (numbers_text (l ∷ o) ++ u) e in
      let a : Within (place ∷ replicate (length o) task) (l ∷ o) = (g.1.low, g.1.high, each_within task o g.1.tasks) in
      let i = plain_read (place ∷ []) task (plain_place, tt) plain_task (length o) queue_most (l ∷ o) u s (at + 2) g.1.few a b.2 in
      let n = i.3 in
      (i.0, rw (b.0, b.1, lt-ltb (length zs) zones_most g.0, i.1, g.1.fit), i.2, omega arith)

  -- ---- BD

  abbrev variable : List ℕ → Range
  variable o = between 0 (variables m o - 1)

  abbrev bound_ranges : List ℕ → List Range
  bound_ranges o = variable o ∷ variable o ∷ around bound_most ∷ []

  bound_tame : (o : List ℕ) → length o ≤ queue_most → Tame (bound_ranges o)
  bound_tame o h = let c = r.clocks in omega arith

  bound_inv : (s : List ℕ) (at : ℕ) (x : Sofar) (w : Entry) (k : ℕ) → Good x → is_mark s at 66 68 ≡ true → look_bound m s at x ≡ next w k → Ok x w × (drop at s ≡ entry_text w ++ drop k s)
  unfolding look_bound entry_text bound_text
  bound_inv s at (whole zs) w k g t e = nonsense (cc)
  bound_inv s at (begun zs z) w k g t e =
      let c = judged_next (fields (bound_ranges z.order) s (at + 2)) _ w k e in
      by_pick (rises z.bounds (bound_of c.0)) _ _ _ c.3
      (λ h q.
      let n : c.1 ≡ k = cc in
      let f = fields_inv (bound_ranges z.order) s (at + 2) c.0 k (bound_tame z.order g.2.few) (c.2 ∙ ap (ok c.0) n) in
      by_three (λ (v : List ℕ). rises z.bounds (bound_of v) ≡ true → bound (bound_of v) ≡ w → drop (at + 2) s ≡ fields_text (0 ∷ 0 ∷ bound_most ∷ []) v ++ drop k s
      → Ok (begun zs z) w × (drop at s ≡ entry_text w ++ drop k s))
      (variable z.order) (variable z.order) (around bound_most) c.0 f.0
      (λ a b d a₁ a₂ b₁ b₂ d₁ d₂ h q l.
      let i = different a b (every (λ (y : Bound). before y (bound_of (a ∷ b ∷ d ∷ []))) z.bounds) h in
      let u = under_of bound_most d in
      let o = over_of bound_most d in
      rw (sym q) (
        (
          record { i = a₂; j = b₂; two = i.0; least = omega arith; most = omega arith },
          every_each (λ (y : Bound). before y (bound_of (a ∷ b ∷ d ∷ []))) z.bounds i.1,
        ),
        mark_inv s at 66 68 (omega arith) (omega arith) t ∙ ap (λ (y : List ℕ). 66 ∷ 68 ∷ y) (l ∙ ap (λ (y : ℕ). fields_text (0 ∷ 0 ∷ bound_most ∷ []) (a ∷ b ∷ y ∷ []) ++ drop k s) (sym (raised_of bound_most d))),
      ))
      h (cc) f.1)
      (λ _ q. nonsense (cc))

  bound_read : (s : List ℕ) (at : ℕ) (zs : List Zone) (z : Zone) (b : Bound) (u : List ℕ) → Good (begun zs z) → Ok (begun zs z) (bound b) → drop at s ≡ entry_text (bound b) ++ u
      → (k : ℕ) × (look m s at (begun zs z) ≡ next (bound b) k) × (drop k s ≡ u) × (at < k)
  unfolding look is_mark look_bound judged entry_text bound_text
  bound_read s at zs z b u g o e =
      let c = here_mark s at 66 68 (fields_text (0 ∷ 0 ∷ bound_most ∷ []) (b.i ∷ b.j ∷ raised_by bound_most b.c ∷ []) ++ u) e in
      let w₁ = o.0.i in
      let w₂ = o.0.j in
      let w₃ = o.0.most in
      let a : Within (bound_ranges z.order) (b.i ∷ b.j ∷ raised_by bound_most b.c ∷ []) = omega arith in
      let f = fields_read (bound_ranges z.order) (b.i ∷ b.j ∷ raised_by bound_most b.c ∷ []) u s (at + 2) (bound_tame z.order g.2.few) a c.2 in
      let n = f.3 in
      let l = lowered_of bound_most b.c o.0.least in
      let t : rises z.bounds b ≡ true = rw (ne_eqb b.i b.j o.0.two) (each_every (λ (y : Bound). before y b) z.bounds o.1) in
      (f.0, rw (c.0, c.1, f.1, l, t), f.2, omega arith)

  -- ---- GO

  abbrev claim : Range
  claim = between 0 zones_most

  plain_claim : Plain claim
  plain_claim = record { below = refl; high = omega arith }

  claims_inv : (s : List ℕ) (at : ℕ) (x : Sofar) (w : Entry) (k : ℕ) → is_mark s at 71 79 ≡ true → look_claims m s at x ≡ next w k → Ok x w × (drop at s ≡ entry_text w ++ drop k s)
  unfolding look_claims entry_text claims_text
  claims_inv s at (whole zs) w k t e = nonsense (cc)
  claims_inv s at (begun zs z) w k t e =
      let c = judged_next (fields_more [] (length s) claim s (at + 2)) _ w k e in
      by_pick (claims_fit m z c.0) _ _ _ c.3
      (λ h q.
      let n : c.1 ≡ k = cc in
      let p : claims c.0 ≡ w = cc in
      let i = plain_inv [] claim tt plain_claim (length s) s (at + 2) c.0 k (c.2 ∙ ap (ok c.0) n) in
      let b = within_each claim i.0 c.0 i.2 in
      let y = and_true (eqb (length c.0) (length (steps m z))) (zeros_at (zero_due m z) (steps m z) c.0) h in
      rw (sym p) (
        record { many = eqb-true (length c.0) (length (steps m z)) y.0; zeros = y.1; each = each_map c.0 (λ v a. a.1) b.1 },
        mark_inv s at 71 79 (omega arith) (omega arith) t ∙ ap (λ (l : List ℕ). 71 ∷ 79 ∷ l) i.3,
      ))
      (λ _ q. nonsense (cc))

  claims_read : (s : List ℕ) (at : ℕ) (zs : List Zone) (z : Zone) (c u : List ℕ) → Ok (begun zs z) (claims c) → drop at s ≡ entry_text (claims c) ++ u
      → (k : ℕ) × (look m s at (begun zs z) ≡ next (claims c) k) × (drop k s ≡ u) × (at < k)
  unfolding look is_mark look_claims judged entry_text claims_text
  claims_read s at zs z c u o e =
      let b = here_mark s at 71 79 (numbers_text c ++ u) e in
      let l : length c ≤ length s = omega (arith, sym (length-drop at s) ∙ ap length e, length-append (numbers_text c) u, numbers_long c) in
      let i = plain_read [] claim tt plain_claim (length c) (length s) c u s (at + 2) l (each_within claim c (each_map c (λ v a. (omega arith, a)) o.each)) b.2 in
      let n = i.3 in
      let t : claims_fit m z c ≡ true = rw (eq-eqb (length c) (length (steps m z)) o.many, o.zeros) in
      (i.0, rw (b.0, b.1, i.1, t), i.2, omega arith)

  -- ---- EN

  up_inv : (n : ℕ) (zs : List Zone) → up_to_last n zs ≡ true → Each (λ (z : Zone). Each (λ (c : ℕ). c ≤ n) z.claims) zs
  up_inv n zs e =
      each_map zs (λ z a. each_map z.claims (λ c b. leb-true c n b) (every_each (λ (c : ℕ). leb c n) z.claims a))
      (every_each (λ (z : Zone). every (λ (c : ℕ). leb c n) z.claims) zs e)

  up_make : (n : ℕ) (zs : List Zone) → Each (λ (z : Zone). Each (λ (c : ℕ). c ≤ n) z.claims) zs → up_to_last n zs ≡ true
  up_make n zs e =
      each_every (λ (z : Zone). every (λ (c : ℕ). leb c n) z.claims) zs
      (each_map zs (λ z a. each_every (λ (c : ℕ). leb c n) z.claims (each_map z.claims (λ c b. le-leb c n b) a)) e)

  end_inv : (s : List ℕ) (at : ℕ) (x : Sofar) → is_mark s at 69 78 ≡ true → look_end m s at x ≡ closed → Full x × (drop at s ≡ end_text)
  unfolding look_end fields_text
  end_inv s at (begun zs z) t e = nonsense (cc)
  end_inv s at (whole zs) t e =
      by_pick (ltb 0 (length zs)) _ _ _ e
      (λ h e.
      let c = judged_closed (fields [] s (at + 2)) _ e in
      by_pick (up_to_last (length zs) zs) _ _ _ c.3
      (λ u q. by_pick (ltb c.1 (length s)) _ _ _ q (λ _ q. nonsense (cc))
      (λ l q.
      let f = fields_inv [] s (at + 2) c.0 c.1 tt c.2 in (
        (ltb-true 0 (length zs) h, up_inv (length zs) zs u),
        mark_inv s at 69 78 (omega arith) (omega arith) t ∙ ap (λ (y : List ℕ). 69 ∷ 78 ∷ y) (f.1 ∙ rw (drop_of_length-le s (ltb-false c.1 (length s) l))),
      )))
      (λ _ q. nonsense (cc)))
      (λ _ e. nonsense (cc))

  pub end_read : (s : List ℕ) (at : ℕ) (x : Sofar) → Full x → drop at s ≡ end_text → look m s at x ≡ closed
  unfolding look is_mark look_end judged fields
  end_read s at (begun zs z) f e = absurd f
  end_read s at (whole zs) f e =
      let c = here_mark s at 69 78 (10 ∷ []) e in
      let d : length s ≤ at + 2 + 1 = omega (arith, sym (length-drop at s) ∙ ap length e) in
      rw (c.0, c.1, lt-ltb 0 (length zs) f.0, here_head s (at + 2) 10 [] c.2, up_make (length zs) zs f.1, le-ltb (at + 2 + 1) (length s) d)

  -- ---- all marks

  -- EN is no record of a zone, and they do not end the text
  pub end_ends : (s : List ℕ) (at : ℕ) (x : Sofar) (w : Entry) (k : ℕ) → look_end m s at x ≡ next w k → ⊥
  unfolding look_end
  end_ends s at (begun zs z) w k e = nonsense (cc)
  end_ends s at (whole zs) w k e =
      by_pick (ltb 0 (length zs)) _ _ _ e
      (λ _ e.
      let c = judged_next (fields [] s (at + 2)) _ w k e in
      by_pick (up_to_last (length zs) zs) _ _ _ c.3 (λ _ q. by_pick (ltb c.1 (length s)) _ _ _ q (λ _ q. nonsense (cc)) (λ _ q. nonsense (cc))) (λ _ q. nonsense (cc)))
      (λ _ e. nonsense (cc))

  order_goes : (s : List ℕ) (at : ℕ) (x : Sofar) → look_order m s at x ≡ closed → ⊥
  unfolding look_order
  order_goes s at (begun zs z) e = nonsense (cc)
  order_goes s at (whole zs) e =
      by_pick (ltb (length zs) zones_most) _ _ _ e
      (λ _ e.
      let c = judged_closed (fields_more (place ∷ []) queue_most task s (at + 2)) _ e in
      by_pick (fits m (tail c.0)) _ _ _ c.3 (λ _ q. nonsense (cc)) (λ _ q. nonsense (cc)))
      (λ _ e. nonsense (cc))

  bound_goes : (s : List ℕ) (at : ℕ) (x : Sofar) → look_bound m s at x ≡ closed → ⊥
  unfolding look_bound
  bound_goes s at (whole zs) e = nonsense (cc)
  bound_goes s at (begun zs z) e =
      let c = judged_closed (fields (bound_ranges z.order) s (at + 2)) _ e in
      by_pick (rises z.bounds (bound_of c.0)) _ _ _ c.3 (λ _ q. nonsense (cc)) (λ _ q. nonsense (cc))

  claims_go : (s : List ℕ) (at : ℕ) (x : Sofar) → look_claims m s at x ≡ closed → ⊥
  unfolding look_claims
  claims_go s at (whole zs) e = nonsense (cc)
  claims_go s at (begun zs z) e =
      let c = judged_closed (fields_more [] (length s) claim s (at + 2)) _ e in
      by_pick (claims_fit m z c.0) _ _ _ c.3 (λ _ q. nonsense (cc)) (λ _ q. nonsense (cc))

  pub next_inv : (s : List ℕ) (at : ℕ) (x : Sofar) (w : Entry) (k : ℕ) → Good x → look m s at x ≡ next w k → Ok x w × (drop at s ≡ entry_text w ++ drop k s)
  unfolding look
  next_inv s at x w k g e =
      by_pick (is_mark s at 90 78) _ _ _ e (λ t e. order_inv s at x w k t e)
      (λ _ e. by_pick (is_mark s at 66 68) _ _ _ e (λ t e. bound_inv s at x w k g t e)
      (λ _ e. by_pick (is_mark s at 71 79) _ _ _ e (λ t e. claims_inv s at x w k t e)
      (λ _ e. by_pick (is_mark s at 69 78) _ _ _ e (λ t e. absurd (end_ends s at x w k e)) (λ _ e. nonsense (cc)))))

  pub closed_inv : (s : List ℕ) (at : ℕ) (x : Sofar) → look m s at x ≡ closed → Full x × (drop at s ≡ end_text)
  unfolding look
  closed_inv s at x e =
      by_pick (is_mark s at 90 78) _ _ _ e (λ _ e. absurd (order_goes s at x e))
      (λ _ e. by_pick (is_mark s at 66 68) _ _ _ e (λ _ e. absurd (bound_goes s at x e))
      (λ _ e. by_pick (is_mark s at 71 79) _ _ _ e (λ _ e. absurd (claims_go s at x e))
      (λ _ e. by_pick (is_mark s at 69 78) _ _ _ e (λ t e. end_inv s at x t e) (λ _ e. nonsense (cc)))))

  pub next_read : (s : List ℕ) (at : ℕ) (x : Sofar) (w : Entry) (u : List ℕ) → Good x → Ok x w → drop at s ≡ entry_text w ++ u
      → (k : ℕ) × (look m s at x ≡ next w k) × (drop k s ≡ u) × (at < k)
  next_read s at (whole zs) (order l o) u g k e = order_read s at zs l o u k e
  next_read s at (whole zs) (bound b) u g k e = absurd k
  next_read s at (whole zs) (claims c) u g k e = absurd k
  next_read s at (begun zs z) (order l o) u g k e = absurd k
  next_read s at (begun zs z) (bound b) u g k e = bound_read s at zs z b u g k e
  next_read s at (begun zs z) (claims c) u g k e = claims_read s at zs z c u k e

  unfoldable pub lawful : Lawful (row m)
  lawful = record {
    Good = Good;
    Ok = Ok;
    Full = Full;
    good_start = (omega arith, tt);
    good_put = good_put;
    last_some = omega arith;
    next_inv = next_inv;
    closed_inv = λ s at x g e. closed_inv s at x e;
    next_read = next_read;
    closed_read = λ s at x g f e. end_read s at x f e;
  }
