-- Any two tightest bounds coincide, and so do any two right replies of a zone's step.
-- Assumes nothing.
use mathlib.Core.Path.{◌≡◌, refl, sym, ◌∙◌, ap, subst}
use mathlib.Core.Logic.{inl, inr}
use mathlib.Core.Bool.{Bool, true, false}
use mathlib.Core.Option.{Option, none, some}
use Prim.Native.Nat.{ℕ, ◌+◌, ◌≤◌, ◌<◌}
use native.Mathlib.Omega.{arith}
use native.Mathlib.Decide.{dec_lt}
use lib.IntN.{ℤ, neg_ℤ}
use Rattle.meaning.specs.Numbers.{over, under}
use Rattle.meaning.specs.Model.{Model}
use Rattle.meaning.specs.Machine.State.{State}
use Rattle.meaning.specs.Zones.Variables.{var, variables}
use Rattle.meaning.specs.Zones.Zone.{Zone}
use Rattle.meaning.specs.Zones.Steps.{Step}
use Rattle.meaning.specs.Zones.Reached.{Home, Shown}
use Rattle.meaning.specs.Zones.Tightest.{Tightest, Unbounded, Entry, Reply, RightReply}
use Rattle.meaning.proofs.Numbers.{within_true, over_neg, under_neg, parts_one}

tightest_le : (S : State → Type 0) (i j : ℕ) (c d : ℤ) → Tightest S i j c → Tightest S i j d → over d + under c ≤ over c + under d
tightest_le S i j c d t u =
    let h = within_true (var u.at i) (var u.at j) c (t.bounds u.at u.is) in
    let k = within_true (var u.at j) (var u.at i) (neg_ℤ d) u.reaches in
    omega (arith, over_neg d, under_neg d)

never_both : (S : State → Type 0) (i j : ℕ) (c : ℤ) → Tightest S i j c → Unbounded S i j → ⊥
never_both S i j c t u =
    let w = u.at (over c) in
    let h = within_true (var w.0 i) (var w.0 j) c (t.bounds w.0 w.1) in
    omega (arith, w.2)

-- an entry is one
pub one_entry : (S : State → Type 0) (i j : ℕ) (a b : Option ℤ) → Entry S i j a → Entry S i j b → a ≡ b
one_entry S i j none none h k = refl
one_entry S i j none (some d) h k = absurd (never_both S i j d k h)
one_entry S i j (some c) none h k = absurd (never_both S i j c h k)
one_entry S i j (some c) (some d) h k =
    let x = tightest_le S i j c d h k in
    let y = tightest_le S i j d c k h in
    ap some (parts_one c d (omega arith))

-- an entry speaks of some state
entry_some : (S : State → Type 0) (i j : ℕ) (a : Option ℤ) → Entry S i j a → (s : State) × S s
entry_some S i j none h = let w = h.at 0 in (w.0, w.1)
entry_some S i j (some c) h = (h.at, h.is)

module _ (m : Model) (z : Zone) (st : Step) where
  -- a reply that is not empty has a state to show
  shows : (r : Reply) → RightReply m z st r → r.empty ≡ false → (s : State) × Shown m z st s
  shows r h e = entry_some (Shown m z st) 0 0 (r.entry 0 0) (h.tightest e 0 0 (omega arith) (omega arith))

  same_empty : (r r' : Reply) → RightReply m z st r → RightReply m z st r' → r.empty ≡ r'.empty
  same_empty r r' h k = go r.empty refl r'.empty refl
    where
      go : (a : Bool) → r.empty ≡ a → (b : Bool) → r'.empty ≡ b → a ≡ b
      go true e true f = refl
      go true e false f = let w = shows r' k f in absurd (h.none_shown e w.0 w.1)
      go false e true f = let w = shows r h e in absurd (k.none_shown f w.0 w.1)
      go false e false f = refl

  same_entry : (r r' : Reply) → RightReply m z st r → RightReply m z st r' → r.home ≡ r'.home → (i j : ℕ) → r.entry i j ≡ r'.entry i j
  same_entry r r' h k q i j = go r.empty refl r'.empty refl
    where
      n : ℕ
      n = variables m r.home.order

      len : n ≡ variables m r'.home.order
      len = ap (λ (x : Home). variables m x.order) q

      inner : r.empty ≡ false → r'.empty ≡ false → Dec (i < n) → Dec (j < n) → r.entry i j ≡ r'.entry i j
      inner e f (yes a) (yes b) =
          one_entry (Shown m z st) i j (r.entry i j) (r'.entry i j) (h.tightest e i j a b)
          (k.tightest f i j (subst (λ (x : ℕ). i < x) len a) (subst (λ (x : ℕ). j < x) len b))
      inner e f (yes a) (no b) =
          h.beyond e i j (inr (omega arith)) ∙ sym (k.beyond f i j (inr (subst (λ (x : ℕ). x ≤ j) len (omega arith))))
      inner e f (no a) b =
          h.beyond e i j (inl (omega arith)) ∙ sym (k.beyond f i j (inl (subst (λ (x : ℕ). x ≤ i) len (omega arith))))

      go : (a : Bool) → r.empty ≡ a → (b : Bool) → r'.empty ≡ b → r.entry i j ≡ r'.entry i j
      go true e true f = h.zeros e i j ∙ sym (k.zeros f i j)
      go true e false f = absurd (let w = shows r' k f in h.none_shown e w.0 w.1)
      go false e true f = absurd (let w = shows r h e in k.none_shown f w.0 w.1)
      go false e false f = inner e f (dec_lt i n) (dec_lt j n)

  -- any two right replies of a zone's step coincide
  pub one_reply : (r r' : Reply) → RightReply m z st r → RightReply m z st r' → r ≡ r'
  one_reply r r' h k =
      let q : r.home ≡ r'.home = h.home ∙ sym k.home in
      let e = same_empty r r' h k in
      let f = same_entry r r' h k q in
      (λ x. record { home = q x; empty = e x; entry = λ i j. f i j x })
