-- Laws of one choice of positions: looked for position by position, and tested so.
-- Assumes nothing.
use mathlib.Core.Path.{◌≡◌, refl, sym, ◌∙◌, ap, subst}
use mathlib.Core.List.{List, [], ◌∷◌, ◌++◌, append_assoc, append-nil, map, Memᴰ}
use mathlib.Core.Option.{some}
use Prim.Native.Nat.{ℕ, ◌+◌, ◌-◌, ◌≤◌, ◌<◌}
use native.Mathlib.Omega.{arith}
use native.Mathlib.Numerals.{add-one}
use lib.ListN.{length, length-drop, drop, drop_of_length-le, take, set, get_or, get_elem?}
use lib.Seq.{take-suc-set, take-length}
use Rattle.bounds.proofs.Store.{stored_n, beyond_n}
use Rattle.meaning.specs.Lists.{insert_at}
use Rattle.meaning.specs.Model.{Model}
use Rattle.meaning.specs.Machine.Place.{behind}
use Rattle.meaning.specs.Zones.Steps.{choices}
use Rattle.meaning.proofs.Lists.{map_append}
use Rattle.meaning.proofs.Hooks.{behind_le}
use Rattle.meaning.proofs.Zones.Choices.{choices_before, before_first, before_turn, before_all, choice_at_lem, choice_in}
use Rattle.home.proofs.Walks.{rest_at}
use Rattle.zone_list.specs.declared.choice.Ahead.{Ahead}
use Rattle.zone_list.specs.Steps.{aheads}
use Rattle.zone_list.specs.Chosen.{AheadIs, Numbered, ChoiceIs}

-- what stands behind k others, as a range takes it
pub rest_whole : (ts : List ℕ) (k : ℕ) → take (length ts - k) (drop k ts) ≡ drop k ts
rest_whole ts k = let n : length ts - k ≡ length (drop k ts) = sym (length-drop k ts) in rw n (take-length (drop k ts))

-- ---- one position

module _ (m : Model) (t : ℕ) (ts o : List ℕ) where
  -- the choice with n before it has p ahead of the first new job, or more; `left` of those that do are before it
  pub record Seeking (n p left : ℕ) : Type 0 where
    pub low : behind m t o ≤ p
    pub high : p ≤ length o
    pub same : n ≡ choices_before m t ts o p + left
    pub inside : n < length (choices m (t ∷ ts) o)

  pub seek_start : (n p : ℕ) → p ≡ behind m t o → n < length (choices m (t ∷ ts) o) → Seeking n p n
  seek_start n p e h =
      let z = ap (choices_before m t ts o) e ∙ before_first m t ts o in
      record { low = omega arith; high = omega (arith, behind_le m t o); same = omega arith; inside = h }

  module _ (n p left : ℕ) (w : Seeking n p left) where
    pub seek_turn : p < length o → (c : ℕ) → c ≡ length (choices m ts (insert_at p t o)) → c ≤ left → Seeking n (p + 1) (left - c)
    seek_turn h c e l =
        let b = before_turn m t ts o p w.low in
        record { low = omega (arith, w.low); high = omega arith; same = omega (arith, w.same); inside = w.inside }

    pub seek_here : (c : ℕ) → c ≡ length (choices m ts (insert_at p t o)) → left < c → AheadIs m t ts o n (record { ahead = p; rest = left })
    seek_here c e l = record {
      low = w.low;
      high = w.high;
      inside = omega arith;
      is = λ ps q. ap (get_elem? (choices m (t ∷ ts) o)) w.same ∙ choice_at_lem m t ts o p left ps w.low w.high q;
    }

    -- at the last position there is no other
    pub seek_end : length o ≤ p → AheadIs m t ts o n (record { ahead = p; rest = left })
    seek_end h =
        let e : p + 1 ≡ length o + 1 = omega (arith, w.high) in
        let a = ap (choices_before m t ts o) e ∙ before_all m t ts o in
        seek_here (length (choices m ts (insert_at p t o))) refl (omega (arith, before_turn m t ts o p w.low, w.same, w.inside))

-- ---- one position after the other

-- one cell more
aheads_more : (r : List ℕ) (k p : ℕ) → k < length r → aheads (k + 1) (set r k (p + 1)) ≡ aheads k r ++ (p ∷ [])
aheads_more r k p h =
    let e : p + 1 - 1 ≡ p = omega arith in
    ap (λ (i : ℕ). aheads i (set r k (p + 1))) (add-one k)
    ∙ ap (map (λ (x : ℕ). x - 1)) (take-suc-set r k (p + 1) h)
    ∙ map_append (λ (x : ℕ). x - 1) (take k r) ((p + 1) ∷ [])
    ∙ ap (λ (x : ℕ). aheads k r ++ (x ∷ [])) e

module _ (m : Model) (ts o : List ℕ) (n : ℕ) where
  -- the first k positions of the choice with n before it are found; the queue is then q, and `left` of the choices that begin so are before it
  pub record Choosing (k : ℕ) (q : List ℕ) (left : ℕ) (r : List ℕ) : Type 0 where
    pub form : Numbered k r
    pub inside : left < length (choices m (drop k ts) q)
    pub is : (ps : List ℕ) → get_elem? (choices m (drop k ts) q) left ≡ some ps → get_elem? (choices m ts o) n ≡ some (aheads k r ++ ps)

  pub choosing_start : (r : List ℕ) → ((i : ℕ) → get_or r i 0 ≡ 0) → n < length (choices m ts o) → Choosing 0 o n r
  choosing_start r z h = record { form = record { numbered = λ i l. absurd (omega arith); unused = λ i l. z i }; inside = h; is = λ ps e. e }

  module _ (k : ℕ) (q : List ℕ) (left : ℕ) (r : List ℕ) (w : Choosing k q left r) where
    pub choosing_turn : (t : ℕ) (f : Ahead) → k < length ts → k < length r → t ≡ get_or ts k 0 → AheadIs m t (drop (k + 1) ts) q left f
        → Choosing (k + 1) (insert_at f.ahead t q) f.rest (set r k (f.ahead + 1))
    choosing_turn t f h l e a = record {
      form = record {
        numbered = stored_n (λ i z. 1 ≤ z) r k (f.ahead + 1) l w.form.numbered (omega arith);
        unused = beyond_n r k (f.ahead + 1) w.form.unused;
      };
      inside = a.inside;
      is = λ ps g.
          w.is (f.ahead ∷ ps) (ap (λ (us : List ℕ). get_elem? (choices m us q) left) (rest_at ts k t h e) ∙ a.is ps g)
          ∙ ap some (sym (ap (λ (us : List ℕ). us ++ ps) (aheads_more r k f.ahead l) ∙ append_assoc (aheads k r) (f.ahead ∷ []) ps));
    }

    pub choosing_end : k ≡ length ts → ChoiceIs m ts o n r
    choosing_end e =
        let l : length ts ≤ k = omega arith in
        let d = drop_of_length-le ts l in
        let one = ap (λ (us : List ℕ). length (choices m us q)) d in
        let z : left ≡ 0 = omega (arith, w.inside) in
        let g : get_elem? (choices m (drop k ts) q) left ≡ some [] = rw (d, z) in
        record {
          form = subst (λ (i : ℕ). Numbered i r) e w.form;
          is = w.is [] g ∙ ap some (append-nil (aheads k r) ∙ ap (λ (i : ℕ). aheads i r) e);
        }

-- ---- tested

module _ (m : Model) (ts o ps : List ℕ) where
  -- the first k may stand so; the queue is then q
  pub record Testing (k : ℕ) (q : List ℕ) : Type 0 where
    pub there : Memᴰ ps (choices m ts o) → Memᴰ (drop k ps) (choices m (drop k ts) q)
    pub back : Memᴰ (drop k ps) (choices m (drop k ts) q) → Memᴰ ps (choices m ts o)

  pub testing_start : Testing 0 o
  testing_start = record { there = λ h. h; back = λ h. h }

  module _ (k : ℕ) (q : List ℕ) (w : Testing k q) where
    module _ (t p : ℕ) (h : k < length ts) (l : k < length ps) (e : t ≡ get_or ts k 0) (f : p ≡ get_or ps k 0) where
      next_is : Memᴰ (drop k ps) (choices m (drop k ts) q) ≡ Memᴰ (p ∷ drop (k + 1) ps) (choices m (t ∷ drop (k + 1) ts) q)
      next_is = rw (rest_at ts k t h e, rest_at ps k p l f)

      pub testing_turn : behind m t q ≤ p → p ≤ length q → Testing (k + 1) (insert_at p t q)
      testing_turn a b =
          let c = choice_in m t (drop (k + 1) ts) q p (drop (k + 1) ps) in
          record {
            there = λ g. (c.0 (subst (λ (X : Type 0). X) next_is (w.there g))).2;
            back = λ g. w.back (subst (λ (X : Type 0). X) (sym next_is) (c.1 (a, b, g)));
          }

      pub testing_not : ((behind m t q ≤ p) × (p ≤ length q) → ⊥) → Memᴰ ps (choices m ts o) → ⊥
      testing_not x g =
          let c = (choice_in m t (drop (k + 1) ts) q p (drop (k + 1) ps)).0 (subst (λ (X : Type 0). X) next_is (w.there g)) in
          x (c.0, c.1)

    pub testing_end : length ts ≤ k → length ps ≤ k → Memᴰ ps (choices m ts o)
    testing_end a b = w.back (rw (drop_of_length-le ts a, drop_of_length-le ps b) (Memᴰ.head refl))
