-- The contract of a zone's step determines its reply.
-- Assumes nothing.
use mathlib.Core.Path.{◌≡◌, refl, sym, ◌∙◌, ap, subst}
use mathlib.Core.Bool.{Bool, true, false, not}
use mathlib.Core.List.{List}
use mathlib.Core.Option.{none, some}
use Prim.Native.Nat.{ℕ, ◌+◌, ◌*◌, ◌/◌, ◌%◌, ◌<◌}
use native.Mathlib.Omega.{arith}
use lib.Dec.{eqb}
use lib.IntN.{ℤ, pos, negsuc}
use lib.ListN.{length, get_or}
use lib.Seq.{ext_get_or}
use borrow.Author.Tests.{eqb-true}
use Rattle.meaning.specs.Model.{Model}
use Rattle.meaning.specs.Zones.Zone as Z
use Rattle.meaning.specs.Zones.Steps as S
use Rattle.meaning.specs.Zones.Tightest.{Reply}
use Rattle.meaning.specs.Text.Choice.{pick}
use Rattle.meaning.proofs.Zones.Tightest.{one_reply}
use Rattle.std.specs.Prelude.{Result, Ok, IfOk}
use Rattle.refusals.specs.declared.Reason.{Reason}
use Rattle.zone.specs.declared.Zone.{Zone}
use Rattle.zone_bounds.specs.Entries.{is_bound}
use Rattle.zone_list.specs.declared.form.Step.{Step}
use Rattle.step_reach.specs.declared.reply.StepReply.{StepReply}
use Rattle.step_reach.specs.Replies.{as_entry, reply_of, RightStep, Replied, bad, unlisted, right}
use Rattle.step_reach.proofs.ReplyLaws.{entry_inside}
use Rattle.step_reach.proofs.PlanUnique.{home_once}

-- an array by value has its length
pub record Long (r : StepReply) : Type 0 where
  pub tasks : length r.home.tasks ≡ 6
  pub bounds : length r.bounds ≡ 289

-- "no bound" is one value
one_none : (c d : ℤ) → is_bound c ≡ false → is_bound d ≡ false → c ≡ d
one_none (pos a) (pos b) e f = ap pos (top a e ∙ sym (top b f))
  where
    top : (x : ℕ) → not (eqb x 1000000000) ≡ false → x ≡ 1000000000
    top x e = eqb-true x 1000000000 (go (eqb x 1000000000) e)
      where
        go : (b : Bool) → not b ≡ false → b ≡ true
        go true e = refl
        go false e = sym e
one_none (pos a) (negsuc b) e f = absurd (let z : ◌≡◌ {A = ℕ} 0 1 = cc in omega arith)
one_none (negsuc a) d e f = absurd (let z : ◌≡◌ {A = ℕ} 0 1 = cc in omega arith)

same_bound : (c d : ℤ) → as_entry c ≡ as_entry d → c ≡ d
same_bound c d e = go (is_bound c) refl (is_bound d) refl e
  where
    go : (a : Bool) → is_bound c ≡ a → (b : Bool) → is_bound d ≡ b → pick a (some c) none ≡ pick b (some d) none → c ≡ d
    go true p true q e = cc
    go true p false q e = absurd (let z : ◌≡◌ {A = ℕ} 0 1 = cc in omega arith)
    go false p true q e = absurd (let z : ◌≡◌ {A = ℕ} 0 1 = cc in omega arith)
    go false p false q e = one_none c d p q

module _ (m : Model) (z : Z.Zone) (st : S.Step) (r s : StepReply) (l : Long r) (k : Long s) where
  right_one : RightStep m z st r → RightStep m z st s → r ≡ s
  right_one a b =
      let q = one_reply m z st (reply_of r) (reply_of s) a.reply b.reply in
      let home = home_once r.home s.home l.tasks k.tasks a.few b.few a.unused b.unused (ap (λ (x : Reply). x.home) q) in
      let empty = ap (λ (x : Reply). x.empty) q in
      let bounds = ext_get_or (pos 0) r.bounds s.bounds (l.bounds ∙ sym k.bounds) (λ i h. entry q i (omega (arith, l.bounds))) in
      (λ x. record { empty = empty x; home = home x; bounds = bounds x })
    where
      entry : reply_of r ≡ reply_of s → (i : ℕ) → i < 289 → get_or r.bounds i (pos 0) ≡ get_or s.bounds i (pos 0)
      entry q i h =
          let e : i / 17 * 17 + i % 17 ≡ i = omega arith in
          let x = ap (λ (y : Reply). y.entry (i / 17) (i % 17)) q in
          subst (λ (n : ℕ). get_or r.bounds n (pos 0) ≡ get_or s.bounds n (pos 0)) e
          (same_bound (get_or r.bounds (i / 17 * 17 + i % 17) (pos 0)) (get_or s.bounds (i / 17 * 17 + i % 17) (pos 0))
          (sym (entry_inside r.bounds (i / 17) (i % 17) (omega arith) (omega arith)) ∙ x ∙ entry_inside s.bounds (i / 17) (i % 17) (omega arith) (omega arith)))

module _ (t : List ℕ) (z : Zone) (step : Step) (r s : Result StepReply Reason) (l : IfOk r Long) (k : IfOk s Long) where
  -- any two replies that the contract allows are one
  pub step_once : Replied t z step r → Replied t z step s → r ≡ s
  step_once (bad n e) (bad m f) = e ∙ sym f
  step_once (bad n e) (unlisted g v m f) = absurd (n (g, v))
  step_once (bad n e) (right g v i b f w) = absurd (n (g, v))
  step_once (unlisted g v n e) (bad m f) = absurd (m (g, v))
  step_once (unlisted g v n e) (unlisted g' v' m f) = e ∙ sym f
  step_once (unlisted g v n e) (right g' v' i b f w) = absurd (n i)
  step_once (right g v i a e w) (bad m f) = absurd (m (g, v))
  step_once (right g v i a e w) (unlisted g' v' m f) = absurd (m i)
  step_once (right g v i a e w) (right g' v' j b f u) = e ∙ ap Ok (right_one _ _ _ a b (subst (λ (x : Result StepReply Reason). IfOk x Long) e l) (subst (λ (x : Result StepReply Reason). IfOk x Long) f k) w u) ∙ sym f
