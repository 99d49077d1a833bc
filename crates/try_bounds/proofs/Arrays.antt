-- Arrays that stand in the source: what holds of each of the first indices holds of all of them; and the maps that the program uses, as instances of tick, finish, insertion and reset.
-- Assumes nothing.
use mathlib.Core.Path.{◌≡◌, refl, sym, ◌∙◌, ap, subst}
use mathlib.Core.Bool.{Bool, true, false}
use mathlib.Core.List.{List, [], ◌∷◌}
use Prim.Native.Nat.{ℕ, zero, suc, ◌+◌, ◌-◌, ◌*◌, ◌<◌, ◌≤◌}
use native.Mathlib.Omega.{arith}
use native.Mathlib.Decide.{dec_lt, ℕ_discrete}
use lib.IntN.{ℤ, pos, negsuc}
use lib.ListN.{length, get_or, set, replicate, length-set}
use lib.Seq.{get_or-set_same, get_or-set_other}
use mir.Syntax.{w32}
use mir.Val.{SFits}
use Rattle.bounds.specs.Matrix.{ent, at, Meets, Sol, Size, Closed}
use Rattle.bounds.specs.Range.{Ready}
use Rattle.bounds.specs.Images.{var, Map, Maps}
use Rattle.bounds.specs.Results.{Widest, Exact, Remapped}
use Rattle.bounds.specs.Claims.{bias, Cells}
use Rattle.bounds.proofs.Signed.{fits_make}
use Rattle.bounds.proofs.Store.{zeros_z, true_false, false_true}
use Rattle.bounds.proofs.Ranges.{ready_top, ready_tighten}
use Rattle.bounds.proofs.Mapping.{ready_maps, ready_remap}
use Rattle.bounds.proofs.Instances.{TickMap, tick_map, FinishMap, finish_map, InsertMap, insert_map, ResetMap, reset_map}
use Rattle.try_bounds.specs.Lists.{bound_at, IsBound, Listed, MadeTo, TwoJobs}
use Rattle.try_bounds.specs.declared.Bound.{Bound}

abbrev pub All : ℕ → (ℕ → Type 0) → Type 0
All zero P = 0 ≤ 0
All (suc k) P = P 0 × All k (λ a. P (suc a))

pub each : (k : ℕ) (P : ℕ → Type 0) → All k P → (a : ℕ) → a < k → P a
each zero P w a h = absurd (omega arith)
each (suc k) P w zero h = w.0
each (suc k) P w (suc a) h = each k (λ b. P (suc b)) w.1 a (omega arith)

pub two : (P : ℕ → Type 0) → P 0 → P 1 → (a : ℕ) → a < 2 → P a
two P p₀ p₁ = each 2 P (p₀, (p₁, omega arith))

pub four : (P : ℕ → Type 0) → P 0 → P 1 → P 2 → P 3 → (a : ℕ) → a < 4 → P a
four P p₀ p₁ p₂ p₃ = each 4 P (p₀, (p₁, (p₂, (p₃, omega arith))))

pub six : (P : ℕ → Type 0) → P 0 → P 1 → P 2 → P 3 → P 4 → P 5 → (a : ℕ) → a < 6 → P a
six P p₀ p₁ p₂ p₃ p₄ p₅ = each 6 P (p₀, (p₁, (p₂, (p₃, (p₄, (p₅, omega arith))))))

pub limit_fits : {z : ℤ} → Size z 640002 → SFits w32 z
limit_fits e = fits_make (omega arith) (omega arith)

-- a list of bounds, from what holds of each
abbrev pub Bounds : ℕ → List Bound → Type 0
Bounds n [] = 0 ≤ 0
Bounds n (b ∷ bs) = IsBound n b × Bounds n bs

bounds_at : (n : ℕ) (list : List Bound) → Bounds n list → (t : ℕ) → t < length list → IsBound n (bound_at list t)
bounds_at n [] w t h = absurd (omega arith)
bounds_at n (b ∷ bs) w zero h = w.0
bounds_at n (b ∷ bs) w (suc t) h = bounds_at n bs w.1 t (omega arith)

pub listed : (n : ℕ) (list : List Bound) → 0 < n → n ≤ 17 → Bounds n list → Listed n list
listed n list h₀ h₁ w = record { some = h₀; few = h₁; each = bounds_at n list w }

-- no bound yet
pub made_first : (n : ℕ) (list : List Bound) (m : List ℤ) → 0 < n → n ≤ 17 → Widest m → MadeTo n list 0 m
made_first n list m h₀ h₁ w = record { ready = ready_top m n 640002 w h₀ h₁; meets = λ x s t h. absurd (omega arith) }

-- one bound more
pub made_more : (n t : ℕ) (list : List Bound) (m r : List ℤ) → n ≤ 17 → IsBound n (bound_at list t)
    → MadeTo n list t m → let b = bound_at list t in Exact m n b.i b.j b.c r → MadeTo n list (t + 1) r
made_more n t list m r hn z M x = record {
  ready = let b = bound_at list t in ready_tighten m n b.i b.j b.c r n 640002 z.row z.column M.ready (omega arith) z.size x;
  meets = λ y s q h. let w = x.sound y s in go y w.0 w.1 q h (dec_lt q t);
}
  where
    go : (y : ℕ → ℕ) → Sol (at m) n y → (let b = bound_at list t in Meets b.i b.j b.c y) → (q : ℕ) → q < t + 1 → Dec (q < t) → (let b = bound_at list q in Meets b.i b.j b.c y)
    go y s w q h (yes l) = M.meets y s q l
    go y s w q h (no l) = let e : t ≡ q = omega arith in subst (λ (v : ℕ). let b = bound_at list v in Meets b.i b.j b.c y) e w

-- what `remap` asks of a map, and what it gives
module _ (m : List ℤ) (n₀ n : ℕ) (p : List ℕ) (off : List ℤ) (R : Ready m n₀ n₀ 640002) (h : n₀ ≤ 17) (g : n ≤ 17) (P : Map (at m) n₀ n (var p) (ent off)) (Z : (a : ℕ) → a < n → Size (ent off a) 640002) where
  pub moves : Maps m n p off
  moves = ready_maps m n₀ n n₀ 640002 p off R h (omega arith) P Z

  pub moved : (r : List ℤ) → ((k : ℕ) → Closed (at m) k → Map (at m) k n (var p) (ent off) → Remapped m k n p off r) → Ready r n (n + n₀) 640002
  moved r w = ready_remap m n₀ n p off r n₀ 640002 R (omega arith) P Z (w n₀ R.closed P)

-- ---- tick
module _ (p : List ℕ) (off : List ℤ) (e : (a : ℕ) → a < 6 → var p a ≡ a) (z : ent off 0 ≡ pos 0) (o : (a : ℕ) → a < 6 → 0 < a → ent off a ≡ pos 1) where
  tick_is : TickMap 6 (var p) (ent off)
  tick_is = record { same = e; zero = z; one = λ a l h. o a h l }

  pub tick_moves : (m : List ℤ) → Ready m 6 6 640002 → Map (at m) 6 6 (var p) (ent off)
  tick_moves m R = tick_map (at m) 6 (var p) (ent off) R.closed tick_is

  pub tick_sizes : (a : ℕ) → a < 6 → Size (ent off a) 640002
  tick_sizes a h = go (ℕ_discrete a 0)
    where
      go : Dec (a ≡ 0) → Size (ent off a) 640002
      go (yes q) = subst (λ (v : ℤ). Size v 640002) (sym (ap (ent off) q ∙ z)) (omega arith)
      go (no q) = subst (λ (v : ℤ). Size v 640002) (sym (o a h (omega arith))) (omega arith)

-- ---- finish
abbrev pub finish_vars : List ℕ
finish_vars = 0 ∷ 1 ∷ 4 ∷ 5 ∷ replicate 13 0

abbrev pub finish_offsets : List ℤ
finish_offsets = pos 0 ∷ pos 1 ∷ negsuc 0 ∷ pos 1 ∷ replicate 13 (pos 0)

finish_is : FinishMap 1 1 2 (var finish_vars) (ent finish_offsets)
finish_is = record {
  low = λ a h. two (λ b. var finish_vars b ≡ b) refl refl a (omega arith);
  high = λ a l h. four (λ b. 1 < b → var finish_vars b ≡ b + 2) (λ k. absurd (omega arith)) (λ k. absurd (omega arith)) (λ k. refl) (λ k. refl) a (omega arith) l;
  zero = refl;
  clocks = λ a l h. let e : 1 ≡ a = omega arith in subst (λ (b : ℕ). ent finish_offsets b ≡ pos 1) e refl;
  sums = λ k l h. let e : 2 ≡ 1 + 2 * k - 1 = omega arith in subst (λ (b : ℕ). ent finish_offsets b ≡ negsuc 0) e refl;
  ages = λ k l h. let e : 3 ≡ 1 + 2 * k = omega arith in subst (λ (b : ℕ). ent finish_offsets b ≡ pos 1) e refl;
}

pub finish_moves : (m : List ℤ) → TwoJobs m → Map (at m) 6 4 (var finish_vars) (ent finish_offsets)
finish_moves m J = finish_map (at m) 1 1 2 (var finish_vars) (ent finish_offsets) J.ready.closed finish_is J.reaches
    (λ x s k l h. let e : 4 ≡ 1 + 2 * (k + 1) - 1 = omega arith in subst (λ (b : ℕ). x 2 ≤ x b) e (J.rising x s))

pub finish_sizes : (a : ℕ) → a < 4 → Size (ent finish_offsets a) 640002
finish_sizes = four (λ a. Size (ent finish_offsets a) 640002) (omega arith) (omega arith) (omega arith) (omega arith)

-- ---- offsets that are all 0
abbrev pub still_offsets : List ℤ
still_offsets = replicate 17 (pos 0)

pub still_at : (a : ℕ) → a < 17 → ent still_offsets a ≡ pos 0
still_at a h = zeros_z 17 a

pub still_sizes : (n : ℕ) → n ≤ 17 → (a : ℕ) → a < n → Size (ent still_offsets a) 640002
still_sizes n h a l = subst (λ (v : ℤ). Size v 640002) (sym (zeros_z 17 a)) (omega arith)

-- ---- insertion
abbrev pub insert_vars : List ℕ
insert_vars = 0 ∷ 1 ∷ 2 ∷ 3 ∷ 2 ∷ 0 ∷ 4 ∷ 5 ∷ replicate 9 0

insert_is : InsertMap 1 2 2 (var insert_vars) (ent still_offsets)
insert_is = record {
  same = four (λ b. var insert_vars b ≡ b) refl refl refl refl;
  head = λ e. absurd (omega arith);
  ahead = λ h. refl;
  age = refl;
  later = λ a l h. let e : a ≡ 6 + (a - 6) = omega arith in subst (λ (b : ℕ). var insert_vars b ≡ b - 2) (sym e) (two (λ b. var insert_vars (6 + b) ≡ 6 + b - 2) refl refl (a - 6) (omega arith));
  still = λ a h. zeros_z 17 a;
}

pub insert_moves : (m : List ℤ) → Ready m 6 6 640002 → Map (at m) 6 8 (var insert_vars) (ent still_offsets)
insert_moves m R = insert_map (at m) 1 2 2 (var insert_vars) (ent still_offsets) (omega arith) (omega arith) R.closed insert_is

-- ---- reset
abbrev pub reset_vars : List ℕ
reset_vars = 0 ∷ 0 ∷ 2 ∷ 3 ∷ 4 ∷ 5 ∷ replicate 11 0

abbrev named : ℕ → Bool
named zero = false
named (suc zero) = true
named (suc (suc a)) = false

reset_is : ResetMap 6 named (var reset_vars) (ent still_offsets)
reset_is = record {
  back = six (λ b. named b ≡ true → var reset_vars b ≡ 0) (λ e. refl) (λ e. refl) (λ e. absurd (false_true e)) (λ e. absurd (false_true e)) (λ e. absurd (false_true e)) (λ e. absurd (false_true e));
  same = six (λ b. named b ≡ false → var reset_vars b ≡ b) (λ e. refl) (λ e. absurd (true_false e)) (λ e. refl) (λ e. refl) (λ e. refl) (λ e. refl);
  still = λ a h. zeros_z 17 a;
}

pub reset_moves : (m : List ℤ) → Ready m 6 6 640002 → Map (at m) 6 6 (var reset_vars) (ent still_offsets)
reset_moves m R = reset_map (at m) 6 named (var reset_vars) (ent still_offsets) R.closed reset_is

-- ---- claims
pub cells_set : (claims : List ℕ) (q v : ℕ) → v ≤ 2 * bias - 1 → Cells claims 11 → Cells (set claims (11 + q) v) 11
cells_set claims q v h C = record { long = let l = C.long in omega (arith, length-set claims (11 + q) v); small = λ k l. go k l (ℕ_discrete (11 + k) (11 + q)) (dec_lt (11 + q) (length claims)) }
  where
    go : (k : ℕ) → k < 289 → Dec (11 + k ≡ 11 + q) → Dec (11 + q < length claims) → get_or (set claims (11 + q) v) (11 + k) 0 ≤ 2 * bias - 1
    go k l (yes e) (yes u) = subst (λ (b : ℕ). get_or (set claims (11 + q) v) b 0 ≤ 2 * bias - 1) (sym e) (omega (arith, get_or-set_same claims (11 + q) v 0 u))
    go k l (yes e) (no u) = absurd (omega (arith, C.long))
    go k l (no e) u = omega (arith, get_or-set_other claims (11 + q) (11 + k) v 0 e, C.small k l)
