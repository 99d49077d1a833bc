-- Obligation 1: what is found of the start and zone 1, and what it says.
-- Assumes nothing.
use mathlib.Core.Path.{◌≡◌, refl, ◌∙◌, ap, subst}
use mathlib.Core.List.{List, [], ◌∷◌, ◌++◌, map}
use mathlib.Core.Option.{some}
use Prim.Native.Nat.{ℕ, zero, suc, ◌+◌, ◌*◌, ◌≤◌, ◌<◌}
use native.Mathlib.Omega.{arith}
use lib.IntN.{ℤ, pos}
use lib.ListN.{length, get_or, take, replicate, length-map}
use Rattle.meaning.specs.Lists.{nth1, insert_at}
use Rattle.meaning.specs.Model.{Model, released_at_start}
use Rattle.meaning.specs.Machine.State as M
use Rattle.meaning.specs.Machine.State.{order}
use Rattle.meaning.specs.Machine.Place.{place_of}
use Rattle.meaning.specs.Machine.Release.{new_job, put, put_all}
use Rattle.meaning.specs.Machine.Run.{start}
use Rattle.meaning.specs.Zones.Variables.{queue_vars, var, variables}
use Rattle.meaning.specs.Zones.Reached.{Home, home_of, home_of_zone}
use Rattle.meaning.specs.Check.Obligations.{starts}
use Rattle.meaning.specs.Check.Faults.{BreaksZone}
use Rattle.meaning.specs.Text.RightModel.{Each, RightModel}
use Rattle.meaning.specs.Text.ProposalReader.{Given}
use Rattle.meaning.specs.Text.ProposalTable.{zone_in, decode}
use Rattle.meaning.proofs.Check.Start.{start_elsewhere, start_breaks, start_holds}
use Rattle.meaning.proofs.Exact.Bounds.{ranged_mem}
use Rattle.meaning.specs.Numbers.{over, under}
use Rattle.meaning.proofs.Hooks.{start_few}
use Rattle.meaning.proofs.Machine.Proper.{right_formed}
use Rattle.meaning.proofs.Zones.Home.{mk_home}
use Rattle.std.proofs.Common.{None}
use Rattle.bounds.specs.Matrix.{ent, at, Entries, Sol, Closed}
use Rattle.bounds.specs.Images.{Map, Maps}
use Rattle.bounds.specs.Images as I
use Rattle.bounds.specs.Claims as C
use Rattle.bounds.specs.Results.{Met, FirstAt, FirstBroken}
use Rattle.bounds.proofs.Store.{zeros, zeros_z}
use Rattle.machine.specs.declared.State.{State}
use Rattle.machine.specs.Stands.{task_of, cells_of, held}
use Rattle.machine.proofs.QueueLaws.{order_is, queue_cells}
use Rattle.machine.proofs.ReleaseLaws.{put_all_length}
use Rattle.zone_table.specs.Sound.{zones_in}
use Rattle.zone_table.proofs.ZoneParts.{given_is_sound, zone_is}
use Rattle.verdict.specs.declared.answer.Fault.TheVariants.{Elsewhere}
use Rattle.verdict.specs.declared.answer.Fault.TheVariants as W
use Rattle.verdict.specs.Judged.{Judged}
use Rattle.verdict.proofs.FoundLaws.{found, judged_fails}
use Rattle.verdict.proofs.ClaimLaws.{zone_ranged, broken_there, there_broken}

-- ---- the start

-- nothing is done yet, and no time has passed
abbrev New : List M.Job → Type 0
New q = Each (λ (j : M.Job). (j.done ≡ 0) × (j.age ≡ 0)) q

new_in : (k t : ℕ) (q : List M.Job) → New q → New (insert_at k (new_job t) q)
new_in zero t q h = ((refl, refl), h)
new_in (suc k) t [] h = ((refl, refl), tt)
new_in (suc k) t (j ∷ q) h = (h.0, new_in k t q h.1)

new_all : (m : Model) (ts : List ℕ) (q : List M.Job) → New q → New (put_all m ts q)
new_all m [] q h = h
new_all m (t ∷ ts) q h = new_all m ts (put m t q) (new_in (place_of m t q) t q h)

new_zero : (q : List M.Job) → New q → (a : ℕ) → a ≡ 0 → (i : ℕ) → get_or (queue_vars a q) i 0 ≡ 0
new_zero [] h a e i = refl
new_zero (j ∷ q) h a e zero = omega (arith, h.0.0)
new_zero (j ∷ q) h a e (suc zero) = h.0.1
new_zero (j ∷ q) h a e (suc (suc i)) = new_zero q h.1 (a + j.done) (omega (arith, h.0.0)) i

zeros_at : (n k : ℕ) (l : List ℕ) → ((i : ℕ) → get_or l i 0 ≡ 0) → get_or (replicate n 0 ++ l) k 0 ≡ 0
zeros_at zero k l h = h k
zeros_at (suc n) zero l h = refl
zeros_at (suc n) (suc k) l h = zeros_at n k l h

-- all its variables are 0, whatever is released
pub start_zero : (m : Model) (i : ℕ) → var (start m) i ≡ 0
start_zero m zero = refl
start_zero m (suc k) = zeros_at m.clocks k (queue_vars 0 (start m).queue) (new_zero (start m).queue (new_all m (released_at_start m) [] tt) 0 refl)

-- its queue has room in a state
start_short : (m : Model) → length (start m).queue ≤ 6
start_short m = omega (arith, put_all_length m (released_at_start m) [], start_few m)

-- its location and queue order, from the state that stands for it
module _ (m : Model) (s : State) (e : s ≡ held (start m)) where
  pub start_count : s.count ≡ length (start m).queue
  start_count = ap (λ (x : State). x.count) e

  pub start_small : s.count ≤ 6
  start_small = omega (arith, start_count, start_short m)

  pub start_home : (ts : List ℕ) → ts ≡ map task_of s.jobs → mk_home s.location (take s.count ts) ≡ home_of (start m)
  start_home ts f =
      ap (λ (o : List ℕ). mk_home s.location (take s.count o)) f
      ∙ ap (λ (x : State). mk_home x.location (take x.count (map task_of x.jobs))) e
      ∙ ap (mk_home 1) (order_is (cells_of (start m).queue) (length (start m).queue) ∙ ap order (queue_cells (start m).queue (start_short m)))

  -- its variables
  pub start_many : (n : ℕ) → n ≡ suc (m.clocks + (s.count + s.count)) → n ≡ variables m (home_of (start m)).order
  start_many n f = omega (arith, start_count, length-map (start m).queue (λ (j : M.Job). j.task))

-- ---- the matrix of the start: every variable is 0

pub zeros_closed : Closed (at (replicate 289 (pos 0))) 17
zeros_closed = record {
  some = omega arith;
  diag = λ a h. rw (zeros_z 289 (a * 17 + a)) refl;
  tri = λ a k b ha hk hb f g. rw (zeros_z 289 (a * 17 + b), zeros_z 289 (a * 17 + k), zeros_z 289 (k * 17 + b)) (omega arith, omega arith);
  row = λ b h. rw (zeros_z 289 (0 * 17 + b)) (omega arith);
}

pub zeros_entries : Entries (replicate 289 (pos 0))
zeros_entries k h = rw (zeros_z 289 k) (record { most = omega arith; high = λ f. omega arith; low = omega arith })

zero_var : (a : ℕ) → I.var (replicate 17 0) a ≡ 0
zero_var a = zeros 17 a

pub zeros_map : (n : ℕ) → 1 ≤ n → Map (at (replicate 289 (pos 0))) 17 n (I.var (replicate 17 0)) (ent (replicate 17 (pos 0)))
zeros_map n h = record {
  some = h;
  into = λ a l. omega (arith, zero_var a);
  zero = zero_var 0;
  still = zeros_z 17 0;
  stays = λ x s a l. rw (zeros_z 17 a) (omega arith);
}

pub zeros_maps : (n : ℕ) → 1 ≤ n → Maps (replicate 289 (pos 0)) n (replicate 17 0) (replicate 17 (pos 0))
zeros_maps n h = record {
  n₀ = 17;
  few = omega arith;
  closed = zeros_closed;
  map = zeros_map n h;
  size = λ a l. rw (zeros_z 17 a) (record { high = omega arith; low = omega arith });
}

-- the only image is that of the start
zeros_sol : Sol (at (replicate 289 (pos 0))) 17 (λ _. 0)
zeros_sol = record { zero = refl; holds = λ a b ha hb f. rw (zeros_z 289 (a * 17 + b)) (omega arith) }

zeros_image : (n : ℕ) (y : ℕ → ℕ) → ((i : ℕ) → y i ≡ 0) → I.Image n (I.var (replicate 17 0)) (ent (replicate 17 (pos 0))) (λ _. 0) y
zeros_image n y h a l = rw (zeros_z 17 a) (omega (arith, h a))

image_zero : (n : ℕ) (x y : ℕ → ℕ) → Sol (at (replicate 289 (pos 0))) 17 x → I.Image n (I.var (replicate 17 0)) (ent (replicate 17 (pos 0))) x y → (i : ℕ) → i < n → y i ≡ 0
image_zero n x y s q i l =
    let e : y i + under (ent (replicate 17 (pos 0)) i) ≡ x 0 + over (ent (replicate 17 (pos 0)) i) =
    subst (λ (k : ℕ). y i + under (ent (replicate 17 (pos 0)) i) ≡ x k + over (ent (replicate 17 (pos 0)) i)) (zero_var i) (q i l) in
    let f : y i + 0 ≡ x 0 + 0 = subst (λ (c : ℤ). y i + under c ≡ x 0 + over c) (zeros_z 17 i) e in
    omega (arith, s.zero)

-- ---- what is found

module _ (m : Model) (w : RightModel m) (u : List ℕ) (g : Given m u) where
  some_zone : 1 ≤ zones_in u
  some_zone = (given_is_sound m w u g).some

  first_zone : nth1 (decode u).zones 1 ≡ some (zone_in u 0)
  first_zone = zone_is m w u g 1 (omega arith) some_zone

  -- kind 4
  pub judged_start_elsewhere : (home_of (start m) ≡ home_of_zone (zone_in u 0) → ⊥) → (r : State) → r ≡ held (start m) → Judged m (decode u) starts (found Elsewhere r)
  judged_start_elsewhere h r e = judged_fails m (decode u) starts Elsewhere (start m) r (start_elsewhere m (decode u) (right_formed m w) (zone_in u 0) first_zone h) e

  module _ (h : home_of (start m) ≡ home_of_zone (zone_in u 0)) (n : ℕ) (many : n ≡ variables m (home_of (start m)).order) (few : n ≤ 17) where
    in_zone : (x y : ℕ) → BreaksZone (zone_in u 0) x y (start m) → (x < n) × (y < n)
    in_zone x y b =
        let z = ranged_mem (variables m (zone_in u 0).order) (zone_in u 0).bounds (zone_ranged m w u g 1 (omega arith) some_zone) b.bound b.written in
        let e : n ≡ variables m (zone_in u 0).order = many ∙ ap (λ (o : Home). variables m o.order) h in
        (omega (arith, z.0, b.row), omega (arith, z.1, b.column))

    kept_so : (x y : ℕ) → (x < n → y < n → Met (replicate 289 (pos 0)) 17 n (replicate 17 0) (replicate 17 (pos 0)) u 384 x y) → BreaksZone (zone_in u 0) x y (start m) → ⊥
    kept_so x y f b =
        let l = in_zone x y b in
        f l.0 l.1 (λ _. 0) (var (start m)) zeros_sol (zeros_image n (var (start m)) (start_zero m))
        (broken_there m w u g 1 (omega arith) some_zone x y (omega (arith, l.0)) (omega (arith, l.1)) (start m) b)

    -- kind 5
    pub judged_start_breaks : (i j : ℕ) → FirstAt (replicate 289 (pos 0)) 17 n (replicate 17 0) (replicate 17 (pos 0)) u 384 i j → (r : State) → r ≡ held (start m) → Judged m (decode u) starts (found (W.Breaks i j) r)
    judged_start_breaks i j k r q =
        let b = k.here in
        let l = k.inside in
        let a = image_zero n b.x b.y b.sol b.image in
        let c : C.Breaks u 384 i j (var (start m)) = record { there = b.breaks.there; above = omega (arith, b.breaks.above, a i l.0, a j l.1, start_zero m i, start_zero m j) } in
        judged_fails m (decode u) starts (W.Breaks i j) (start m) r
        (start_breaks m (decode u) (right_formed m w) (zone_in u 0) first_zone i j h
        (there_broken m w u g 1 (omega arith) some_zone i j (omega (arith, l.0)) (omega (arith, l.1)) (start m) c)
        (λ x y v. kept_so x y (λ c d. k.first x y c d v)))
        q

    -- no kind
    pub judged_start_holds : FirstBroken (replicate 289 (pos 0)) 17 n (replicate 17 0) (replicate 17 (pos 0)) u 384 None → Judged m (decode u) starts None
    judged_start_holds k =
        start_holds m (decode u) (right_formed m w) (zone_in u 0) first_zone h (λ x y. kept_so x y (λ c d. k x y c d))
