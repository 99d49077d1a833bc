-- What `try_start` reads and calls, as obligation 1 needs it.
-- Assumes nothing.
use mathlib.Core.Path.{◌≡◌, refl, sym, ◌∙◌, ap, subst}
use mathlib.Core.Logic.{◌↔◌}
use mathlib.Core.Bool.{Bool, true, false, not}
use mathlib.Core.List.{List, map}
use Prim.Native.Nat.{ℕ, suc, ◌+◌, ◌≤◌}
use native.Mathlib.Omega.{arith}
use lib.IntN.{pos}
use lib.ListN.{replicate}
use borrow.Author.Tests.{not-true, not-false}
use Rattle.meaning.specs.Model.{Model}
use Rattle.meaning.specs.Machine.Run.{start}
use Rattle.meaning.specs.Zones.Variables.{variables}
use Rattle.meaning.specs.Zones.Reached as Z
use Rattle.meaning.specs.Zones.Reached.{home_of_zone}
use Rattle.meaning.specs.Check.Obligations.{starts}
use Rattle.meaning.specs.Text.RightModel.{RightModel}
use Rattle.meaning.specs.Text.ModelTable.{decode}
use Rattle.meaning.specs.Text.ProposalReader as reader
use Rattle.meaning.specs.Text.ProposalTable as table
use Rattle.meaning.specs.Text.ProposalTable.{zone_in}
use Rattle.meaning.proofs.Tests.{never}
use Rattle.model_table.specs.Right.{RightTable}
use Rattle.home.specs.declared.Home.{Home}
use Rattle.home.specs.Stands.{home_of}
use Rattle.std.proofs.Common.{None}
use Rattle.bounds.specs.Claims.{Cells}
use Rattle.bounds.specs.Results.{FirstAt, FirstBroken}
use Rattle.machine.specs.declared.State.{State}
use Rattle.machine.specs.declared.Reply.{Reply}
use Rattle.machine.specs.declared.Outcome.{Outcome}
use Rattle.machine.specs.declared.Outcome.TheVariants.{Went, Missed, Overflowed, Refused}
use Rattle.machine.specs.Stands.{task_of, held}
use Rattle.machine.specs.Promise.{Said, went, missed, overflow, refused, said, said_by}
use Rattle.zone_table.specs.Sound.{zones_in, queue_in}
use Rattle.zone_table.specs.Read.{HomeRead}
use Rattle.zone_table.proofs.ZoneParts.{given_is_sound, home_at_lem, home_right}
use Rattle.verdict.specs.declared.answer.Fault.TheVariants.{Elsewhere}
use Rattle.verdict.specs.declared.answer.Fault.TheVariants as W
use Rattle.verdict.specs.Judged.{Judged}
use Rattle.verdict.proofs.FoundLaws.{found}
use Rattle.verdict.proofs.ClaimLaws.{start_of, cells_of}
use Rattle.verdict.proofs.StartLaws.{start_small, start_home, start_many, judged_start_elsewhere, judged_start_breaks, judged_start_holds}

-- ---- the state of the machine's reply

abbrev state_said : Said → State
state_said (went s) = s
state_said (missed s k) = s
state_said (overflow s) = s
state_said (refused n k s) = s

said_state : (o : Outcome) (s : State) → state_said (said_by o s) ≡ s
said_state Went s = refl
said_state (Missed k) s = refl
said_state Overflowed s = refl
said_state (Refused n) s = refl

pub started_state : (t : List ℕ) (r : Reply) → said r ≡ went (held (start (decode t))) → r.state ≡ held (start (decode t))
started_state t r w = sym (said_state r.outcome r.state) ∙ ap state_said w

-- ---- what is found

module _ (t : List ℕ) (g : RightTable t) (u : List ℕ) (h : reader.Given (decode t) u) where
  abbrev m : Model
  m = decode t

  right : RightModel m
  right = g.right

  some_zone : 1 ≤ zones_in u
  some_zone = (given_is_sound m right u h).some

  -- the bounds of zone 1
  pub start_cells : (from : ℕ) → from ≡ start_of 1 → Cells u from
  start_cells from e = subst (Cells u) (sym e) (cells_of m right u h 1 (omega arith) some_zone)

  -- the state of the reply, the tasks of its jobs, and the location and queue order of zone 1
  module _ (r : Reply) (s : said r ≡ went (held (start m))) (ts : List ℕ) (f : ts ≡ map task_of r.state.jobs) (y : Home) (e : HomeRead u 0 (queue_in u 0) y) where
    state_is : r.state ≡ held (start m)
    state_is = started_state t r s

    abbrev standing : Home
    standing = record { location = r.state.location; tasks = ts; count = r.state.count }

    -- what the test of its home asks
    pub home_asks : (r.state.count ≤ 6) × (y.count ≤ 6)
    home_asks = (start_small m r.state state_is, (home_right m right u h 1 (omega arith) some_zone y e).few)

    -- and what it says
    module _ (b : Bool) (d : (b ≡ true) ↔ (home_of standing ≡ home_of y)) where
      at_zone : home_of y ≡ home_of_zone (zone_in u 0)
      at_zone = home_at_lem m right u h 1 (omega arith) some_zone y e

      at_start : home_of standing ≡ Z.home_of (start m)
      at_start = start_home m r.state state_is ts f

      at_home : not b ≡ false → Z.home_of (start m) ≡ home_of_zone (zone_in u 0)
      at_home q = sym at_start ∙ d.0 (not-false b q) ∙ at_zone

      pub start_away : not b ≡ true → Judged m (table.decode u) starts (found Elsewhere r.state)
      start_away q = judged_start_elsewhere m right u h (λ z. never (d.1 (at_start ∙ z ∙ sym at_zone)) (not-true b q)) r.state state_is

      -- and what that of its bounds says
      module _ (q : not b ≡ false) (n : ℕ) (all : n ≡ suc (m.clocks + (r.state.count + r.state.count))) (few : n ≤ 17) (from : ℕ) (v : from ≡ start_of 1) where
        many : n ≡ variables m (Z.home_of (start m)).order
        many = start_many m r.state state_is n all

        pub start_broken : (i j : ℕ) → FirstAt (replicate 289 (pos 0)) 17 n (replicate 17 0) (replicate 17 (pos 0)) u from i j → Judged m (table.decode u) starts (found (W.Breaks i j) r.state)
        start_broken i j k =
            judged_start_breaks m right u h (at_home q) n many few i j
            (subst (λ (x : ℕ). FirstAt (replicate 289 (pos 0)) 17 n (replicate 17 0) (replicate 17 (pos 0)) u x i j) v k) r.state state_is

        pub start_clear : FirstBroken (replicate 289 (pos 0)) 17 n (replicate 17 0) (replicate 17 (pos 0)) u from None → Judged m (table.decode u) starts None
        start_clear k =
            judged_start_holds m right u h (at_home q) n many few
            (subst (λ (x : ℕ). FirstBroken (replicate 289 (pos 0)) 17 n (replicate 17 0) (replicate 17 (pos 0)) u x None) v k)
