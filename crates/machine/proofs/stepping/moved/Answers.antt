-- `moved` meets its contract.
use Prim.Native.Nat.{ℕ}
use mathlib.Core.Path.{◌≡◌, sym, ◌∙◌, ap, ap₂, subst}
use mathlib.Core.Bool.{Bool}
use mathlib.Core.List.{List}
use native.Mathlib.Omega.{arith}
use lib.ListN.{length, take}
use Rattle.meaning.specs.Model.{Model}
use Rattle.meaning.specs.Machine.Release.{overflows_any, put_all}
use Rattle.meaning.specs.Text.ModelTable.{decode}
use Rattle.machine.specs.Promise.{went}
use Rattle.machine.specs.Stands.{queue_of}
use Rattle.machine.specs.Queues.{Holds}
use Rattle.machine.proofs.QueueLaws.{order_is}
use Rattle.machine.proofs.StepLaws.{moved_over, moved_went, moved_room}
use Rattle.machine.proofs.stepping.moved.Goals as goal

asked : (m : Model) (b : Bool) (ts os rs q : List ℕ) → b ≡ overflows_any m ts os → ts ≡ rs → os ≡ q → overflows_any m rs q ≡ b
asked m b ts os rs q e f g = sym (e ∙ ap₂ (overflows_any m) f g)

pub returns-then-overflows : goal.returns-then-overflows
returns-then-overflows c =
    let a = c.args in
    let s = a.state in
    let over = asked (decode a.model.now.cells.now) _ _ _ _ _ c.overflows.ensures (c.list.ensures ∙ c.released_by-releases.ensures.is) (ap (take s.count) c.tasks_of-tasks.ensures ∙ order_is s.jobs s.count) in
    moved_over a.model.now.cells.now c.args.model.now.right s c.requires a.number a.clocks (over ∙ c.if-overflows.true)

pub put_all-next-requires-clause-room : goal.put_all-next-requires-clause-room
put_all-next-requires-clause-room c =
    let a = c.args in
    let s = a.state in
    let over = asked (decode a.model.now.cells.now) _ _ _ _ _ c.overflows.ensures (c.list.ensures ∙ c.released_by-releases.ensures.is) (ap (take s.count) c.tasks_of-tasks.ensures ∙ order_is s.jobs s.count) in
    let room = moved_room a.model.now.cells.now c.args.model.now.right s c.requires a.number (over ∙ c.if-overflows.false) in
    let many = ap length (c.list-2.ensures ∙ c.released_by-releases.ensures.is) in
    omega arith

pub returns : goal.returns
returns c =
    let a = c.args in
    let s = a.state in
    let m = decode a.model.now.cells.now in
    let n = c.put_all-next.result in
    let over = asked m _ _ _ _ _ c.overflows.ensures (c.list.ensures ∙ c.released_by-releases.ensures.is) (ap (take s.count) c.tasks_of-tasks.ensures ∙ order_is s.jobs s.count) in
    let h = subst (λ (ts : List ℕ). Holds n (put_all m ts (queue_of s.jobs s.count))) (c.list-2.ensures ∙ c.released_by-releases.ensures.is) c.put_all-next.ensures in
    ap went c.state_with.ensures ∙ moved_went a.model.now.cells.now c.args.model.now.right s c.requires a.number a.clocks (over ∙ c.if-overflows.false) _ n c.target-location.ensures h
