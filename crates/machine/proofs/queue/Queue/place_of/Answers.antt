-- `Queue::place_of` meets its contract.
use Prim.Native.Nat.{ℕ}
use mathlib.Core.Path.{◌≡◌, ◌∙◌, ap, ap₂}
use mathlib.Core.Bool.{Bool}
use mathlib.Core.List.{List}
use native.Mathlib.Omega.{arith}
use lib.ListN.{length, take, length-take}
use borrow.Author.Rules.{rules}
use Rattle.meaning.proofs.Hooks.{behind_le}
use Rattle.std.proofs.lemmas.List.{take-map}
use Rattle.meaning.specs.Machine.Place.{behind, place_from}
use Rattle.meaning.specs.Machine.State.{order}
use Rattle.meaning.specs.Text.ModelTable.{decode}
use Rattle.machine.specs.ByCell.{beats_in}
use Rattle.machine.specs.Stands.{queue_of}
use Rattle.machine.proofs.QueueLaws.{order_is}
use Rattle.machine.proofs.JobLaws.{from_found}
use Rattle.machine.proofs.queue.Queue.place_of.Goals as goal

pub ahead-requires : goal.ahead-requires
ahead-requires c =
    let a = c.args in
    let tasks = c.tasks_of-tasks.result in
    let beaten = c.beaten_by-beaten.result in
    let six : length tasks ≡ 6 = search rules in
    let all : length beaten ≡ 6 = search rules in
    let n = a.self.count in
    omega (arith, c.first_place-from.ensures, behind_le (decode a.model.now.cells.now) a.task (take n tasks), length-take n tasks, length-take n beaten)

pub returns : goal.returns
returns c =
    let a = c.args in
    let m = decode a.model.now.cells.now in
    let e = ap (behind m a.task) (ap (take a.self.count) c.tasks_of-tasks.ensures ∙ order_is a.self.jobs a.self.count) in
    c.ahead.ensures.place
    ∙ ap₂ (λ (k : ℕ) (l : List Bool). place_from k (λ (b : Bool). b) l) (c.first_place-from.ensures ∙ e)
    (ap (take a.self.count) c.beaten_by-beaten.ensures ∙ take-map (beats_in a.model.now.cells.now a.task) a.self.count a.self.jobs)
    ∙ from_found a.model.now.cells.now a.model.now.right a.task (behind m a.task (order (queue_of a.self.jobs a.self.count))) (take a.self.count a.self.jobs)
