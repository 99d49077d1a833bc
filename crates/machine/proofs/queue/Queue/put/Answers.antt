-- `Queue::put` meets its contract.
use Prim.Native.Nat.{ℕ}
use mathlib.Core.Path.{◌≡◌, ◌∙◌, ap}
use native.Mathlib.Omega.{arith}
use lib.ListN.{length}
use borrow.Author.Rules.{rules}
use Rattle.meaning.specs.Lists.{insert_at}
use Rattle.meaning.specs.Machine.Place.{place_of}
use Rattle.meaning.specs.Machine.Release.{new_job}
use Rattle.meaning.specs.Text.ModelTable.{decode}
use Rattle.meaning.proofs.Lists.{length_insert_at}
use Rattle.meaning.proofs.Machine.Place.{place_of_high}
use Rattle.machine.specs.Stands.{cells_of}
use Rattle.machine.specs.Queues.{standing}
use Rattle.machine.proofs.QueueLaws.{queue_length, inserted_cells}
use Rattle.machine.proofs.queue.Queue.put.Goals as goal

pub inserted-requires : goal.inserted-requires
inserted-requires c =
    let a = c.args in
    let long : length a.self.jobs ≡ 6 = search rules in
    let e = queue_length a.self.jobs a.self.count (omega (arith, c.requires)) in
    (omega arith, (omega (arith, c.place_of-at.ensures, place_of_high (decode a.model.now.cells.now) a.task (standing a.self), e), c.requires))

pub returns : goal.returns
returns c =
    let a = c.args in
    let m = decode a.model.now.cells.now in
    let q = standing a.self in
    let long : length a.self.jobs ≡ 6 = search rules in
    let e = queue_length a.self.jobs a.self.count (omega (arith, c.requires)) in
    record {
      jobs =
          inserted_cells a.self.jobs c.inserted.result a.self.count c.place_of-at.result _ (omega (arith, c.requires)) c.requires c.inserted.ensures
          ∙ ap (λ (p : ℕ). cells_of (insert_at p (new_job a.task) q)) c.place_of-at.ensures;
      count = omega (arith, e, length_insert_at (place_of m a.task q) (new_job a.task) q);
    }
