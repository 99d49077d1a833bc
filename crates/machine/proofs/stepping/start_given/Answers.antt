-- `start_given` meets its contract.
use Prim.Native.Nat.{ℕ}
use mathlib.Core.Path.{◌∙◌, ap, subst}
use mathlib.Core.List.{List, []}
use Rattle.meaning.specs.Machine.Release.{put_all}
use Rattle.meaning.specs.Text.ModelTable.{decode}
use Rattle.machine.specs.Promise.{went}
use Rattle.machine.specs.Queues.{Holds}
use Rattle.machine.proofs.StepLaws.{start_held}
use Rattle.machine.proofs.stepping.start_given.Goals as goal

pub returns : goal.returns
returns c =
    let m = decode c.args.model.now.cells.now in
    let q = c.put_all-queue.result in
    let h = subst (λ (ts : List ℕ). Holds q (put_all m ts [])) (c.list.ensures ∙ c.start_releases-releases.ensures.is) c.put_all-queue.ensures in
    ap went (c.state_with.ensures ∙ start_held m q h)
