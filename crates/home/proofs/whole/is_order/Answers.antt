-- `home::whole::is_order` meets its contract.
use mathlib.Core.Path.{◌≡◌, refl, sym, ◌∙◌, ap}
use mathlib.Core.Bool.{true, false, ◌&&◌}
use lib.ListN.{length, take}
use Rattle.model_table.specs.Held.{model_of}
use Rattle.meaning.specs.Zones.Proper.{fits}
use Rattle.home.specs.ByCell.{all_of}
use Rattle.home.proofs.WholeLaws.{cells_told}
use Rattle.home.proofs.whole.is_order.Goals as goal
use Rattle.home.proofs.whole.is_order.Goals.{then-are_known, else-are_known}

pub returns-then-fits : goal.returns-then-fits
returns-then-fits c =
    let m = model_of c.args.model.now in
    let o = take c.args.home.count c.args.home.tasks in
    let k : c.are_known.result ≡ all_of (length m.tasks) o = c.are_known.ensures ∙ ap (all_of (length m.tasks)) c.order-order.ensures in
    let both : c.if-are_known.value ≡ (all_of (length m.tasks) o && fits m o) =
    elim c.if-are_known.branch [
      | then-are_known w ↦ rw (← k, w.if-are_known.true) (w.value-is ∙ w.fits.ensures ∙ ap (fits m) c.order-order.ensures)
      | else-are_known w ↦ rw (← k, w.if-are_known.false) (w.value-is ∙ w.if-are_known.false)
    ] in
    cells_told m c.args.home.tasks c.args.home.count {both = true} (sym c.if-fits.true ∙ both) c.unused.ensures

pub returns-else-fits : goal.returns-else-fits
returns-else-fits c =
    let m = model_of c.args.model.now in
    let o = take c.args.home.count c.args.home.tasks in
    let k : c.are_known.result ≡ all_of (length m.tasks) o = c.are_known.ensures ∙ ap (all_of (length m.tasks)) c.order-order.ensures in
    let both : c.if-are_known.value ≡ (all_of (length m.tasks) o && fits m o) =
    elim c.if-are_known.branch [
      | then-are_known w ↦ rw (← k, w.if-are_known.true) (w.value-is ∙ w.fits.ensures ∙ ap (fits m) c.order-order.ensures)
      | else-are_known w ↦ rw (← k, w.if-are_known.false) (w.value-is ∙ w.if-are_known.false)
    ] in
    rw c.if-fits.false (cells_told m c.args.home.tasks c.args.home.count {both = false} (sym c.if-fits.false ∙ both) refl)
