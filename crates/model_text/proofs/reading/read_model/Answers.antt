-- `read_model` meets its contract.
use Prim.Native.Nat.{ℕ}
use borrow.Author.Rules.{rules}
use mathlib.Core.Path.{◌≡◌, sym, ap, ◌∙◌}
use lib.ListN.{length, replicate}
use Rattle.meaning.specs.Text.ModelTable.{size}
use Rattle.model_text.proofs.Laws.Answering.{answered_err, answered_failed, read_room, read_long, read_stop, read_rest}
use Rattle.model_text.proofs.reading.read_model.Goals as goal

pub returns-then-table-ne-SIZE : goal.returns-then-table-ne-SIZE
returns-then-table-ne-SIZE c =
    let z : c.fill.new.self ≡ replicate (length c.args.table.now) 0 = search rules in
    answered_err _ _ _ _ (read_room _ c.args.text.now (λ e. c.if-table-ne-SIZE.true (c.fill.ensures.len ∙ e))) z

pub returns-then-text-gt-TEXT_MOST : goal.returns-then-text-gt-TEXT_MOST
returns-then-text-gt-TEXT_MOST c =
    let z : c.fill.new.self ≡ replicate (length c.args.table.now) 0 = search rules in
    let n : length c.args.table.now ≡ size = sym c.fill.ensures.len ∙ c.if-table-ne-SIZE.false in
    answered_err _ _ _ _ (read_long _ c.args.text.now n c.if-text-gt-TEXT_MOST.true) z

pub returns-then-stop-text : goal.returns-then-stop-text
returns-then-stop-text c =
    let z : c.fill.new.self ≡ replicate (length c.args.table.now) 0 = search rules in
    let n : length c.args.table.now ≡ size = sym c.fill.ensures.len ∙ c.if-table-ne-SIZE.false in
    answered_err _ _ _ _ (read_stop _ c.args.text.now _ n c.if-text-gt-TEXT_MOST.false c.first_stop-stop.ensures c.if-stop-text.true) z

pub read_records-answer-requires : goal.read_records-answer-requires
read_records-answer-requires c =
    let z : c.fill.new.self ≡ replicate (length c.args.table.now) 0 = search rules in
    let n : length c.args.table.now ≡ size = sym c.fill.ensures.len ∙ c.if-table-ne-SIZE.false in
    (c.if-table-ne-SIZE.false, z ∙ ap (λ (x : ℕ). replicate x 0) n)

pub returns-then-is_err : goal.returns-then-is_err
returns-then-is_err c =
    let n : length c.args.table.now ≡ size = sym c.fill.ensures.len ∙ c.if-table-ne-SIZE.false in
    let e = read_rest _ c.args.text.now _ n c.if-text-gt-TEXT_MOST.false c.first_stop-stop.ensures c.if-stop-text.false in
    let z : c.fill-then-is_err.new.self ≡ replicate (length c.args.table.now) 0 = search rules in
    answered_failed _ _ _ _ _ (c.read_records-answer.ensures ∙ sym e) (sym c.is_err.ensures.value ∙ c.if-is_err.true) z
