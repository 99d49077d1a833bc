-- `write_fields` meets its contract.
use native.Mathlib.Omega.{arith}
use Rattle.lines.specs.declared.writing.Field.{Field}
use Rattle.lines.proofs.Laws.Putting.{field_room, put_field_more, put_line_feed, end_room}
use Rattle.lines.proofs.writing.write_fields.Goals as goal

pub write_field-p-requires : goal.write_field-p-requires
write_field-p-requires c =
    let l = c.loop-field in
    let d : Field = record { below = 0; number = 0 } in
    omega (arith, field_room c.args.fields.now c.args.buf.now l.buf c.args.at l.field-index l.p d l.invariant (omega arith) c.requires)

pub loop-field-preserved : goal.loop-field-preserved
loop-field-preserved c =
    let l = c.loop-field in
    put_field_more c.args.fields.now _ _ _ l.field-index _ _ l.invariant _ _ (omega arith) c.write_field-p.ensures

pub bounds-buf-p : goal.bounds-buf-p
bounds-buf-p c =
    let l = c.loop-field in
    omega (arith, end_room c.args.fields.now _ _ _ l.field-index _ (omega arith) l.invariant c.requires)

pub overflow_add-result : goal.overflow_add-result
overflow_add-result c =
    let l = c.loop-field in
    let h = end_room c.args.fields.now _ _ _ l.field-index _ (omega arith) l.invariant c.requires in
    record { fits = omega arith }

pub returns : goal.returns
returns c = put_line_feed c.args.fields.now _ _ _ c.loop-field.field-index _ (omega arith) c.loop-field.invariant
