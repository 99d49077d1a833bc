-- `zone_text::reading_records::take_end` meets its contract.
use mathlib.Core.Path.{sym, ◌∙◌}
use Rattle.zone_text.proofs.Laws.Orders.{took_wrong}
use Rattle.zone_text.proofs.Laws.Ends.{took_closed, end_due, end_none, end_open, end_claims, end_more, end_closed}
use native.Mathlib.Omega.{arith}
use Rattle.zone_text.proofs.reading_records.take_end.Goals.{then-is_some-via-then-is_some, then-is_some-via-else-is_some+then-x-eq0}
use Rattle.zone_text.proofs.reading_records.take_end.Goals as goal

pub returns-then-is_some : goal.returns-then-is_some
returns-then-is_some c =
    let a = c.args in
    λ m y h. took_wrong _ y _ _ _ _ _ c.refused.ensures (elim c.then-is_some.branch [
      | then-is_some-via-then-is_some w ↦ end_due m a.s.now a.at y a.x a.t.now h (sym c.is_some.ensures ∙ w.if-is_some.true)
      | then-is_some-via-else-is_some+then-x-eq0 w ↦ end_none m a.s.now a.at y a.x a.t.now h (sym c.is_some.ensures ∙ w.if-is_some.false) w.if-x-eq0.true
    ])

pub returns-then-not-byte_is : goal.returns-then-not-byte_is
returns-then-not-byte_is c =
    let a = c.args in
    λ m y h. took_wrong _ y _ _ _ _ _ c.refused-then-not-byte_is.ensures (end_open m a.s.now a.at y a.x a.t.now h (sym c.is_some.ensures ∙ c.if-is_some.false) c.if-x-eq0.false (sym c.byte_is.ensures ∙ c.if-not-byte_is.true))

pub returns-then-not-up_to_last : goal.returns-then-not-up_to_last
returns-then-not-up_to_last c =
    let a = c.args in
    λ m y h. took_wrong _ y _ _ _ _ _ c.refused-then-not-up_to_last.ensures (end_claims m a.s.now a.at y a.x a.t.now h (sym c.is_some.ensures ∙ c.if-is_some.false) c.if-x-eq0.false (sym c.byte_is.ensures ∙ c.if-not-byte_is.false)
    (omega (arith, c.requires.pool, c.requires.within, c.requires.short)) (sym c.up_to_last.ensures ∙ c.if-not-up_to_last.true))

pub returns-then-at-s : goal.returns-then-at-s
returns-then-at-s c =
    let a = c.args in
    λ m y h. took_wrong _ y _ _ _ _ _ c.refused-then-at-s.ensures (end_more m a.s.now a.at y a.x a.t.now h (sym c.is_some.ensures ∙ c.if-is_some.false) c.if-x-eq0.false (sym c.byte_is.ensures ∙ c.if-not-byte_is.false)
    (omega (arith, c.requires.pool, c.requires.within, c.requires.short)) (sym c.up_to_last.ensures ∙ c.if-not-up_to_last.false) c.if-at-s.true)

pub returns : goal.returns
returns c =
    let a = c.args in
    λ m y h. took_closed m a.s.now a.at y a.t.now (end_closed m a.s.now a.at y a.x a.t.now h (sym c.is_some.ensures ∙ c.if-is_some.false) c.if-x-eq0.false (sym c.byte_is.ensures ∙ c.if-not-byte_is.false)
    (omega (arith, c.requires.pool, c.requires.within, c.requires.short)) (sym c.up_to_last.ensures ∙ c.if-not-up_to_last.false) c.if-at-s.false)
