-- `zone_text::writing::write_claims` meets its contract.
use Prim.Native.Nat.{ℕ, ◌+◌, ◌-◌}
use mathlib.Core.List.{map}
use Rattle.meaning.specs.Text.ModelReader.{words}
use Rattle.zone_text.proofs.PutRows.{claims_mark, claims_numbers, claims_feed, claims_line_put}
use Rattle.zone_text.proofs.writing.write_claims.Goals as goal

pub write_bytes-p-requires : goal.write_bytes-p-requires
write_bytes-p-requires c = let a = c.args in claims_mark a.buf.now a.at (map (λ (x : ℕ). x - 1) (words a.zones.now (14256 + a.from) a.n)) c.requires

pub write_numbers-q-requires : goal.write_numbers-q-requires
write_numbers-q-requires c = let a = c.args in claims_numbers a.buf.now a.at (map (λ (x : ℕ). x - 1) (words a.zones.now (14256 + a.from) a.n)) c.requires _ _ c.write_bytes-p.ensures

pub write_bytes-requires : goal.write_bytes-requires
write_bytes-requires c = let a = c.args in claims_feed a.buf.now a.at (map (λ (x : ℕ). x - 1) (words a.zones.now (14256 + a.from) a.n)) c.requires _ _ c.write_bytes-p.ensures _ _ c.write_numbers-q.ensures

pub returns : goal.returns
returns c = let a = c.args in claims_line_put a.buf.now a.at (map (λ (x : ℕ). x - 1) (words a.zones.now (14256 + a.from) a.n)) c.requires _ _ c.write_bytes-p.ensures _ _ c.write_numbers-q.ensures _ _ c.write_bytes.ensures
