-- The reader's loop: what holds before each record, a law for each way out of a turn, and the reader's answer for each case.
-- Assumes nothing.
use Prim.Native.Nat.{ℕ, ◌*◌, ◌≤◌, ◌<◌}
use mathlib.Core.Path.{◌≡◌, refl, sym, ap, ◌∙◌, subst}
use mathlib.Core.Bool.{true, false}
use mathlib.Core.List.{List, []}
use native.Mathlib.Omega.{arith}
use lib.ListN.{length, replicate, length-append, length-replicate, get_or-replicate}
use lib.Seq.{ext_get_or}
use borrow.Author.Tests.{eq-eqb, ne_eqb, lt-ltb, le-ltb}
use Rattle.meaning.specs.Model.{Model}
use Rattle.meaning.specs.Text.Ranges.{text_most}
use Rattle.meaning.specs.Text.Refusals.{too_long, comma_or_stop, wrong_room, not_proper}
use Rattle.meaning.specs.Text.Records.{Answer, done, refused, first_stop, whole_text}
use Rattle.meaning.specs.Text.RecordRow.{Met, next, closed, wrong, read}
use Rattle.meaning.specs.Text.ModelTable.{decode}
use Rattle.meaning.specs.Text.ModelReader.{left}
use Rattle.model_table.specs.Right.{RightTable}
use Rattle.meaning.specs.Text.ProposalTable.{size, all_claims, encode, head_cell, bound_cell}
use Rattle.meaning.specs.Text.ProposalReader.{Entry, whole, begun, put, proposal_of, look, row, stored, read_proposal}
use Rattle.meaning.specs.Text.ProposalReader as reader
use Rattle.meaning.proofs.Text.Choices.{nonsense}
use Rattle.meaning.proofs.Text.ProposalLaws.{Good, lawful}
use Rattle.meaning.proofs.Text.ProposalEncode.{encode_length, head_cell_lem, bound_cell_lem, pool_cell}
use Rattle.meaning.proofs.Text.ProposalStore.{by_cell, claims_more}
use Rattle.meaning.proofs.Text.ProposalLoop.{ReadingTo, look_next, pool_more}
use Rattle.meaning.proofs.Text.RecordRowLoop.{reading_first, reading_more, reading_closed, reading_wrong}
use Rattle.std.specs.Prelude.{Option, Some, None, Result, Ok, Err}
use Rattle.std.specs.Result.{is_err}
use Rattle.refusals.specs.declared.Reason.{Reason}
use Rattle.refusals.specs.declared.Refusal.{Refusal}
use Rattle.refusals.specs.Number.{number_of}
use Rattle.zone_text.specs.declared.reading_records.Due.{Due}
use Rattle.zone_text.specs.declared.reading_records.Sofar.{Sofar}
use Rattle.zone_text.specs.declared.reading_records.Next as declared
use Rattle.zone_text.specs.Held.{Holds, Ready, Sound, Stands, Begun, Took, behind}
use Rattle.zone_text.specs.Meant.{meant, Answered}
use Rattle.zone_text.proofs.Laws.Claims.{begun_is}

-- ---- the table before the first record

empty_table : replicate size 0 ≡ encode (record { zones = [] })
unfolding head_cell bound_cell
empty_table =
    ext_get_or 0 (replicate size 0) (encode (record { zones = [] })) (length-replicate {A = ℕ} size 0 ∙ sym (encode_length (record { zones = [] })))
    (λ i h.
    let l : i < size = omega (arith, length-replicate {A = ℕ} size 0) in
    get_or-replicate size i 0 0 l
    ∙ by_cell i l
    (λ k r a b e. rw e (sym (head_cell_lem (record { zones = [] }) k r a b)))
    (λ k r a b e. rw e (sym (bound_cell_lem (record { zones = [] }) k r a b)))
    (λ x a e. rw e (sym (pool_cell (record { zones = [] }) x a))))

-- ---- the loop

-- the code's x and t tell what was read of the text s up to `at`, over the model of the table b
pub record ReadingAt (b s : List ℕ) (at : ℕ) (x : Sofar) (t : List ℕ) : Type 0 where
  pub model : RightTable b
  pub short : length s ≤ text_most
  pub sofar : reader.Sofar
  pub reading : ReadingTo (decode b) model.right s at sofar
  pub stands : Stands sofar x
  pub table : t ≡ encode (proposal_of sofar)
  pub pool : 2 * length (all_claims (proposal_of sofar).zones) ≤ at

pub reading_start : (b s t : List ℕ) → RightTable b → length s ≤ text_most → length t ≡ size → t ≡ replicate (length t) 0
    → ReadingAt b s 0 (record { zones = 0; pool = 0; due = None }) t
unfolding proposal_of
reading_start b s t g h n e = record {
  model = g;
  short = h;
  sofar = whole [];
  reading = reading_first (row (decode b)) (lawful (decode b) g.right) (λ s at x w k e. look_next (decode b) s at g.right x w k e) s;
  stands = (refl, refl, refl);
  table = e ∙ ap (λ (k : ℕ). replicate k 0) n ∙ empty_table;
  pool = omega arith;
}

module _ (b s : List ℕ) (at : ℕ) (x : Sofar) (t : List ℕ) (r : ReadingAt b s at x t) where
  sound : (y : reader.Sofar) → Good (decode b) r.model.right y → Sound (decode b) y
  sound (whole zs) g = g
  sound (begun zs z) g = g

  is_sound : Sound (decode b) r.sofar
  unfolding lawful
  is_sound = sound r.sofar r.reading.good

  good : (y : reader.Sofar) → Sound (decode b) y → Good (decode b) r.model.right y
  good (whole zs) g = g
  good (begun zs z) g = g

  pub holds : Holds (decode b) r.sofar x t
  holds = record { sound = is_sound; stands = r.stands; table = r.table }

  pub ready : Ready x s at t
  unfolding proposal_of
  ready = go r.sofar is_sound r.stands r.table r.pool
    where
      go : (y : reader.Sofar) → Sound (decode b) y → Stands y x → t ≡ encode (proposal_of y) → 2 * length (all_claims (proposal_of y).zones) ≤ at → Ready x s at t
      go (whole zs) g w e p = record {
        long = ap length e ∙ encode_length (proposal_of (whole zs));
        short = r.short;
        within = r.reading.within;
        zones = omega (arith, w.0, g.0);
        due = λ o q. nonsense (let p = w.1 in (cc));
        pool = omega (arith, w.2);
      }
      go (begun zs z) g w e p = record {
        long = ap length e ∙ encode_length (proposal_of (begun zs z));
        short = r.short;
        within = r.reading.within;
        zones = omega (arith, w.0, g.0);
        due = λ o q.
            let e : o ≡ record { len = length z.order; cursor = behind z.bounds } = (let p = w.1 in cc) in
            (omega (arith, w.0, g.0), omega (arith, ap (λ (u : Due). u.len) e, g.2.few));
        pool = omega (arith, w.2, ap length (claims_more zs z), length-append (all_claims zs) z.claims);
      }

  pub begun_ready : Begun (decode b) x t
  begun_ready = begun_is (decode b) r.sofar x t is_sound r.stands r.table

  module _ (p : Result (Option declared.Next) Refusal) (t' : List ℕ) (w : Took (look (decode b) s at r.sofar) r.sofar p t t') where
    pub turn_next : (n : declared.Next) → p ≡ Ok (Some n) → (at < n.at) × (n.at ≤ length s) × ReadingAt b s n.at n.sofar t'
    turn_next n e = go (look (decode b) s at r.sofar) refl w
      where
        go : (u : Met Entry) → look (decode b) s at r.sofar ≡ u → Took u r.sofar p t t' → (at < n.at) × (n.at ≤ length s) × ReadingAt b s n.at n.sofar t'
        go closed q v = let a = v.0 in nonsense (cc)
        go (wrong k i) q v = let a = v.1 in nonsense (cc)
        go (next y i) q v =
            let a = v.1 in
            let f : record { at = i; sofar = v.0 } ≡ n = cc in
            let q₁ = q ∙ ap (next y) (ap (λ (z : declared.Next). z.at) f) in
            let l = look_next (decode b) s at r.model.right r.sofar y n.at q₁ in (
              l.0,
              l.1,
              record {
                model = r.model;
                short = r.short;
                sofar = put r.sofar y;
                reading = reading_more (row (decode b)) (lawful (decode b) r.model.right) (λ s at x w k e. look_next (decode b) s at r.model.right x w k e) s at r.sofar r.reading y n.at q₁;
                stands = subst (λ (z : declared.Next). Stands (put r.sofar y) z.sofar) f v.2;
                table = v.3;
                pool = pool_more (decode b) r.model.right s at r.sofar y n.at (good r.sofar is_sound) r.reading.within q₁ r.pool;
              },
            )

    pub turn_end : p ≡ Ok None → meant (Ok tt) t' ≡ stored (read (row (decode b)) s)
    unfolding stored
    turn_end e = go (look (decode b) s at r.sofar) refl w
      where
        go : (u : Met Entry) → look (decode b) s at r.sofar ≡ u → Took u r.sofar p t t' → meant (Ok tt) t' ≡ stored (read (row (decode b)) s)
        go (next y i) q v = let a = v.1 in nonsense (cc)
        go (wrong n i) q v = let a = v.1 in nonsense (cc)
        go closed q v =
            let d = reading_closed (row (decode b)) (lawful (decode b) r.model.right) (λ s at x w k e. look_next (decode b) s at r.model.right x w k e) s at r.sofar r.reading q in
            rw d (ap done (v.1 ∙ r.table))

    pub turn_fault : (e : Refusal) → p ≡ Err e → meant (Err e) t' ≡ stored (read (row (decode b)) s)
    unfolding stored
    turn_fault e q = go (look (decode b) s at r.sofar) refl w
      where
        go : (l : Met Entry) → look (decode b) s at r.sofar ≡ l → Took l r.sofar p t t' → meant (Err e) t' ≡ stored (read (row (decode b)) s)
        go (next y j) f v = let a = v.1 in nonsense (cc)
        go closed f v = let a = v.0 in nonsense (cc)
        go (wrong n j) f v =
            let a = v.1 in
            let g : v.0 ≡ e = cc in
            let d = reading_wrong (row (decode b)) (lawful (decode b) r.model.right) (λ s at x w k e. look_next (decode b) s at r.model.right x w k e) s at r.sofar r.reading n j f in
            rw (d, v.2, v.3, g)

-- ---- the reader as it is called

pub answered_refused : (n : ℕ) (a : Answer (List ℕ)) (t : List ℕ) (b : Reason) (p : ℕ) (e : Refusal) → e ≡ record { reason = b; place = p } → a ≡ refused (number_of b) p → t ≡ replicate n 0 → Answered n a (Err e) t
unfolding left
answered_refused n a t b p e q f z = rw (f, q) (record { answer = refl; table = z })

-- what was read, or a refusal behind which the table is cleared
module _ (n : ℕ) (a b : Answer (List ℕ)) (e : a ≡ b) where
  pub answered_ok : (r : Result (Unit {0}) Refusal) (t : List ℕ) → meant r t ≡ b → is_err r ≡ false → Answered n a r t
  unfolding left
  answered_ok (Ok u) t q f = rw (e, sym q) (record { answer = refl; table = refl })
  answered_ok (Err g) t q f = nonsense (cc)

  pub answered_err : (r : Result (Unit {0}) Refusal) (t t' : List ℕ) → meant r t ≡ b → is_err r ≡ true → t' ≡ replicate n 0 → Answered n a r t'
  unfolding left
  answered_err (Ok u) t t' q f z = nonsense (cc)
  answered_err (Err g) t t' q f z = rw (e, sym q) (record { answer = refl; table = z })

module _ (m : Model) (n : ℕ) (s : List ℕ) where
  pub read_room : (n ≡ size → ⊥) → read_proposal true m n s ≡ refused wrong_room 0
  unfolding read_proposal
  read_room h = rw (ne_eqb n size h)

  pub read_long : n ≡ size → text_most < length s → read_proposal true m n s ≡ refused too_long text_most
  unfolding read_proposal whole_text stored
  read_long h l = rw (eq-eqb n size h, lt-ltb text_most (length s) l)

  pub read_stop : (p : ℕ) → n ≡ size → length s ≤ text_most → p ≡ first_stop s → p < length s → read_proposal true m n s ≡ refused comma_or_stop p
  unfolding read_proposal whole_text stored
  read_stop p h l e k = rw (eq-eqb n size h, le-ltb text_most (length s) l, sym e, lt-ltb p (length s) k)

  pub read_rest : (p : ℕ) → n ≡ size → length s ≤ text_most → p ≡ first_stop s → length s ≤ p → read_proposal true m n s ≡ stored (read (row m) s)
  unfolding read_proposal whole_text
  read_rest p h l e k = rw (eq-eqb n size h, le-ltb text_most (length s) l, sym e, le-ltb p (length s) k)

-- a model's table that no text gives
pub read_no_model : (m : Model) (n : ℕ) (s : List ℕ) → read_proposal false m n s ≡ refused not_proper 0
unfolding read_proposal
read_no_model m n s = refl
