-- What a record's answer tells of the record, and the reader's answer for each case.
-- Assumes nothing.
use Prim.Native.Nat.{ℕ, suc, ◌≤◌, ◌<◌}
use mathlib.Core.Path.{◌≡◌, refl, sym}
use mathlib.Core.List.{List}
use native.Mathlib.Omega.{arith}
use lib.ListN.{length, replicate}
use mathlib.Core.Bool.{true, false}
use Rattle.std.specs.Result.{is_err}
use borrow.Author.Tests.{eq-eqb, ne_eqb, lt-ltb, le-ltb}
use Rattle.std.proofs.Common.{Some, None, Result, Ok, Err}
use Rattle.meaning.specs.Text.Ranges.{text_most}
use Rattle.meaning.specs.Text.Refusals.{too_long, comma_or_stop, wrong_room}
use Rattle.meaning.specs.Text.Records.{Seen, rec, end, fault, Answer, done, refused, read, first_stop, whole_text}
use Rattle.meaning.specs.Text.ModelTable.{size}
use Rattle.meaning.specs.Text.ModelReader.{format, read_model, left, look}
use Rattle.meaning.proofs.Text.Choices.{nonsense}
use Rattle.meaning.proofs.Text.ModelLoop.{Reading, reading_first, rec_next, reading_more, reading_end, reading_fault}
use Rattle.refusals.specs.declared.Refusal.{Refusal}
use Rattle.refusals.specs.Number.{number_of}
use Rattle.model_text.specs.declared.records.Place.{Place}
use Rattle.model_text.specs.Meant.{Stepped, meant, Answered}

-- before the first record
pub reading_start : (s t : List ℕ) → t ≡ replicate size 0 → Reading s 0 0 t
reading_start s t e = rw e (reading_first s)

module _ (s : List ℕ) (p : Place) (t t' : List ℕ) (r : Reading s p.at p.cursor t) where
  -- a record: the reading goes on behind it
  pub stepped_next : (x : Seen (List ℕ)) (n : Place) → look s p.at p.cursor t ≡ x → Stepped x (Ok (Some n)) t t' → (p.at < n.at) × (n.at ≤ length s) × Reading s n.at n.cursor t'
  stepped_next (rec j v next) n e w =
      let a : n.at ≡ next = cc in
      let b : n.cursor ≡ suc j = cc in
      let h = rec_next s p.at p.cursor t j v next e in
      (omega (arith, h), omega (arith, h), rw (a, b, w.1) (reading_more s p.at p.cursor t r j v next e))
  stepped_next end n e w = nonsense (cc)
  stepped_next (fault k q) n e w = absurd w.0

  -- the last record
  pub stepped_end : (x : Seen (List ℕ)) → look s p.at p.cursor t ≡ x → Stepped x (Ok None) t t' → done t' ≡ read format s
  stepped_end (rec j v next) e w = nonsense (cc)
  stepped_end end e w = rw w.1 (sym (reading_end s p.at p.cursor t r e))
  stepped_end (fault k q) e w = absurd w.0

  -- a refusal
  pub stepped_fault : (x : Seen (List ℕ)) (f : Refusal) → look s p.at p.cursor t ≡ x → Stepped x (Err f) t t' → refused (number_of f.reason) f.place ≡ read format s
  stepped_fault (rec j v next) f e w = nonsense (cc)
  stepped_fault end f e w = nonsense (cc)
  stepped_fault (fault k q) f e w = rw (w.0.0, w.0.1) (sym (reading_fault s p.at p.cursor t r k q e))

-- ---- the reader's answer

pub answered_err : (n : ℕ) (a : Answer (List ℕ)) (t : List ℕ) (f : Refusal) → a ≡ refused (number_of f.reason) f.place → t ≡ replicate n 0 → Answered n a (Err f) t
unfolding left
answered_err n a t f e z = rw e (record { answer = refl; table = z })

-- a table that was cleared after a refusal, and one that was read
pub answered_failed : (n : ℕ) (a : Answer (List ℕ)) (r : Result (Unit {0}) Refusal) (t t' : List ℕ) → meant r t ≡ a → is_err r ≡ true → t' ≡ replicate n 0 → Answered n a r t'
unfolding left
answered_failed n a (Ok x) t t' e f z = nonsense (cc)
answered_failed n a (Err x) t t' e f z = rw (← e) (record { answer = refl; table = z })

pub answered_read : (n : ℕ) (a : Answer (List ℕ)) (r : Result (Unit {0}) Refusal) (t : List ℕ) → meant r t ≡ a → is_err r ≡ false → Answered n a r t
unfolding left
answered_read n a (Ok x) t e f = rw (← e) (record { answer = refl; table = refl })
answered_read n a (Err x) t e f = nonsense (cc)

module _ (n : ℕ) (s : List ℕ) where
  pub read_room : (n ≡ size → ⊥) → read_model n s ≡ refused wrong_room 0
  unfolding read_model
  read_room h = rw (ne_eqb n size h)

  pub read_long : n ≡ size → text_most < length s → read_model n s ≡ refused too_long text_most
  unfolding read_model whole_text
  read_long h l = rw (eq-eqb n size h, lt-ltb text_most (length s) l)

  pub read_stop : (p : ℕ) → n ≡ size → length s ≤ text_most → p ≡ first_stop s → p < length s → read_model n s ≡ refused comma_or_stop p
  unfolding read_model whole_text
  read_stop p h l e k = rw (eq-eqb n size h, le-ltb text_most (length s) l, sym e, lt-ltb p (length s) k)

  pub read_rest : (p : ℕ) → n ≡ size → length s ≤ text_most → p ≡ first_stop s → length s ≤ p → read_model n s ≡ read format s
  unfolding read_model whole_text
  read_rest p h l e k = rw (eq-eqb n size h, le-ltb text_most (length s) l, sym e, le-ltb p (length s) k)
