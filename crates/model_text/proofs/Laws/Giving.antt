-- Whether a text gives the table, told by writing it and reading it back.
-- Assumes nothing.
use Prim.Native.Nat.{ℕ, ◌+◌, ◌≤◌, ◌<◌}
use mathlib.Core.Path.{◌≡◌, refl, sym, ap, ◌∙◌}
use mathlib.Core.List.{List, ◌++◌}
use mathlib.Core.Bool.{true, false}
use native.Mathlib.Omega.{arith}
use lib.ListN.{length, take, drop}
use lib.Seq.{sets, sets-eq, take-append_seam}
use Rattle.std.proofs.Common.{Some, None, Result, Ok, Err}
use Rattle.std.specs.Result.{is_ok}
use Rattle.meaning.specs.Text.Records.{done, write}
use Rattle.meaning.specs.Text.ModelTable.{size}
use Rattle.meaning.specs.Text.ModelReader.{format, read_model}
use Rattle.meaning.proofs.Text.Choices.{nonsense}
use Rattle.meaning.proofs.Text.ModelTheorems.{write_then_read, given_text, given_length_lem}
use Rattle.lines.specs.Put.{Put}
use Rattle.refusals.specs.declared.Reason.TheVariants.{NotProper, WrongRoom}
use Rattle.refusals.specs.declared.Refusal.{Refusal}
use Rattle.model_text.specs.Meant.{meant, Answered, LengthOf, WroteModel}

-- the bytes of a text that was written
pub put_take : (b xs b' : List ℕ) (n : ℕ) → length xs ≤ length b → Put b 0 xs b' n → take n b' ≡ xs
put_take b xs b' n h p =
    let e : n ≡ length xs = (let z = p.next in omega arith) in
    ap (λ (l : List ℕ). take n l) (p.text ∙ sets-eq xs b 0 (omega arith)) ∙ ap (λ (k : ℕ). take k (xs ++ drop (0 + length xs) b)) e ∙ take-append_seam xs (drop (0 + length xs) b)

pub put_length : (b xs b' : List ℕ) (n : ℕ) → length xs ≤ length b → length b' ≡ length b → Put b 0 xs b' n → n ≡ length (take n b')
put_length b xs b' n h l p = (let z = p.next in let e : n ≡ length xs = omega arith in e) ∙ sym (ap length (put_take b xs b' n h p))

module _ (t again : List ℕ) (r : Result (Unit {0}) Refusal) (a : Answered size (read_model size (write format t)) r again) where
  -- the text is refused, or gives another table
  pub length_refused : is_ok r ≡ false → LengthOf t None
  length_refused e = go r a.answer e
    where
      go : (r : Result (Unit {0}) Refusal) → meant r again ≡ read_model size (write format t) → is_ok r ≡ false → LengthOf t None
      go (Ok x) e f = nonsense (cc)
      go (Err x) e f = record { none = λ z g. nonsense (let d = write_then_read t g in cc); some = λ n z. nonsense (cc) }

  done_again : is_ok r ≡ true → read_model size (write format t) ≡ done again
  done_again e = go r a.answer e
    where
      go : (r : Result (Unit {0}) Refusal) → meant r again ≡ read_model size (write format t) → is_ok r ≡ true → read_model size (write format t) ≡ done again
      go (Ok x) e f = sym e
      go (Err x) e f = nonsense (cc)

  pub length_other : is_ok r ≡ true → (t ≡ again → ⊥) → LengthOf t None
  length_other e n =
      record { none = λ z g. absurd (n (let d = write_then_read t g in let f = done_again e in cc)); some = λ n z. nonsense (cc) }

  pub length_same : (n : ℕ) → is_ok r ≡ true → t ≡ again → n ≡ length (write format t) → LengthOf t (Some n)
  length_same n e s l =
      record { none = λ z g. nonsense (cc); some = λ m z. (done_again e ∙ ap done (sym s), (let f : n ≡ m = cc in sym f ∙ l)) }

-- ---- what the writer answers

-- a table of another size is given by no text
pub length_size : (t : List ℕ) → (length t ≡ size → ⊥) → LengthOf t None
length_size t n = record { none = λ z g. n (given_length_lem t g); some = λ n z. nonsense (cc) }

pub wrote_none : (t b : List ℕ) → LengthOf t None → WroteModel t b (Err (record { reason = NotProper; place = 0 })) b
wrote_none t b l =
    record {
      none = λ g. (refl, refl);
      short = λ s e h. absurd (l.none refl (record { text = s; reads = e }));
      text = λ s e h. absurd (l.none refl (record { text = s; reads = e }));
    }

pub wrote_short : (t b : List ℕ) (n : ℕ) → LengthOf t (Some n) → length b < n → WroteModel t b (Err (record { reason = WrongRoom; place = 0 })) b
wrote_short t b n l h =
    let w = l.some n refl in
    record {
      none = λ g. absurd (g (record { text = write format t; reads = w.0 }));
      short = λ s e k. (refl, refl);
      text = λ s e k. absurd (let q = ap length (given_text s t e) in omega (arith, w.1));
    }

pub wrote_text : (t b b' : List ℕ) (n m : ℕ) → LengthOf t (Some n) → n ≤ length b → Put b 0 (write format t) b' m → WroteModel t b (Ok n) b'
wrote_text t b b' n m l h p =
    let w = l.some n refl in
    record {
      none = λ g. absurd (g (record { text = write format t; reads = w.0 }));
      short = λ s e k. absurd (let q = ap length (given_text s t e) in omega (arith, w.1));
      text = λ s e k. (
          let q = given_text s t e in
          (ap done (w.1 ∙ ap length (sym q)), p.text ∙ ap (sets b 0) (sym q)));
    }
