-- Laws of the printed line: its fields one after another, and how long it may be.
-- Assumes nothing.
use Prim.Native.Nat.{ℕ, zero, suc, ◌+◌, ◌*◌, ◌/◌, ◌-◌, ◌≤◌, ◌<◌, min}
use mathlib.Core.Path.{◌≡◌, refl, sym, ap, ◌∙◌}
use mathlib.Core.List.{List, [], ◌∷◌, ◌++◌, append_assoc}
use native.Mathlib.Omega.{arith}
use native.Mathlib.Numerals.{add-one}
use lib.ListN.{length, get_or, take, drop, length-append}
use lib.Seq.{sets, take-suc, take_all, sets-eq, take_at}
use Rattle.meaning.specs.Text.Numerals.{dec_f}
use Rattle.meaning.specs.Text.Records.{done}
use Rattle.meaning.proofs.Text.Choices.{by_lt}
use Rattle.meaning.proofs.Text.WriteLaws.{dec_f_none, dec_f_last, length_then}
use Rattle.std.specs.Prelude.{Ok, Err}
use Rattle.refusals.specs.declared.Reason.TheVariants.{WrongRoom}
use Rattle.lines.specs.Put.{Put}
use Rattle.lines.proofs.Laws.Putting.{put_then}
use Rattle.machine.specs.declared.Job.{Job}
use Rattle.console.specs.Line.{spaced, job_numbers, line_of}
use Rattle.console.specs.Wrote.{WroteLine}
use Rattle.console.specs.declared.told.Told.{Told}

-- ---- how long

some_left : (k : ℕ) → suc k ≡ 0 → ⊥
some_left k e = let z : ◌≡◌ {A = ℕ} 0 1 = omega (arith, e) in absurd (omega arith)

pub digits_short : (k v : ℕ) → length (dec_f k v) ≤ k
digits_short zero v = let e = ap length (dec_f_none 0 v refl) in omega (arith, e)
digits_short (suc k) v =
    by_lt v 10
    (λ h. let e = ap length (dec_f_last (suc k) v (some_left k) h) in omega (arith, e))
    (λ h. let e = length_then (suc k) v (some_left k) h in
    let z : suc k - 1 ≡ k = omega arith in
    let f : length (dec_f (suc k - 1) (v / 10)) ≤ k = rw z (digits_short k (v / 10)) in
    omega (arith, e, f))

pub spaced_short : (vs : List ℕ) → length (spaced vs) ≤ 21 * length vs
spaced_short [] = omega arith
spaced_short (v ∷ vs) = omega (arith, digits_short 20 v, spaced_short vs, length-append (dec_f 20 v) (spaced vs))

-- ---- one after another

pub spaced_append : (xs ys : List ℕ) → spaced (xs ++ ys) ≡ spaced xs ++ spaced ys
spaced_append [] ys = refl
spaced_append (x ∷ xs) ys = rw (spaced_append xs ys, append_assoc)

pub job_numbers_append : (xs ys : List Job) → job_numbers (xs ++ ys) ≡ job_numbers xs ++ job_numbers ys
job_numbers_append [] ys = refl
job_numbers_append (x ∷ xs) ys = rw (job_numbers_append xs ys)

module _ (b : List ℕ) (at : ℕ) where
  -- the place behind fields is not far
  pub fields_end : (vs b' : List ℕ) (r : ℕ) → Put b at (spaced vs) b' r → r ≤ at + 21 * length vs
  fields_end vs b' r p = omega (arith, p.next, spaced_short vs)

  pub field_end : (v : ℕ) (b' : List ℕ) (r : ℕ) → Put b at (spaced (v ∷ [])) b' r → r ≤ at + 21
  field_end v b' r p = omega (arith, fields_end (v ∷ []) b' r p)

  pub three_end : (x y z : ℕ) (b' : List ℕ) (r : ℕ) → Put b at (spaced (x ∷ y ∷ z ∷ [])) b' r → r ≤ at + 63
  three_end x y z b' r p = omega (arith, fields_end (x ∷ y ∷ z ∷ []) b' r p)

  -- fields after fields
  pub put_fields : (xs ys c d : List ℕ) (k l : ℕ) → Put b at (spaced xs) c k → Put c k (spaced ys) d l → Put b at (spaced (xs ++ ys)) d l
  put_fields xs ys c d k l p q = rw (spaced_append xs ys) (put_then b at (spaced xs) (spaced ys) c d k l p q)

-- ---- the first of a list

module _ {A : Type 0} (l : List A) where
  -- all of it, where it has no more
  pub take_over : (k n : ℕ) → length l ≤ k → k ≤ n → take n l ≡ take k l
  take_over k n h i = take_all n l (omega arith) ∙ sym (take_all k l h)

  pub take_more : (k : ℕ) (d : A) → k < length l → take (k + 1) l ≡ take k l ++ get_or l k d ∷ []
  take_more k d h = rw add-one (take-suc l k d h)

-- ---- the copy

module _ (b xs : List ℕ) where
  -- what was written at the beginning stands there
  pub written_front : length xs ≤ length b → take (length xs) (sets b 0 xs) ≡ xs
  written_front h = ap (take (length xs)) (sets-eq xs b 0 (omega arith)) ∙ take_at xs _ (length xs) refl

-- ---- the clocks and the jobs, one after another

take_short : {A : Type 0} (k : ℕ) (l : List A) → length (take k l) ≤ k
take_short zero l = omega arith
take_short (suc k) [] = omega arith
take_short (suc k) (x ∷ l) = omega (arith, take_short k l)

job_fields : (js : List Job) → length (job_numbers js) ≡ 3 * length js
job_fields [] = refl
job_fields (j ∷ js) = omega (arith, job_fields js)

-- the first n are the first k, where k is n or all there are
pub take_stop : {A : Type 0} (l : List A) (k n : ℕ) → k ≡ min n (length l) → take n l ≡ take k l
take_stop l k n e =
    by_lt n (length l)
    (λ h. let z : k ≡ n = omega (arith, e) in rw z)
    (λ h. let z : k ≡ length l = omega (arith, e) in take_over l k n (omega arith) (omega arith))

module _ (b : List ℕ) (at : ℕ) (l : List ℕ) (k : ℕ) (b₁ : List ℕ) (p : ℕ) (w : Put b at (spaced (take k l)) b₁ p) where
  -- one number more
  pub put_number : (b₂ : List ℕ) (r : ℕ) → k < length l → Put b₁ p (spaced (get_or l k 0 ∷ [])) b₂ r
      → record { put : Put b at (spaced (take (k + 1) l)) b₂ r; near : r ≤ at + 21 * (k + 1) }
  put_number b₂ r h v =
      let more : Put b at (spaced (take (k + 1) l)) b₂ r = rw (take_more l k 0 h) (put_fields b at (take k l) (get_or l k 0 ∷ []) b₁ b₂ p r w v) in
      record { put = more; near = omega (arith, fields_end b at (take (k + 1) l) b₂ r more, take_short (k + 1) l) }

module _ (b : List ℕ) (at : ℕ) (l : List Job) (k : ℕ) (b₁ : List ℕ) (p : ℕ) (w : Put b at (spaced (job_numbers (take k l))) b₁ p) where
  -- one job more
  pub put_job : (d : Job) (b₂ : List ℕ) (r : ℕ) → k < length l → Put b₁ p (spaced (job_numbers (get_or l k d ∷ []))) b₂ r
      → record { put : Put b at (spaced (job_numbers (take (k + 1) l))) b₂ r; near : r ≤ at + 63 * (k + 1) }
  put_job d b₂ r h v =
      let more : Put b at (spaced (job_numbers (take (k + 1) l))) b₂ r =
      rw (take_more l k d h, job_numbers_append (take k l) (get_or l k d ∷ []))
      (put_fields b at (job_numbers (take k l)) (job_numbers (get_or l k d ∷ [])) b₁ b₂ p r w v) in
      record { put = more; near = omega (arith, fields_end b at (job_numbers (take (k + 1) l)) b₂ r more, job_fields (take (k + 1) l), take_short (k + 1) l) }

-- ---- the answer and the lent buffer

module _ (x : Told) (b : List ℕ) (n : ℕ) where
  pub wrote_short : n ≡ 0 + length (line_of x) → length b < n → WroteLine x b (Err (record { reason = WrongRoom; place = 0 })) b
  wrote_short e h = record { short = λ l. (refl, refl); text = λ l. absurd (omega (arith, e)) }

  pub wrote_line : (room room' xs b' : List ℕ) → length (line_of x) ≤ length room → Put room 0 (line_of x) room' n → n ≤ length b
      → xs ≡ take n room' → b' ≡ xs ++ drop n b → WroteLine x b (Ok n) b'
  wrote_line room room' xs b' f p h e g =
      let z : n ≡ length (line_of x) = omega (arith, p.next) in
      let t : xs ≡ line_of x = e ∙ ap (λ (k : ℕ). take k room') z ∙ ap (take (length (line_of x))) p.text ∙ written_front room (line_of x) f in
      let same : xs ++ drop n b ≡ sets b 0 (line_of x) =
      rw (t, sets-eq (line_of x) b 0 (omega arith)) (ap (λ (k : ℕ). line_of x ++ drop k b) p.next) in
      record {
        short = λ l. absurd (omega arith);
        text = λ l. (ap done z, g ∙ same);
      }
