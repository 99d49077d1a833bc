-- One record: a law for each way out.
-- Assumes nothing.
use Prim.Native.Nat.{ℕ, zero, suc, ◌+◌, ◌-◌, ◌≤◌, ◌<◌}
use mathlib.Core.Path.{◌≡◌, refl, sym, ap, ◌∙◌, subst}
use mathlib.Core.List.{List, [], ◌∷◌, map}
use mathlib.Core.Bool.{true, false}
use native.Mathlib.Omega.{arith}
use native.Mathlib.Numerals.{add-one}
use lib.ListN.{length, get_or, set, take, drop, length-map, length-drop, length-take}
use lib.Seq.{sets, take_all}
use borrow.Author.Tests.{lt-ltb, le-ltb, lt-leb, le-leb}
use Rattle.std.proofs.Common.{Ok, Err}
use Rattle.std.proofs.lemmas.List.{map_more}
use Rattle.meaning.specs.Text.Ranges.{clocks_most, time_most, prio_most}
use Rattle.meaning.specs.Text.Refusals.{mark_not_here, too_many, not_rising}
use Rattle.meaning.specs.Text.Numerals.{too_large}
use Rattle.meaning.specs.Text.Lines as lines
use Rattle.meaning.specs.Text.Lines.{between, Fields, ok, bad, out, fields}
use Rattle.meaning.specs.Text.Records.{rec, end, fault}
use Rattle.meaning.specs.Text.ModelText as meaning
use Rattle.meaning.specs.Text.ModelText.{tk, other, form}
use Rattle.meaning.specs.Text.ModelTable.{size, clocks}
use Rattle.meaning.specs.Text.ModelReader.{mark_of, rule, cells, judge, look_for, look}
use Rattle.meaning.proofs.Text.Choices.{nonsense}
use Rattle.meaning.proofs.Text.LineLaws.{Within, Tame, belows, fields_inv}
use Rattle.meaning.proofs.Text.WriteLaws.{sets_append}
use Rattle.meaning.proofs.Text.ModelLaws.{tame, fits, by_three, below_is}
use Rattle.refusals.specs.declared.Reason.{Reason}
use Rattle.refusals.specs.declared.Reason.TheVariants.{TooLong, CommaOrStop, MarkNotHere, TooMany, BrokenLine, OutOfRange, WorkOverDeadline, WrongPriority, NotRising, WrongClaims, NotProper, WrongRoom, NotAllowed, ClockEnd}
use Rattle.refusals.specs.declared.Refusal.{Refusal}
use Rattle.refusals.specs.Number.{number_of}
use Rattle.lines.specs.Meant.{no_numbers, Told}
use Rattle.lines.specs.declared.fields.Line.{Line}
use Rattle.model_text.specs.declared.marks.Mark.{Mark}
use Rattle.model_text.specs.declared.marks.Mark.TheVariants.{Policy, Clocks, Task, Location, Limit, Edge, Bound, Reset, End}
use Rattle.model_text.specs.Marks.{kind_of}
use Rattle.model_text.specs.Entered.{MayStand, entered, Enters}

-- ---- what the line came to

pub told_err : (x : Fields) (e : Refusal) (q : meaning.Mark) (s : List ℕ) (at i : ℕ) (m : List ℕ) → Told x (Err e) → judge q s at i m x ≡ fault (number_of e.reason) e.place
unfolding judge
told_err (ok v n) e q s at i m t = nonsense (cc)
told_err (bad p) e q s at i m t = let z : e ≡ record { reason = BrokenLine; place = p } = cc in rw z
told_err (out p) e q s at i m t = let z : e ≡ record { reason = OutOfRange; place = p } = cc in rw z

pub told_ok : (x : Fields) (l : Line) → Told x (Ok l) → (v : List ℕ) × (x ≡ ok v l.at) × (l.numbers ≡ sets no_numbers 0 v)
told_ok (ok v n) l t = let z : l ≡ record { at = n; numbers = sets no_numbers 0 v } = cc in (v, rw z, rw z)
told_ok (bad p) l t = nonsense (cc)
told_ok (out p) l t = nonsense (cc)

module _ (q : meaning.Mark) (s : List ℕ) (at i : ℕ) (m : List ℕ) where
  look_not_due : (rule q m).due ≡ false → look_for q s at i m ≡ fault mark_not_here at
  unfolding look_for
  look_not_due d = rw d

  look_late : (rule q m).due ≡ true → (rule q m).latest < i → look_for q s at i m ≡ fault mark_not_here at
  unfolding look_for
  look_late d l = rw (d, lt-leb i (rule q m).latest l)

  look_full : (rule q m).due ≡ true → i ≤ (rule q m).latest → (rule q m).room ≡ false → look_for q s at i m ≡ fault too_many at
  unfolding look_for
  look_full d l r = rw (d, le-leb i (rule q m).latest l, r)

  look_judge : (rule q m).due ≡ true → i ≤ (rule q m).latest → (rule q m).room ≡ true → look_for q s at i m ≡ judge q s at i m (fields (rule q m).ends s (at + 2))
  unfolding look_for
  look_judge d l r = rw (d, le-leb i (rule q m).latest l, r)

-- ---- the cells of a record, stored one after another

pub store_more : (t₀ t v : List ℕ) (j i : ℕ) → i < length v → t ≡ sets t₀ j (map suc (take i v)) → set t (j + i) (get_or v i 0 + 1) ≡ sets t₀ j (map suc (take (i + 1) v))
store_more t₀ t v j i h e =
    let n : j + i ≡ j + length (map suc (take i v)) = omega (arith, length-map (take i v) suc, length-take i v) in
    rw (map_more suc v i 0 h, sets_append, ← e, ← n, add-one)

-- what stands behind the keys
pub rest : (v : List ℕ) (k : ℕ) → take (length v - k) (drop k v) ≡ drop k v
rest v k = take_all (length v - k) (drop k v) (omega (arith, length-drop k v))

-- ---- 3, then 10

module _ (s : List ℕ) (at i : ℕ) (m : List ℕ) where
  look_as : (q : meaning.Mark) → q ≡ mark_of (get_or s at 0) (get_or s (at + 1) 0) → look s at i m ≡ look_for q s at i m
  unfolding look
  look_as q e = ap (λ (x : meaning.Mark). look_for x s at i m) (sym e)

  pub stands_none : other ≡ mark_of (get_or s at 0) (get_or s (at + 1) 0) → look s at i m ≡ fault mark_not_here at
  unfolding rule
  stands_none e = look_as other e ∙ look_not_due other s at i m refl

  module _ (q : Mark) (e : kind_of q ≡ mark_of (get_or s at 0) (get_or s (at + 1) 0)) where
    pub stands_not_due : (rule (kind_of q) m).due ≡ false → look s at i m ≡ fault mark_not_here at
    stands_not_due d = look_as (kind_of q) e ∙ look_not_due (kind_of q) s at i m d

    pub stands_late : (last : ℕ) → (rule (kind_of q) m).due ≡ true → last ≡ (rule (kind_of q) m).latest → last < i → look s at i m ≡ fault mark_not_here at
    stands_late last d l h = look_as (kind_of q) e ∙ look_late (kind_of q) s at i m d (omega arith)

    pub stands_full : (last : ℕ) → (rule (kind_of q) m).due ≡ true → last ≡ (rule (kind_of q) m).latest → i ≤ last → (rule (kind_of q) m).room ≡ false → look s at i m ≡ fault too_many at
    stands_full last d l h r = look_as (kind_of q) e ∙ look_full (kind_of q) s at i m d (omega arith) r

  pub judged : (q : Mark) → MayStand s at i m (Ok q) → look s at i m ≡ judge (kind_of q) s at i m (fields (rule (kind_of q) m).ends s (at + 2))
  judged q w = look_as (kind_of q) (sym w.0) ∙ look_judge (kind_of q) s at i m w.1 w.2 w.3

-- ---- the last record

module _ (q : Mark) (e : q ≡ End) (s : List ℕ) (at i : ℕ) (m : List ℕ) (v : List ℕ) (next : ℕ) where
  pub judge_more : next < length s → judge (kind_of q) s at i m (ok v next) ≡ fault mark_not_here next
  unfolding judge form
  judge_more l = rw (e, lt-ltb next (length s) l)

  pub judge_end : length s ≤ next → judge (kind_of q) s at i m (ok v next) ≡ end
  unfolding judge form
  judge_end l = rw (e, le-ltb next (length s) l)

-- ---- a record that goes on

goes_on : (q : Mark) → (q ≡ End → ⊥) → (form (kind_of q)).closes ≡ false
unfolding form
goes_on Policy n = refl
goes_on Clocks n = refl
goes_on Task n = refl
goes_on Location n = refl
goes_on Limit n = refl
goes_on Edge n = refl
goes_on Bound n = refl
goes_on Reset n = refl
goes_on End n = absurd (n refl)

within_length : (es : List lines.Range) (vs : List ℕ) → Within es vs → length vs ≡ length (belows es)
within_length [] [] w = refl
within_length [] (v ∷ vs) w = absurd w
within_length (e ∷ es) [] w = absurd w
within_length (e ∷ es) (v ∷ vs) w = ap suc (within_length es vs w.2)

within_small : (es : List lines.Range) (vs : List ℕ) → Tame es → Within es vs → (k : ℕ) → get_or vs k 0 ≤ too_large
within_small [] [] t w k = omega arith
within_small [] (v ∷ vs) t w k = absurd w
within_small (e ∷ es) [] t w k = absurd w
within_small (e ∷ es) (v ∷ vs) t w zero = omega arith
within_small (e ∷ es) (v ∷ vs) t w (suc k) = within_small es vs t.2 w.2 k

prio_few : (m v : List ℕ) → Within (rule tk m).ends v → get_or v 2 0 ≤ prio_most
unfolding rule
prio_few m v w = by_three (λ (l : List ℕ). get_or l 2 0 ≤ prio_most) (between 1 time_most) (between 1 time_most) (between 0 prio_most) v w (λ a b c _ _ _ _ _ h. h)

cells_length : (q : meaning.Mark) (v : List ℕ) → length (cells q v) ≡ length v - (form q).keys
unfolding cells
cells_length q v = simp (length-map, length-drop)

-- the first numbers of the array are those that were read
take_pad : (vs : List ℕ) (n : ℕ) → n ≡ length vs → n ≤ 3 → take n (sets no_numbers 0 vs) ≡ vs
take_pad [] n e h = rw e
take_pad (a ∷ []) n e h = rw e
take_pad (a ∷ b ∷ []) n e h = rw e
take_pad (a ∷ b ∷ c ∷ []) n e h = rw e
take_pad (a ∷ b ∷ c ∷ d ∷ vs) n e h = absurd (omega arith)

-- a record that goes on, whose line was read
pub record Line-read (q : Mark) (m s : List ℕ) (at : ℕ) (v : List ℕ) (next : ℕ) : Type 0 where
  pub long : length m ≡ size
  pub few : clocks m ≤ clocks_most
  pub room : (rule (kind_of q) m).room ≡ true
  pub goes : q ≡ End → ⊥
  pub line : fields (rule (kind_of q) m).ends s at ≡ ok v next

module _ (q : Mark) (m s : List ℕ) (at : ℕ) (v : List ℕ) (next : ℕ) (r : Line-read q m s at v next) where
  in_ranges : Within (rule (kind_of q) m).ends v
  in_ranges = (fields_inv (rule (kind_of q) m).ends s at v next (tame (kind_of q) m r.few) r.line).0

  as_many : length v ≡ length (form (kind_of q)).below
  as_many = within_length (rule (kind_of q) m).ends v in_ranges ∙ ap length (below_is (kind_of q) m)

  pub numbers_are : (numbers : List ℕ) (n : ℕ) → numbers ≡ sets no_numbers 0 v → n ≡ length (form (kind_of q)).below → n ≤ 3 → take n numbers ≡ v
  numbers_are numbers n e h l = ap (take n) e ∙ take_pad v n (h ∙ sym as_many) l

  pub enters : Enters q m v
  enters =
      let f = fits (kind_of q) m v (goes_on q r.goes) r.room r.few in_ranges in
      record {
        long = r.long;
        many = as_many;
        small = within_small (rule (kind_of q) m).ends v (tame (kind_of q) m r.few) in_ranges;
        prio = λ z. prio_few m v (subst (λ (x : Mark). Within (rule (kind_of x) m).ends v) z in_ranges);
        inside = omega (arith, f.inside, f.many, cells_length (kind_of q) v);
      }

  pub judge_as : (i p : ℕ) → judge (kind_of q) s p i m (ok v next) ≡ entered (kind_of q) p i m v next
  unfolding judge entered
  judge_as i p = rw (goes_on q r.goes)

some_number : (r : Reason) → 0 < number_of r
some_number TooLong = omega arith
some_number CommaOrStop = omega arith
some_number MarkNotHere = omega arith
some_number TooMany = omega arith
some_number BrokenLine = omega arith
some_number OutOfRange = omega arith
some_number WorkOverDeadline = omega arith
some_number WrongPriority = omega arith
some_number NotRising = omega arith
some_number WrongClaims = omega arith
some_number NotProper = omega arith
some_number WrongRoom = omega arith
some_number NotAllowed = omega arith
some_number ClockEnd = omega arith

module _ (q : meaning.Mark) (at i : ℕ) (m v : List ℕ) (next : ℕ) where
  pub entered_wrong : (r : Reason) → number_of r ≡ (rule q m).wrong v → entered q at i m v next ≡ fault (number_of r) at
  unfolding entered
  entered_wrong r e = rw (lt-ltb 0 ((rule q m).wrong v) (rw (← e) (some_number r)), sym e)

  pub entered_low : (j : ℕ) → 0 ≡ (rule q m).wrong v → j ≡ (rule q m).slot v → j < i → entered q at i m v next ≡ fault not_rising at
  unfolding entered
  entered_low j e f l = rw (le-ltb 0 ((rule q m).wrong v) (omega arith), lt-ltb ((rule q m).slot v) i (omega arith))

  pub entered_in : (j k : ℕ) → 0 ≡ (rule q m).wrong v → j ≡ (rule q m).slot v → i ≤ j → k ≡ (form q).keys → entered q at i m v next ≡ rec j (map suc (drop k v)) next
  unfolding entered cells
  entered_in j k e f l g = rw (le-ltb 0 ((rule q m).wrong v) (omega arith), le-ltb ((rule q m).slot v) i (omega arith), sym f, sym g)

pub ruleset entered_laws = (entered_wrong, entered_low, entered_in, rest)
