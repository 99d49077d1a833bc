-- The model text is lawful: what is read is what is written, both ways.
-- Assumes nothing.
use Prim.Native.Nat.{◌%◌, ◌*◌, ◌+◌, ◌-◌, ◌/◌, ◌<◌, ◌≤◌, suc, zero, ℕ}
use mathlib.Core.Bool.{Bool, ◌&&◌, false, true}
use mathlib.Core.List.{List, [], ◌++◌, ◌∷◌, map}
use mathlib.Core.Path.{◌∙◌, ◌≡◌, ap, refl, subst, sym}
use native.Mathlib.Omega.{arith}
use lib.Dec.{leb, ltb}
use lib.ListN.{get_or-eq_default, drop, drop_of_length-le, get_or, get_or-replicate, length, length-drop, length-replicate, replicate}
use lib.Seq.{length-sets, sets}
use borrow.Author.Tests.{le-leb, le-ltb, lt-ltb, ltb-false, ltb-true, ne_eqb}
use Rattle.meaning.proofs.Text.Choices.{and_true, by_eq, by_lt, by_pick, nonsense}
use Rattle.meaning.proofs.Text.LineLaws.{Tame, Within, belows, fields_inv, fields_read}
use Rattle.meaning.proofs.Text.ModelCells.{at_limit, at_location, at_task, count_le, in_edge, own_cell, owner, sets_first, sets_other, words_same, words_sets}
use Rattle.meaning.proofs.Text.Places.{here_head, here_mark, mark_here}
use Rattle.meaning.proofs.Text.RecordLaws.{Lawful, Proper, part, read_proper, read_write, write_read}
use Rattle.meaning.specs.Text.Choice.{pick}
use Rattle.meaning.specs.Text.Lines.{Fields, Range, around, bad, between, fields, fields_text, ok, out}
use Rattle.meaning.specs.Text.ModelReader.{cells, format, get, is_mark, is_none, judge, keys_at, line, line_of, look, look_for, mark_at, mark_in_edge, mark_of, rule, width, words}
use Rattle.meaning.specs.Text.ModelTable.{clocks, edges, locations, size, tasks, there}
use Rattle.meaning.specs.Text.ModelText.{Mark, ck, ed, en, form, gu, iv, lo, other, po, rs, tk}
use Rattle.meaning.specs.Text.Ranges.{policies_most, time_most}
use Rattle.meaning.specs.Text.Records.{done, end, read, rec, write}

-- ---- marks

pub bytes_mark : (q : Mark) → mark_of (form q).first (form q).second ≡ q
unfolding mark_of is_mark form
bytes_mark po = refl
bytes_mark ck = refl
bytes_mark tk = refl
bytes_mark lo = refl
bytes_mark iv = refl
bytes_mark ed = refl
bytes_mark gu = refl
bytes_mark rs = refl
bytes_mark en = refl
bytes_mark other = refl

mark_is : (a b : ℕ) (q : Mark) → mark_of a b ≡ q → (other ≡ q → ⊥) → is_mark q a b ≡ true
unfolding mark_of
mark_is a b q e n =
    by_pick (is_mark po a b) _ _ _ e (is po) (λ _ e. by_pick (is_mark ck a b) _ _ _ e (is ck) (λ _ e. by_pick (is_mark tk a b) _ _ _ e (is tk)
    (λ _ e. by_pick (is_mark lo a b) _ _ _ e (is lo) (λ _ e. by_pick (is_mark iv a b) _ _ _ e (is iv) (λ _ e. by_pick (is_mark ed a b) _ _ _ e (is ed)
    (λ _ e. by_pick (is_mark gu a b) _ _ _ e (is gu) (λ _ e. by_pick (is_mark rs a b) _ _ _ e (is rs) (λ _ e. by_pick (is_mark en a b) _ _ _ e (is en)
    (λ _ e. absurd (n e))))))))))
  where
    is : (p : Mark) → is_mark p a b ≡ true → p ≡ q → is_mark q a b ≡ true
    is p t e = subst (λ (x : Mark). is_mark x a b ≡ true) e t

-- what a mark that may stand somewhere tells
known : (q : Mark) (m : List ℕ) → (rule q m).due ≡ true → (0 < (form q).first) × (0 < (form q).second) × (other ≡ q → ⊥)
unfolding rule form
known po m e = (omega arith, omega arith, λ x. nonsense (cc))
known ck m e = (omega arith, omega arith, λ x. nonsense (cc))
known tk m e = (omega arith, omega arith, λ x. nonsense (cc))
known lo m e = (omega arith, omega arith, λ x. nonsense (cc))
known iv m e = (omega arith, omega arith, λ x. nonsense (cc))
known ed m e = (omega arith, omega arith, λ x. nonsense (cc))
known gu m e = (omega arith, omega arith, λ x. nonsense (cc))
known rs m e = (omega arith, omega arith, λ x. nonsense (cc))
known en m e = (omega arith, omega arith, λ x. nonsense (cc))
known other m e = nonsense (cc)

mark_inv : (q : Mark) (s : List ℕ) (at : ℕ) (m : List ℕ) → (rule q m).due ≡ true → mark_of (get_or s at 0) (get_or s (at + 1) 0) ≡ q
    → drop at s ≡ (form q).first ∷ (form q).second ∷ drop (at + 2) s
unfolding is_mark
mark_inv q s at m d e = let k = known q m d in mark_here s at (form q).first (form q).second k.0 k.1 (mark_is _ _ q e k.2)

mark_read : (q : Mark) (s : List ℕ) (at : ℕ) (l : List ℕ) → drop at s ≡ (form q).first ∷ (form q).second ∷ l
    → (mark_of (get_or s at 0) (get_or s (at + 1) 0) ≡ q) × (drop (at + 2) s ≡ l)
mark_read q s at l e =
    let h = here_mark s at (form q).first (form q).second l e in
    (rw (h.0, h.1) (bytes_mark q), h.2)

-- ---- ranges

pub tasks_le : (m : List ℕ) → tasks m ≤ 6
unfolding tasks
tasks_le m = count_le m 2 3 6

pub locations_le : (m : List ℕ) → locations m ≤ 16
unfolding locations
locations_le m = count_le m 20 5 16

pub edges_le : (m : List ℕ) → edges m ≤ 32
unfolding edges
edges_le m = count_le m 100 31 32

pub tame : (q : Mark) (m : List ℕ) → clocks m ≤ 4 → Tame (rule q m).ends
unfolding rule
tame po m h = omega arith
tame ck m h = omega arith
tame tk m h = omega arith
tame lo m h = omega (arith, tasks_le m)
tame iv m h = omega arith
tame ed m h = omega (arith, locations_le m)
tame gu m h = omega arith
tame rs m h = omega arith
tame en m h = tt
tame other m h = tt

pub below_is : (q : Mark) (m : List ℕ) → belows (rule q m).ends ≡ (form q).below
unfolding rule form
below_is po m = refl
below_is ck m = refl
below_is tk m = refl
below_is lo m = refl
below_is iv m = refl
below_is ed m = refl
below_is gu m = refl
below_is rs m = refl
below_is en m = refl
below_is other m = refl

-- ---- numbers within their ranges, and the slot and the cells that they go to

pub record Fits (q : Mark) (m v : List ℕ) : Type 0 where
  pub mark : mark_at ((rule q m).slot v) ≡ q
  pub told : keys_at q ((rule q m).slot v) ++ map (λ (x : ℕ). x - 1) (cells q v) ≡ v
  pub many : length (cells q v) ≡ width q
  pub some : 0 < get_or (cells q v) 0 0
  pub early : (rule q m).slot v ≤ (rule q m).latest
  pub inside : (rule q m).slot v + width q ≤ size

pub by_one : (P : List ℕ → Type 0) (e : Range) (v : List ℕ) → Within (e ∷ []) v → ((a : ℕ) → e.low ≤ a → a ≤ e.high → P (a ∷ [])) → P v
by_one P e [] w f = absurd w
by_one P e (a ∷ []) w f = f a w.0 w.1
by_one P e (a ∷ b ∷ v) w f = absurd w.2

pub by_two : (P : List ℕ → Type 0) (e f : Range) (v : List ℕ) → Within (e ∷ f ∷ []) v → ((a b : ℕ) → e.low ≤ a → a ≤ e.high → f.low ≤ b → b ≤ f.high → P (a ∷ b ∷ [])) → P v
by_two P e f [] w g = absurd w
by_two P e f (a ∷ v) w g = by_one (λ (r : List ℕ). P (a ∷ r)) f v w.2 (λ b x y. g a b w.0 w.1 x y)

pub by_three : (P : List ℕ → Type 0) (e f h : Range) (v : List ℕ) → Within (e ∷ f ∷ h ∷ []) v
    → ((a b c : ℕ) → e.low ≤ a → a ≤ e.high → f.low ≤ b → b ≤ f.high → h.low ≤ c → c ≤ h.high → P (a ∷ b ∷ c ∷ [])) → P v
by_three P e f h [] w g = absurd w
by_three P e f h (a ∷ v) w g = by_two (λ (r : List ℕ). P (a ∷ r)) f h v w.2 (λ b c x y z u. g a b c w.0 w.1 x y z u)

pub guard_in_lem : (r : ℕ) → 2 ≤ r → r < 27 → mark_in_edge r ≡ gu
unfolding mark_in_edge
guard_in_lem r a b = rw (ne_eqb r 0 (omega arith), ne_eqb r 1 (omega arith), lt-ltb r 27 b)

pub reset_in_lem : (r : ℕ) → 27 ≤ r → mark_in_edge r ≡ rs
unfolding mark_in_edge
reset_in_lem r a = rw (ne_eqb r 0 (omega arith), ne_eqb r 1 (omega arith), le-ltb r 27 a)

less : (a : ℕ) → suc a - 1 ≡ a
less a = omega arith

pub fits : (q : Mark) (m v : List ℕ) → (form q).closes ≡ false → (rule q m).room ≡ true → clocks m ≤ 4 → Within (rule q m).ends v → Fits q m v
unfolding rule form cells width keys_at mark_in_edge
fits po m v o r h w = by_one (Fits po m) (between 1 policies_most) v w (λ a x y.
    record { mark = (unfold mark_at in refl); told = rw (less a); many = refl; some = omega arith; early = omega arith; inside = omega arith })
fits ck m v o r h w = by_one (Fits ck m) (between 0 4) v w (λ a x y.
    record { mark = (unfold mark_at in refl); told = rw (less a); many = refl; some = omega arith; early = omega arith; inside = omega arith })
fits tk m v o r h w = by_three (Fits tk m) (between 1 time_most) (between 1 time_most) (between 0 6) v w (λ a b c x y x' y' x'' y''.
    let t = ltb-true (tasks m) 6 r in
    record { mark = at_task (tasks m) t; told = rw (less a, less b, less c); many = refl; some = omega arith; early = omega arith; inside = omega arith })
fits lo m v o r h w = by_one (Fits lo m) (between 0 (tasks m)) v w (λ a x y.
    let t = ltb-true (locations m) 16 r in
    record { mark = at_location (locations m) t; told = rw (less a); many = refl; some = omega arith; early = omega arith; inside = omega arith })
fits iv m v o r h w = by_two (Fits iv m) (between 1 (clocks m)) (between 0 time_most) v w (λ a b x y x' y'.
    let t = locations_le m in
    let k : (20 + 5 * (locations m - 1) + a - 20) % 5 ≡ a = omega arith in
    record { mark = at_limit (locations m - 1) a (omega arith) x (omega arith); told = rw (k, less b); many = refl; some = omega arith; early = omega arith; inside = omega arith })
fits ed m v o r h w = by_two (Fits ed m) (between 1 (locations m)) (between 1 (locations m)) v w (λ a b x y x' y'.
    let t = ltb-true (edges m) 32 r in
    let z : 100 + 31 * edges m ≡ 100 + 31 * edges m + 0 = omega arith in
    record { mark = ap mark_at z ∙ in_edge (edges m) 0 (omega arith); told = rw (less a, less b); many = refl; some = omega arith; early = omega arith; inside = omega arith })
fits gu m v o r h w = by_three (Fits gu m) (between 0 (clocks m)) (between 0 (clocks m)) (around time_most) v w (λ a b c x y x' y' x'' y''.
    let t = edges_le m in
    let z : 100 + 31 * (edges m - 1) + 2 + 5 * a + b ≡ 100 + 31 * (edges m - 1) + (2 + 5 * a + b) = omega arith in
    let n : (100 + 31 * (edges m - 1) + 2 + 5 * a + b - 100) % 31 ≡ 2 + 5 * a + b = omega arith in
    let k : (2 + 5 * a + b - 2) / 5 ≡ a = omega arith in
    let l : (2 + 5 * a + b - 2) % 5 ≡ b = omega arith in
    record {
      mark = ap mark_at z ∙ in_edge (edges m - 1) (2 + 5 * a + b) (omega arith) ∙ guard_in_lem (2 + 5 * a + b) (omega arith) (omega arith);
      told = rw (n, k, l, less c);
      many = refl;
      some = omega arith;
      early = omega arith;
      inside = omega arith;
    })
fits rs m v o r h w = by_one (Fits rs m) (between 1 (clocks m)) v w (λ a x y.
    let t = edges_le m in
    let z : 100 + 31 * (edges m - 1) + 26 + a ≡ 100 + 31 * (edges m - 1) + (26 + a) = omega arith in
    record {
      mark = ap mark_at z ∙ in_edge (edges m - 1) (26 + a) (omega arith) ∙ reset_in_lem (26 + a) (omega arith);
      told = rw (less a);
      many = refl;
      some = omega arith;
      early = omega arith;
      inside = omega arith;
    })
fits en m v o r h w = nonsense (cc)
fits other m v o r h w = nonsense (cc)

-- ---- what the reader keeps to

pub record Good (m : List ℕ) (i : ℕ) : Type 0 where
  pub long : length m ≡ size
  pub upto : i ≤ size
  pub few : clocks m ≤ 4

-- cells v in slot j are what some record gives after what is in m
pub record Ok (m : List ℕ) (j : ℕ) (v : List ℕ) : Type 0 where
  pub mark : Mark
  pub vals : List ℕ
  pub goes : (form mark).closes ≡ false
  pub due : (rule mark m).due ≡ true
  pub room : (rule mark m).room ≡ true
  pub within : Within (rule mark m).ends vals
  pub right : (rule mark m).wrong vals ≡ 0
  pub goal : (rule mark m).slot vals ≡ j
  pub held : cells mark vals ≡ v
  pub few : clocks m ≤ 4

-- the same for a mark that is known
pub record As (q : Mark) (m : List ℕ) (j : ℕ) (v : List ℕ) : Type 0 where
  pub vals : List ℕ
  pub due : (rule q m).due ≡ true
  pub room : (rule q m).room ≡ true
  pub within : Within (rule q m).ends vals
  pub right : (rule q m).wrong vals ≡ 0
  pub goal : (rule q m).slot vals ≡ j
  pub held : cells q vals ≡ v
  pub few : clocks m ≤ 4

width_some : (q : Mark) → (form q).closes ≡ false → 0 < width q
unfolding width form
width_some po e = omega arith
width_some ck e = omega arith
width_some tk e = omega arith
width_some lo e = omega arith
width_some iv e = omega arith
width_some ed e = omega arith
width_some gu e = omega arith
width_some rs e = omega arith
width_some en e = nonsense (cc)
width_some other e = nonsense (cc)

module _ (m : List ℕ) (j : ℕ) (v : List ℕ) (o : Ok m j v) where
  ok_fits : Fits o.mark m o.vals
  ok_fits = fits o.mark m o.vals o.goes o.room o.few o.within

  pub ok_mark : mark_at j ≡ o.mark
  ok_mark = ap mark_at (sym o.goal) ∙ ok_fits.mark

  pub ok_many : length v ≡ width (mark_at j)
  ok_many = ap length (sym o.held) ∙ ok_fits.many ∙ ap width (sym ok_mark)

  pub ok_inside : j + length v ≤ size
  ok_inside =
      let f = ok_fits in
      let a = ok_many ∙ ap width ok_mark in
      omega (arith, f.inside, o.goal)

  pub ok_in : j < size
  ok_in =
      let f = ok_fits in
      let a = f.many in
      let b = width_some o.mark o.goes in
      omega (arith, f.inside, o.goal)

  pub ok_some : 0 < get_or v 0 0
  ok_some = rw o.held at ok_fits.some

  ok_line_lem : line j v ≡ (form o.mark).first ∷ (form o.mark).second ∷ fields_text (belows (rule o.mark m).ends) o.vals
  unfolding line line_of
  ok_line_lem = go v ok_some o.held
    where
      go : (w : List ℕ) → 0 < get_or w 0 0 → cells o.mark o.vals ≡ w
          → line j w ≡ (form o.mark).first ∷ (form o.mark).second ∷ fields_text (belows (rule o.mark m).ends) o.vals
      go [] h e = absurd (omega arith)
      go (x ∷ w) h e =
          let t : keys_at o.mark j ++ map (λ (x : ℕ). x - 1) (x ∷ w) ≡ o.vals = rw (o.goal, e) at ok_fits.told in
          rw (ok_mark, below_is o.mark m) (ap (λ (r : List ℕ). (form o.mark).first ∷ (form o.mark).second ∷ fields_text (form o.mark).below r) t)

  pub ok_as : (q : Mark) → mark_at j ≡ q → As q m j v
  ok_as q e =
      subst (λ (x : Mark). As x m j v) (sym ok_mark ∙ e)
      (record { vals = o.vals; due = o.due; room = o.room; within = o.within; right = o.right; goal = o.goal; held = o.held; few = o.few })

-- ---- the laws

-- the clocks are set by CK alone
clocks_few : (m w : List ℕ) → Within (rule ck m).ends w → get_or (cells ck w) 0 0 ≤ 5
unfolding rule cells form
clocks_few m w h = by_one (λ (r : List ℕ). get_or (cells ck r) 0 0 ≤ 5) (between 0 4) w h (λ a x y. omega arith)

own_one : owner 1 ≡ 1
unfolding owner
own_one = refl

mark_one : mark_at 1 ≡ ck
unfolding mark_at
mark_one = refl

pub good_put : (m : List ℕ) (i j : ℕ) (v : List ℕ) → Good m i → Ok m j v → i ≤ j → Good (sets m j v) (suc j)
good_put m i j v g o h = record { long = length-sets m j v ∙ g.long; upto = ok_in m j v o; few = few }
  where
    first : (w : List ℕ) → 0 < get_or w 0 0 → j + length w ≤ size → get_or (sets m j w) j 0 ≡ get_or w 0 0
    first [] a b = absurd (omega arith)
    first (x ∷ w) a b = sets_first x w m j (let n = g.long in omega arith)

    few : clocks (sets m j v) ≤ 4
    few = by_eq j 1
        (λ e.
        let q : o.mark ≡ ck = sym (ok_mark m j v o) ∙ ap mark_at e ∙ mark_one in
        let a = clocks_few m o.vals (subst (λ (x : Mark). Within (rule x m).ends o.vals) q o.within) in
        let b : get_or (cells ck o.vals) 0 0 ≡ get_or v 0 0 = ap (λ (x : Mark). get_or (cells x o.vals) 0 0) (sym q) ∙ ap (λ (x : List ℕ). get_or x 0 0) o.held in
        let c = first v (ok_some m j v o) (ok_inside m j v o) in
        let d : get_or (sets m j v) 1 0 ≡ get_or (sets m j v) j 0 = ap (λ (x : ℕ). get_or (sets m j v) x 0) (sym e) in
        omega arith)
        (λ e. rw (sets_other v m j 1 (λ x l y. e (sym (own_cell j x (omega (arith, ok_many m j v o))) ∙ ap owner (sym y) ∙ own_one))) g.few)

get_same : (m : List ℕ) (i j : ℕ) (v : List ℕ) → Good m i → Ok m j v → get (sets m j v) j ≡ v
unfolding get
get_same m i j v g o = go v (ok_some m j v o) (ok_many m j v o) (ok_inside m j v o)
  where
    go : (w : List ℕ) → 0 < get_or w 0 0 → length w ≡ width (mark_at j) → j + length w ≤ size → pick (there (sets m j w) j) (words (sets m j w) j (width (mark_at j))) [] ≡ w
    go [] a b c = absurd (omega arith)
    go (x ∷ w) a b c =
        let n = g.long in
        rw (sets_first x w m j (omega arith), lt-ltb 0 x a, ← b) (words_sets (x ∷ w) m j (omega arith))

words_none : (t : Bool) (m : List ℕ) (k : ℕ) → pick t (words m k 0) [] ≡ []
unfolding words
words_none true m k = refl
words_none false m k = refl

get_other : (m : List ℕ) (i j : ℕ) (v : List ℕ) (k : ℕ) → Good m i → Ok m j v → k < size → (k ≡ j → ⊥) → get (sets m j v) k ≡ get m k
unfolding get
get_other m i j v k g o h n = go (width (mark_at k)) same
  where
    same : (x : ℕ) → x < width (mark_at k) → get_or (sets m j v) (k + x) 0 ≡ get_or m (k + x) 0
    same x l = sets_other v m j (k + x) (λ y b e. n (sym (own_cell k x l) ∙ ap owner e ∙ own_cell j y (omega (arith, ok_many m j v o))))

    go : (w : ℕ) → ((x : ℕ) → x < w → get_or (sets m j v) (k + x) 0 ≡ get_or m (k + x) 0) → pick (there (sets m j v) k) (words (sets m j v) k w) [] ≡ pick (there m k) (words m k w) []
    go zero f = words_none (there (sets m j v) k) (sets m j v) k ∙ sym (words_none (there m k) m k)
    go (suc w) f = let z : k + 0 ≡ k = omega arith in rw (rw z at (f 0 (omega arith)), words_same m (sets m j v) k (suc w) f)

-- what was seen tells what stands there
pub judge_rec : (q : Mark) (s : List ℕ) (at i : ℕ) (m : List ℕ) (x : Fields) (j : ℕ) (w : List ℕ) (next : ℕ) → judge q s at i m x ≡ rec j w next
    → (v : List ℕ) × (x ≡ ok v next) × ((form q).closes ≡ false) × ((rule q m).wrong v ≡ 0) × ((rule q m).slot v ≡ j) × (cells q v ≡ w) × (i ≤ j)
unfolding judge
judge_rec q s at i m (bad p) j w next e = nonsense (cc)
judge_rec q s at i m (out p) j w next e = nonsense (cc)
judge_rec q s at i m (ok v n) j w next e =
    by_pick (form q).closes _ _ _ e (λ _ e. by_pick (ltb n (length s)) _ _ _ e (λ _ e. nonsense (cc)) (λ _ e. nonsense (cc)))
    (λ c e. by_pick (ltb 0 ((rule q m).wrong v)) _ _ _ e (λ _ e. nonsense (cc))
    (λ b e. by_pick (ltb ((rule q m).slot v) i) _ _ _ e (λ _ e. nonsense (cc))
    (λ a e.
    let z : (rule q m).slot v ≡ j = cc in
    (v, (cc), c, (let y = ltb-false 0 ((rule q m).wrong v) b in omega arith), z, (cc), (let y = ltb-false ((rule q m).slot v) i a in omega arith)))))

pub rec_inv : (s : List ℕ) (at i : ℕ) (m : List ℕ) (j : ℕ) (v : List ℕ) (next : ℕ) → Good m i → look s at i m ≡ rec j v next
    → Ok m j v × (i ≤ j) × (drop at s ≡ line j v ++ drop next s)
unfolding look look_for
rec_inv s at i m j w next g e =
    by_pick ((rule q m).due && leb i (rule q m).latest) _ _ _ e
    (λ d e. by_pick (rule q m).room _ _ _ e
    (λ r e.
    let h = judge_rec q s at i m (fields (rule q m).ends s (at + 2)) j w next e in
    let f = fields_inv (rule q m).ends s (at + 2) h.0 next (tame q m g.few) h.1 in
    let d₀ = (and_true _ _ d).0 in
    let o : Ok m j w = record { mark = q; vals = h.0; goes = h.2; due = d₀; room = r; within = f.0; right = h.3; goal = h.4; held = h.5; few = g.few } in
    (o, h.6, mark_inv q s at m d₀ refl ∙ rw (ok_line_lem m j w o) (ap (λ (l : List ℕ). (form q).first ∷ (form q).second ∷ l) f.1)))
    (λ _ e. nonsense (cc)))
    (λ _ e. nonsense (cc))
  where
    q : Mark
    q = mark_of (get_or s at 0) (get_or s (at + 1) 0)

judge_end : (q : Mark) (s : List ℕ) (at i : ℕ) (m : List ℕ) (x : Fields) → judge q s at i m x ≡ end
    → ((form q).closes ≡ true) × ((v : List ℕ) × (next : ℕ) × (x ≡ ok v next) × (length s ≤ next))
unfolding judge
judge_end q s at i m (bad p) e = nonsense (cc)
judge_end q s at i m (out p) e = nonsense (cc)
judge_end q s at i m (ok v n) e =
    by_pick (form q).closes _ _ _ e
    (λ c e. by_pick (ltb n (length s)) _ _ _ e (λ _ e. nonsense (cc)) (λ a e. (c, (v, n, refl, ltb-false n (length s) a))))
    (λ _ e. by_pick (ltb 0 ((rule q m).wrong v)) _ _ _ e (λ _ e. nonsense (cc))
    (λ _ e. by_pick (ltb ((rule q m).slot v) i) _ _ _ e (λ _ e. nonsense (cc)) (λ _ e. nonsense (cc))))

-- what ends the text
last_is : (q : Mark) (m : List ℕ) → (form q).closes ≡ true → (rule q m).due ≡ true → (q ≡ en)
unfolding form rule
last_is po m c d = nonsense (cc)
last_is ck m c d = nonsense (cc)
last_is tk m c d = nonsense (cc)
last_is lo m c d = nonsense (cc)
last_is iv m c d = nonsense (cc)
last_is ed m c d = nonsense (cc)
last_is gu m c d = nonsense (cc)
last_is rs m c d = nonsense (cc)
last_is en m c d = refl
last_is other m c d = nonsense (cc)

end_of : (m s : List ℕ) (at : ℕ) (v : List ℕ) (next : ℕ) → (rule en m).due ≡ true → fields (rule en m).ends s (at + 2) ≡ ok v next → length s ≤ next
    → drop at s ≡ (form en).first ∷ (form en).second ∷ drop (at + 2) s → (0 < get_or m 20 0) × (drop at s ≡ 69 ∷ 78 ∷ 10 ∷ [])
unfolding rule form fields_text
end_of m s at v next d f h e =
    let r = fields_inv [] s (at + 2) v next tt f in
    (ltb-true 0 (get_or m 20 0) d, e ∙ ap (λ (l : List ℕ). 69 ∷ 78 ∷ l) (r.1 ∙ rw (drop_of_length-le s h)))

end_inv : (s : List ℕ) (at i : ℕ) (m : List ℕ) → Good m i → look s at i m ≡ end → (0 < get_or m 20 0) × (drop at s ≡ 69 ∷ 78 ∷ 10 ∷ [])
unfolding look look_for
end_inv s at i m g e = go (mark_of (get_or s at 0) (get_or s (at + 1) 0)) refl e
  where
    go : (q : Mark) → mark_of (get_or s at 0) (get_or s (at + 1) 0) ≡ q → look_for q s at i m ≡ end → (0 < get_or m 20 0) × (drop at s ≡ 69 ∷ 78 ∷ 10 ∷ [])
    go q k e =
        by_pick ((rule q m).due && leb i (rule q m).latest) _ _ _ e
        (λ d e. by_pick (rule q m).room _ _ _ e
        (λ r e.
        let h = judge_end q s at i m (fields (rule q m).ends s (at + 2)) e in
        let d₀ = (and_true _ _ d).0 in
        let z = last_is q m h.0 d₀ in
        end_of m s at h.1.0 h.1.1 (rw z at d₀) (ap (λ (x : Mark). fields (rule x m).ends s (at + 2)) (sym z) ∙ h.1.2) h.1.3 (rw z at (mark_inv q s at m d₀ k)))
        (λ _ e. nonsense (cc)))
        (λ _ e. nonsense (cc))

-- what stands there is seen
rec_read : (s : List ℕ) (at i : ℕ) (m : List ℕ) (j : ℕ) (v : List ℕ) (r : List ℕ) → Good m i → Ok m j v → i ≤ j → drop at s ≡ line j v ++ r
    → (next : ℕ) × (look s at i m ≡ rec j v next) × (drop next s ≡ r) × (at < next)
unfolding look look_for judge
rec_read s at i m j v r g o h e =
    let q = o.mark in
    let e₀ : drop at s ≡ (form o.mark).first ∷ (form o.mark).second ∷ (fields_text (belows (rule o.mark m).ends) o.vals ++ r) = e ∙ ap (λ (l : List ℕ). l ++ r) (ok_line_lem m j v o) in
    let k = mark_read o.mark s at _ e₀ in
    let f = fields_read (rule o.mark m).ends o.vals r s (at + 2) (tame o.mark m g.few) o.within k.1 in
    let t = ok_fits m j v o in
    let y = f.3 in
    let a : i ≤ (rule o.mark m).latest = omega (arith, t.early, o.goal) in (
      f.0,
      rw (k.0, o.due, le-leb i (rule o.mark m).latest a, o.room, f.1, o.goes, o.right, o.goal, le-ltb j i h, o.held),
      f.2,
      omega arith,
    )

end_read : (s : List ℕ) (at i : ℕ) (m : List ℕ) → Good m i → 0 < get_or m 20 0 → drop at s ≡ 69 ∷ 78 ∷ 10 ∷ [] → look s at i m ≡ end
unfolding look look_for judge rule form fields
end_read s at i m g f e =
    let k = mark_read en s at (10 ∷ []) e in
    let u = g.upto in
    let d : length s ≤ at + 2 + 1 = omega (arith, sym (length-drop at s) ∙ ap length e) in
    rw (k.0, lt-ltb 0 (get_or m 20 0) f, le-leb i size u, here_head s (at + 2) 10 [] k.1, le-ltb (at + 2 + 1) (length s) d)

pub zeros : (k : ℕ) → get_or {A = ℕ} (replicate size 0) k 0 ≡ 0
zeros k = by_lt k size (λ h. get_or-replicate size k 0 0 h) (λ h. get_or-eq_default (replicate size 0) 0 {n = k} (rw (length-replicate {A = ℕ} size 0) h))

get_start : (k : ℕ) → get (replicate size 0) k ≡ []
unfolding get
get_start k = rw (zeros k)

pub some_is : (v : List ℕ) → 0 < get_or v 0 0 → is_none v ≡ false
unfolding is_none
some_is [] h = absurd (omega arith)
some_is (x ∷ v) h = refl

none_is : (v : List ℕ) → is_none v ≡ true → v ≡ []
unfolding is_none
none_is [] h = refl
none_is (x ∷ v) h = nonsense (cc)

pub lawful : Lawful format
unfolding is_none line
lawful = record {
  Good = Good;
  Ok = Ok;
  Full = λ m. 0 < get_or m 20 0;
  good_start = record { long = length-replicate {A = ℕ} size 0; upto = omega arith; few = rw (zeros 1) (omega arith) };
  good_put = good_put;
  in_size = ok_in;
  get_start = λ k h. get_start k;
  get_same = get_same;
  get_other = get_other;
  none_none = refl;
  some = λ m j v o. some_is v (ok_some m j v o);
  none_is = none_is;
  line_none = λ j. refl;
  last_some = omega arith;
  rec_inv = rec_inv;
  end_inv = end_inv;
  rec_read = rec_read;
  end_read = end_read;
}

-- a model text that is read is what its table is written as
pub model_read_write : (s out : List ℕ) → read format s ≡ done out → write format out ≡ s
model_read_write = read_write format lawful

-- a table that some text gives is read back from what it is written as
pub model_write_read : (m : List ℕ) → Proper format lawful m → read format (write format m) ≡ done m
model_write_read = write_read format lawful

-- what a text gives is such a table
pub model_read_proper : (s out : List ℕ) → read format s ≡ done out → Proper format lawful out
model_read_proper = read_proper format lawful

pub proper_ok : (m : List ℕ) → Proper format lawful m → (i : ℕ) → i < size → is_none (get m i) ≡ false → Ok (part format lawful m i) i (get m i)
unfolding lawful
proper_ok m p i h e = p.right i h e

pub proper_full : (m : List ℕ) → Proper format lawful m → 0 < get_or m 20 0
unfolding lawful
proper_full m p = p.full

pub proper_whole : (m : List ℕ) → Proper format lawful m → part format lawful m size ≡ m
unfolding lawful
proper_whole m p = p.whole

pub make_proper : (m : List ℕ) → ((i : ℕ) → i < size → is_none (get m i) ≡ false → Ok (part format lawful m i) i (get m i)) → 0 < get_or m 20 0 → part format lawful m size ≡ m
    → Proper format lawful m
unfolding lawful
make_proper m r f w = record { right = r; full = f; whole = w }
