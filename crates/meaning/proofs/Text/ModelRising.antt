-- Only IV, GU and RS can be out of order: a PO, CK, TK, LO or ED that may stand goes behind all that was read.
-- Assumes nothing.
use Prim.Native.Nat.{◌*◌, ◌+◌, ◌<◌, ◌≤◌, suc, zero, ℕ}
use mathlib.Core.Bool.{Bool, ◌&&◌, false, true}
use mathlib.Core.List.{List, [], ◌∷◌}
use mathlib.Core.Path.{◌∙◌, ◌≡◌, ap, refl, sym}
use native.Mathlib.Omega.{arith}
use lib.Dec.{leb, ltb}
use lib.ListN.{get_or, length, length-replicate, replicate}
use lib.Seq.{sets}
use borrow.Author.Tests.{leb-true, lt-ltb, ltb-true}
use Rattle.meaning.proofs.Text.Choices.{and_true, by_lt, by_pick, nonsense}
use Rattle.meaning.proofs.Text.ModelCells.{own_cell, owner, sets_first, sets_other}
use Rattle.meaning.proofs.Text.ModelLaws.{As, Good, Ok, by_one, by_three, by_two, good_put, locations_le, ok_as, ok_inside, ok_many, ok_mark, ok_some, rec_inv, zeros}
use Rattle.meaning.proofs.Text.ModelShape.{count_same, count_some, head_edge, head_location, head_task}
use Rattle.meaning.specs.Text.Lines.{Fields, around, bad, between, fields, ok, out}
use Rattle.meaning.specs.Text.ModelReader.{format, judge, look, look_for, mark_at, mark_of, misfit, rule, width}
use Rattle.meaning.specs.Text.ModelTable.{clocks, count, edges, locations, size, tasks, there}
use Rattle.meaning.specs.Text.ModelText.{Mark, ck, ed, en, form, gu, iv, lo, other, po, rs, tk}
use Rattle.meaning.specs.Text.Ranges.{time_most}
use Rattle.meaning.specs.Text.Records.{Seen, end, fault, read, rec, refused, run, turn}

-- one more than before
count_more : (a b : List ℕ) (at step n c : ℕ) → c < n → get_or a (at + step * c) 0 ≡ 0 → 0 < get_or b (at + step * c) 0
    → ((x : ℕ) → x < n → (x ≡ c → ⊥) → get_or b (at + step * x) 0 ≡ get_or a (at + step * x) 0) → count b at step n ≡ count a at step n + 1
unfolding count
count_more a b at step zero c h e f s = absurd (omega arith)
count_more a b at step (suc n) c h e f s =
    by_lt c n
    (λ l. rw (s n (omega arith) (omega arith)) (let r = count_more a b at step n c l e f (λ x u v. s x (omega arith) v) in omega arith))
    (λ l.
    let z : n ≡ c = omega arith in
    let r = count_same b a at step n (λ x u. s x (omega arith) (omega arith)) in
    rw (z, e, lt-ltb 0 (get_or b (at + step * c) 0) f) (rw z at (let q : count b at step n + 1 ≡ count a at step n + 0 + 1 = omega arith in q)))

-- the cursor is not behind the next task's, location's and edge's slot, as long as these may stand
pub record Along (m : List ℕ) (i : ℕ) : Type 0 where
  pub good : Good m i
  pub bare : (x : ℕ) → i ≤ x → x < size → 0 < width (mark_at x) → get_or m x 0 ≡ 0
  pub task : i ≤ 20 → i ≤ 2 + 3 * tasks m
  pub location : i ≤ 100 → i ≤ 20 + 5 * locations m
  pub edge : i ≤ 100 + 31 * edges m

module _ (m : List ℕ) (i j : ℕ) (v : List ℕ) (a : Along m i) (o : Ok m j v) (h : i ≤ j) where
  -- the first cells of the other records are as before
  other_cell : (x : ℕ) → 0 < width (mark_at x) → (x ≡ j → ⊥) → get_or (sets m j v) x 0 ≡ get_or m x 0
  other_cell x w n =
      sets_other v m j x (λ y l e.
      n (sym (own_cell x 0 w) ∙ (let z : x + 0 ≡ j + y = omega arith in ap owner z) ∙ own_cell j y (omega (arith, ok_many m j v o))))

  own_cell_set : 0 < get_or (sets m j v) j 0
  own_cell_set = go v (ok_some m j v o) (ok_inside m j v o)
    where
      go : (w : List ℕ) → 0 < get_or w 0 0 → j + length w ≤ size → 0 < get_or (sets m j w) j 0
      go [] b c = absurd (omega arith)
      go (x ∷ w) b c = rw (sets_first x w m j (let n = a.good.long in omega arith)) b

  -- the count of an area after the record: one more where it is the next of this area, else as before
  count_next : (at step n : ℕ) → ((x : ℕ) → x < n → (0 < width (mark_at (at + step * x))) × (at + step * x < size)) → (c : ℕ) → c < n → j ≡ at + step * c
      → ((x : ℕ) → at + step * x ≡ at + step * c → x ≡ c) → count (sets m j v) at step n ≡ count m at step n + 1
  count_next at step n w c l e s =
      let y : get_or (sets m j v) (at + step * c) 0 ≡ get_or (sets m j v) j 0 = ap (λ (x : ℕ). get_or (sets m j v) x 0) (sym e) in
      count_more m (sets m j v) at step n c l (a.bare (at + step * c) (omega arith) (w c l).1 (w c l).0) (omega (arith, own_cell_set))
      (λ x u d. other_cell (at + step * x) (w x u).0 (λ k. d (s x (k ∙ e))))

  count_kept : (at step n : ℕ) → ((x : ℕ) → x < n → (0 < width (mark_at (at + step * x))) × (j ≡ at + step * x → ⊥)) → count (sets m j v) at step n ≡ count m at step n
  count_kept at step n w = count_same (sets m j v) m at step n (λ x u. other_cell (at + step * x) (w x u).0 (λ y. (w x u).1 (sym y)))

  -- each of the three counts, by where the record stands
  tasks_next : (c : ℕ) → c < 6 → j ≡ 2 + 3 * c → tasks (sets m j v) ≡ tasks m + 1
  unfolding tasks
  tasks_next c l e = count_next 2 3 6 (λ x u. (head_task x u, omega arith)) c l e (λ x k. omega arith)

  locations_next : (c : ℕ) → c < 16 → j ≡ 20 + 5 * c → locations (sets m j v) ≡ locations m + 1
  unfolding locations
  locations_next c l e = count_next 20 5 16 (λ x u. (head_location x u, omega arith)) c l e (λ x k. omega arith)

  edges_next : (c : ℕ) → c < 32 → j ≡ 100 + 31 * c → edges (sets m j v) ≡ edges m + 1
  unfolding edges
  edges_next c l e = count_next 100 31 32 (λ x u. (head_edge x, omega arith)) c l e (λ x k. omega arith)

  locations_kept : ((x : ℕ) → x < 16 → j ≡ 20 + 5 * x → ⊥) → locations (sets m j v) ≡ locations m
  unfolding locations
  locations_kept f = count_kept 20 5 16 (λ x u. (head_location x u, f x u))

  edges_kept : ((x : ℕ) → x < 32 → j ≡ 100 + 31 * x → ⊥) → edges (sets m j v) ≡ edges m
  unfolding edges
  edges_kept f = count_kept 100 31 32 (λ x u. (head_edge x, f x u))

  -- the three bounds on the cursor after the record
  record Ahead : Type 0 where
    task : suc j ≤ 20 → suc j ≤ 2 + 3 * tasks (sets m j v)
    location : suc j ≤ 100 → suc j ≤ 20 + 5 * locations (sets m j v)
    edge : suc j ≤ 100 + 31 * edges (sets m j v)

  some_location : there m 20 ≡ true → 0 < locations m
  unfolding locations
  some_location e = count_some m 20 5 15 (ltb-true 0 (get_or m 20 0) e)

  some_edge : there m 100 ≡ true → 0 < edges m
  unfolding edges
  some_edge e = count_some m 100 31 31 (ltb-true 0 (get_or m 100 0) e)

  ahead : (q : Mark) → As q m j v → (form q).closes ≡ false → Ahead
  unfolding rule form
  ahead po s c = let e = s.goal in record { task = λ k. omega arith; location = λ k. omega arith; edge = omega arith }
  ahead ck s c = let e = s.goal in record { task = λ k. omega arith; location = λ k. omega arith; edge = omega arith }
  ahead tk s c =
      let e = s.goal in
      let r = ltb-true (tasks m) 6 s.room in
      let n = tasks_next (tasks m) r (sym e) in
      record { task = λ k. omega arith; location = λ k. omega arith; edge = omega arith }
  ahead lo s c =
      let e = s.goal in
      let r = ltb-true (locations m) 16 s.room in
      let n = locations_next (locations m) r (sym e) in
      record { task = λ k. absurd (omega arith); location = λ k. omega arith; edge = omega arith }
  ahead iv s c =
      let d = some_location s.due in
      let f = s.few in
      let l = locations_le m in
      by_two (λ (w : List ℕ). (rule iv m).slot w ≡ j → Ahead) (between 1 (clocks m)) (between 0 time_most) s.vals s.within
      (λ x y x₁ x₂ y₁ y₂ e.
      let n = locations_kept (λ z u k. omega arith) in
      record { task = λ k. absurd (omega arith); location = λ k. omega arith; edge = omega arith })
      s.goal
  ahead ed s c =
      let e = s.goal in
      let r = ltb-true (edges m) 32 s.room in
      let n = edges_next (edges m) r (sym e) in
      record { task = λ k. absurd (omega arith); location = λ k. absurd (omega arith); edge = omega arith }
  ahead gu s c =
      let d = some_edge s.due in
      let f = s.few in
      by_three (λ (w : List ℕ). (rule gu m).slot w ≡ j → Ahead) (between 0 (clocks m)) (between 0 (clocks m)) (around time_most) s.vals s.within
      (λ x y z x₁ x₂ y₁ y₂ z₁ z₂ e.
      let n = edges_kept (λ z u k. omega arith) in
      record { task = λ k. absurd (omega arith); location = λ k. absurd (omega arith); edge = omega arith })
      s.goal
  ahead rs s c =
      let d = some_edge s.due in
      let f = s.few in
      by_one (λ (w : List ℕ). (rule rs m).slot w ≡ j → Ahead) (between 1 (clocks m)) s.vals s.within
      (λ x x₁ x₂ e.
      let n = edges_kept (λ z u k. omega arith) in
      record { task = λ k. absurd (omega arith); location = λ k. absurd (omega arith); edge = omega arith })
      s.goal
  ahead en s c = nonsense (cc)
  ahead other s c = nonsense (cc)

  along_put : Along (sets m j v) (suc j)
  along_put =
      let k = ahead o.mark (ok_as m j v o o.mark (ok_mark m j v o)) o.goes in
      record {
        good = good_put m i j v a.good o h;
        bare = λ x u b w. other_cell x w (omega arith) ∙ a.bare x (omega arith) b w;
        task = k.task;
        location = k.location;
        edge = k.edge;
      }

along_start : Along (replicate size 0) 0
along_start =
    record {
      good = record { long = length-replicate {A = ℕ} size 0; upto = omega arith; few = rw (zeros 1) (omega arith) };
      bare = λ x u b w. zeros x;
      task = λ k. omega arith;
      location = λ k. omega arith;
      edge = omega arith;
    }

-- ---- refusal 6

-- records whose numbers say the slot
unfoldable pub rising : Mark → Bool
rising po = false
rising ck = false
rising tk = false
rising lo = false
rising iv = true
rising ed = false
rising gu = true
rising rs = true
rising en = false
rising other = false

-- the others go behind all that was read
behind : (q : Mark) (m : List ℕ) (i : ℕ) (v : List ℕ) → Along m i → rising q ≡ false → (form q).closes ≡ false → i ≤ (rule q m).latest → i ≤ (rule q m).slot v
unfolding rising form rule
behind po m i v a r c h = h
behind ck m i v a r c h = h
behind tk m i v a r c h = a.task h
behind lo m i v a r c h = a.location h
behind iv m i v a r c h = nonsense (cc)
behind ed m i v a r c h = a.edge
behind gu m i v a r c h = nonsense (cc)
behind rs m i v a r c h = nonsense (cc)
behind en m i v a r c h = nonsense (cc)
behind other m i v a r c h = nonsense (cc)

-- and their numbers get 7 or 8, or nothing
not_six : (q : Mark) (m v : List ℕ) → rising q ≡ false → (rule q m).wrong v ≡ 6 → ⊥
unfolding rising rule
not_six po m v r e = omega arith
not_six ck m v r e = omega arith
not_six tk m v r e = by_pick (ltb (get_or v 1 0) (get_or v 0 0)) _ _ _ e (λ _ e. omega arith) (λ _ e. by_pick (misfit m (get_or v 2 0)) _ _ _ e (λ _ e. omega arith) (λ _ e. omega arith))
not_six lo m v r e = omega arith
not_six iv m v r e = nonsense (cc)
not_six ed m v r e = omega arith
not_six gu m v r e = nonsense (cc)
not_six rs m v r e = nonsense (cc)
not_six en m v r e = omega arith
not_six other m v r e = omega arith

judge_six : (q : Mark) (s : List ℕ) (at i : ℕ) (m : List ℕ) (x : Fields) (p : ℕ) → Along m i → i ≤ (rule q m).latest → judge q s at i m x ≡ fault 6 p → (p ≡ at) × (rising q ≡ true)
unfolding judge
judge_six q s at i m (bad k) p a h e = let z : ◌≡◌ {A = ℕ} 4 6 = cc in absurd (omega arith)
judge_six q s at i m (out k) p a h e = let z : ◌≡◌ {A = ℕ} 5 6 = cc in absurd (omega arith)
judge_six q s at i m (ok v n) p a h e =
    by_pick (form q).closes _ _ _ e (λ _ e. by_pick (ltb n (length s)) _ _ _ e (λ _ e. absurd (let z : ◌≡◌ {A = ℕ} 3 6 = cc in omega arith)) (λ _ e. nonsense (cc)))
    (λ c e. by_pick (ltb 0 ((rule q m).wrong v)) _ _ _ e
    (λ _ e. let z : (rule q m).wrong v ≡ 6 = cc in ((cc), go (rising q) refl (λ r. not_six q m v r z)))
    (λ _ e. by_pick (ltb ((rule q m).slot v) i) _ _ _ e
    (λ l e. ((cc), go (rising q) refl (λ r. let b = behind q m i v a r c h in let d = ltb-true ((rule q m).slot v) i l in omega arith)))
    (λ _ e. nonsense (cc))))
  where
    go : (t : Bool) → rising q ≡ t → (rising q ≡ false → ⊥) → rising q ≡ true
    go true r f = r
    go false r f = absurd (f r)

look_six : (s : List ℕ) (at i : ℕ) (m : List ℕ) (p : ℕ) → Along m i → look s at i m ≡ fault 6 p → rising (mark_of (get_or s p 0) (get_or s (p + 1) 0)) ≡ true
unfolding look look_for
look_six s at i m p a e =
    by_pick ((rule q m).due && leb i (rule q m).latest) _ _ _ e
    (λ d e. by_pick (rule q m).room _ _ _ e
    (λ r e.
    let h = judge_six q s at i m (fields (rule q m).ends s (at + 2)) p a (leb-true i (rule q m).latest (and_true (rule q m).due (leb i (rule q m).latest) d).1) e in
    rw h.0 h.1)
    (λ _ e. absurd (let z : ◌≡◌ {A = ℕ} 10 6 = cc in omega arith)))
    (λ _ e. absurd (let z : ◌≡◌ {A = ℕ} 3 6 = cc in omega arith))
  where
    q : Mark
    q = mark_of (get_or s at 0) (get_or s (at + 1) 0)

run_six : (f : ℕ) (s : List ℕ) (at i : ℕ) (m : List ℕ) (p : ℕ) → Along m i → run format f s at i m ≡ refused 6 p → rising (mark_of (get_or s p 0) (get_or s (p + 1) 0)) ≡ true
unfolding run turn
run_six zero s at i m p a e = absurd (let z : ◌≡◌ {A = ℕ} 0 6 = cc in omega arith)
run_six (suc f) s at i m p a e = go (look s at i m) refl (λ a' i' m'. run_six f s a' i' m' p) e
  where
    go : (x : Seen (List ℕ)) → look s at i m ≡ x
        → ((a' i' : ℕ) (m' : List ℕ) → Along m' i' → run format f s a' i' m' ≡ refused 6 p → rising (mark_of (get_or s p 0) (get_or s (p + 1) 0)) ≡ true)
        → turn format (run format f s) m x ≡ refused 6 p → rising (mark_of (get_or s p 0) (get_or s (p + 1) 0)) ≡ true
    go (rec j v next) l ih q = let w = rec_inv s at i m j v next a.good l in ih next (suc j) (sets m j v) (along_put m i j v a w.0 w.1) q
    go end l ih q = nonsense (cc)
    go (fault k y) l ih q =
        let z₁ : k ≡ 6 = cc in
        let z₂ : y ≡ p = cc in
        look_six s at i m p a (l ∙ rw (z₁, z₂))

-- a text that is refused by 6 has IV, GU or RS at that place
pub six_is : (s : List ℕ) (p : ℕ) → read format s ≡ refused 6 p → rising (mark_of (get_or s p 0) (get_or s (p + 1) 0)) ≡ true
unfolding read
six_is s p e = run_six (length s + 1) s 0 0 (replicate size 0) p along_start e
