-- Numbers that are read from a row of cells, and a location with a queue order that is read so.
-- Assumes nothing.
use Prim.Native.Nat.{ℕ, zero, suc, ◌+◌, ◌-◌, ◌*◌, ◌≤◌, ◌<◌}
use mathlib.Core.Path.{◌≡◌, refl, sym, ◌∙◌, ap}
use mathlib.Core.List.{List, [], ◌∷◌, ◌++◌}
use mathlib.Core.Option.{some}
use native.Mathlib.Omega.{arith}
use lib.ListN.{length, get_or, get_elem?, take, drop, replicate, length-append, length-drop}
use lib.Seq.{ext_get_or, get_or-take, length-take-le, take-append-le}
use Rattle.std.proofs.lemmas.List.{get_or-append_right, get_or-drop, get_or-replicate, get_or_past}
use borrow.Author.Tests.{lt-ltb, ltb-false}
use Rattle.meaning.proofs.Text.Choices.{by_lt}
use Rattle.meaning.specs.Model.{Model}
use Rattle.meaning.specs.Zones.Proper.{fits}
use Rattle.meaning.specs.Zones.Reached as Z
use Rattle.meaning.specs.Text.ModelTable.{there}
use Rattle.meaning.specs.Text.ProposalTable.{order_in}
use Rattle.meaning.proofs.Text.Keyed.{each_nth}
use Rattle.home.specs.declared.Home.{Home}
use Rattle.home.specs.Stands.{order_of, home_of, RightHome}
use Rattle.zone_list.specs.Counted.{numbers_in}
use Rattle.zone_table.specs.Sound.{queue_in, SoundOrder}
use Rattle.zone_table.specs.Read.{TasksRead, HomeRead}
use Rattle.zone_table.proofs.Dense.{collect_front, words_length, words_nth}
use Rattle.zone_table.proofs.SoundGiven.{queue_few}
use Rattle.zone_table.proofs.TestLaws.{order_row, order_right}

get_d_some : (l : List ℕ) (k d x : ℕ) → get_elem? l k ≡ some x → get_or l k d ≡ x
get_d_some [] k d x e = absurd (let z : ◌≡◌ {A = ℕ} 0 1 = cc in omega arith)
get_d_some (y ∷ l) zero d x e = cc
get_d_some (y ∷ l) (suc k) d x e = get_d_some l k d x e

pub numbers_length : (t : List ℕ) (at n : ℕ) → length (numbers_in t at n) ≡ n
unfolding numbers_in
numbers_length t at n = words_length t at n

numbers_nth : (t : List ℕ) (at n x : ℕ) → x < n → get_elem? (numbers_in t at n) x ≡ some (get_or t (at + x) 0 - 1)
unfolding numbers_in
numbers_nth t at n x h = words_nth t at n x h

-- the first n of what was read cell by cell
pub row_read : (t : List ℕ) (at n : ℕ) (o : List ℕ) → n ≤ length o → ((x : ℕ) → x < n → get_or o x 0 ≡ get_or t (at + x) 0 - 1) → take n o ≡ numbers_in t at n
row_read t at n o h e =
    let l = length-take-le n o h in
    ext_get_or 0 (take n o) (numbers_in t at n) (l ∙ sym (numbers_length t at n))
    (λ x i. get_or-take n o x 0 (omega arith) ∙ e x (omega arith) ∙ sym (get_d_some (numbers_in t at n) x 0 (get_or t (at + x) 0 - 1) (numbers_nth t at n x (omega arith))))

-- the first n tasks of a zone, and 0 behind them
pub tasks_read : (t : List ℕ) (k n : ℕ) (w : List ℕ) → n ≤ 6 → length w ≡ n → ((x : ℕ) → x < n → get_or w x 0 ≡ get_or t (8 * k + 1 + x) 0 - 1) → TasksRead t k n (w ++ drop n (replicate 6 0))
tasks_read t k n w h l e = record {
  long = length-append w (drop n (replicate 6 0)) ∙ omega (arith, length-drop {A = ℕ} n (replicate 6 0));
  is = take-append-le n w (drop n (replicate 6 0)) (omega arith) ∙ row_read t (8 * k + 1) n w (omega arith) e;
  unused = λ x i. get_or-append_right w (drop n (replicate 6 0)) n x 0 l i ∙ get_or-drop n (replicate 6 0) (x - n) 0 ∙ none (n + (x - n));
}
  where
    none : (i : ℕ) → get_or (replicate {A = ℕ} 6 0) i 0 ≡ 0
    none i = by_lt i 6 (get_or-replicate 6 i 0 0) (get_or_past (replicate 6 0) i 0)

-- ---- a location with a queue order

abbrev pub standing : ℕ → List ℕ → Z.Home
standing l o = record { location = l; order = o }

module _ (m : Model) (t : List ℕ) (k : ℕ) (h : Home) (w : HomeRead t k (queue_in t k) h) where
  row_is : order_of h ≡ numbers_in t (8 * k + 1) (queue_in t k)
  row_is = ap (λ (n : ℕ). take n h.tasks) w.count ∙ w.tasks.is

  -- the tasks of a location and queue order that may be lent stand without a gap
  task_fits : RightHome m h → (x : ℕ) → x < queue_in t k → (2 ≤ get_or t (8 * k + 1 + x) 0) × (get_or t (8 * k + 1 + x) 0 ≤ length m.tasks + 1)
  task_fits r x l =
      let e : get_elem? (order_of h) x ≡ some (get_or t (8 * k + 1 + x) 0 - 1) = ap (λ (o : List ℕ). get_elem? o x) row_is ∙ numbers_nth t (8 * k + 1) (queue_in t k) x l in
      let v = each_nth (λ (y : ℕ). (1 ≤ y) × (y ≤ length m.tasks)) (order_of h) x (get_or t (8 * k + 1 + x) 0 - 1) r.order.tasks e in
      (omega arith, omega arith)

  none_behind : RightHome m h → (x : ℕ) → x < 6 → queue_in t k ≤ x → get_or t (8 * k + 1 + x) 0 ≡ 0
  unfolding order_in
  none_behind r x l i =
      let b = collect_front 6 (queue_in t k) (λ y. there t (8 * k + 1 + y)) (λ y. get_or t (8 * k + 1 + y) 0 - 1) refl (λ y j. lt-ltb 0 (get_or t (8 * k + 1 + y) 0) (let v = task_fits r y j in omega arith)) x l i in
      let c = ltb-false 0 (get_or t (8 * k + 1 + x) 0) b in
      omega arith

  pub home_sound : RightHome m h → SoundOrder m t k
  unfolding numbers_in
  home_sound r =
      let a = r.order.low in
      let b = r.order.high in
      let c = w.location in
      order_right t k m (omega arith) (omega arith) (λ x l. record { inside = λ i. task_fits r x i; behind = λ i. none_behind r x l i }) (sym (ap (fits m) row_is) ∙ r.order.fit)

  -- a sound queue is the one that is read
  pub order_is : SoundOrder m t k → order_of h ≡ order_in t k
  unfolding numbers_in
  order_is s = row_is ∙ sym (order_row t k m s.queue)

  pub sound_home : SoundOrder m t k → RightHome m h
  sound_home s = record {
    few = omega (arith, w.count, queue_few t k);
    order = rw (w.location, order_is s) s.order;
    unused = λ x l. w.tasks.unused x (omega (arith, w.count));
  }

  pub home_is : SoundOrder m t k → home_of h ≡ record { location = get_or t (8 * k) 0 - 1; order = order_in t k }
  home_is s = ap (λ (l : ℕ). standing l (order_of h)) w.location ∙ ap (standing (get_or t (8 * k) 0 - 1)) (order_is s)
