-- What every release and every tick keeps holds of the queue in every state of every run.
-- Assumes nothing.
use mathlib.Core.Path.{◌≡◌, refl, ◌∙◌, ap}
use mathlib.Core.Bool.{Bool, true, false, cond}
use mathlib.Core.List.{List, [], ◌∷◌, Memᴰ}
use mathlib.Core.Option.{Option, none, some}
use Prim.Native.Nat.{ℕ, zero, suc}
use Rattle.meaning.specs.Lists.{nth1}
use Rattle.meaning.specs.Model.{Edge, Model, released, released_at_start}
use Rattle.meaning.specs.Machine.State.{Job, State, order}
use Rattle.meaning.specs.Machine.Place.{place_of}
use Rattle.meaning.specs.Machine.Release.{overflows, overflows_any, put, put_all}
use Rattle.meaning.specs.Machine.Tick.{served, finishes, tick_to, late}
use Rattle.meaning.specs.Machine.Edge.{entered}
use Rattle.meaning.specs.Machine.Step.{Event, tick, edge, went, overflow, judged, moved_by, act, after}
use Rattle.meaning.specs.Machine.Run.{start, Run, begin, more}
use Rattle.meaning.proofs.Tests.{or_left, or_right}
use Rattle.meaning.proofs.Hooks.{start_fits}
use Rattle.meaning.proofs.Machine.Place.{order_put}
use Rattle.meaning.proofs.Machine.Proper.{overflows_any_insert_at}

-- R holds of each task that an edge of the model or the start releases; P of the empty queue, and a release that does not overflow and a tick keep it
module _ (m : Model) (R : ℕ → Type 0) (P : List Job → Type 0)
    (named : (k : ℕ) (e : Edge) → nth1 m.edges k ≡ some e → (t : ℕ) → Memᴰ t (released m e) → R t)
    (named_start : (t : ℕ) → Memᴰ t (released_at_start m) → R t)
    (empty : P [])
    (put_Keeps : (t : ℕ) (q : List Job) → R t → overflows m t (order q) ≡ false → P q → P (put m t q))
    (served-keeps : (b : Bool) (q : List Job) → P q → P (served b q)) where
  put_all_keeps : (ts : List ℕ) (q : List Job) → ((t : ℕ) → Memᴰ t ts → R t) → overflows_any m ts (order q) ≡ false → P q → P (put_all m ts q)
  put_all_keeps [] q each free o = o
  put_all_keeps (t ∷ ts) q each free o =
      put_all_keeps ts (put m t q) (λ u h. each u (Memᴰ.tail h))
      (ap (overflows_any m ts) (order_put m t q) ∙ overflows_any_insert_at m ts (place_of m t q) t (order q)
      ∙ or_right (overflows m t (order q)) (overflows_any m ts (t ∷ order q)) free)
      (put_Keeps t q (each t (Memᴰ.head refl)) (or_left (overflows m t (order q)) (overflows_any m ts (t ∷ order q)) free) o)

  start_keeps : P (start m).queue
  start_keeps = put_all_keeps (released_at_start m) [] named_start (start_fits m) empty

  edge_keeps : (s : State) (k : ℕ) (e : Edge) → nth1 m.edges k ≡ some e → overflows_any m (released m e) (order s.queue) ≡ false → P s.queue → P (entered m s e).queue
  edge_keeps s k e at free o = put_all_keeps (released m e) s.queue (named k e at) free o

  moved_keeps : (s : State) (k : ℕ) (x : Option Edge) → nth1 m.edges k ≡ x → P s.queue → P (after s (moved_by m s x)).queue
  moved_keeps s k none at o = o
  moved_keeps s k (some e) at o = go (overflows_any m (released m e) (order s.queue)) refl
    where
      go : (b : Bool) → overflows_any m (released m e) (order s.queue) ≡ b → P (after s (cond b overflow (went (entered m s e)))).queue
      go true q = o
      go false q = edge_keeps s k e at q o

  tick_keeps : (s : State) → P s.queue → P (after s (act m s tick)).queue
  tick_keeps s o = go (late m (tick_to m s).queue)
    where
      go : (k : ℕ) → P (after s (judged (tick_to m s) k)).queue
      go zero = served-keeps (finishes m s.queue) s.queue o
      go (suc k) = served-keeps (finishes m s.queue) s.queue o

  act_keeps : (s : State) (ev : Event) → P s.queue → P (after s (act m s ev)).queue
  act_keeps s tick o = tick_keeps s o
  act_keeps s (edge k) o = moved_keeps s k (nth1 m.edges k) refl o

  pub run_keeps : {s : State} → Run m s → P s.queue
  run_keeps begin = start_keeps
  run_keeps (more {s = s} r ev a) = rw a (act_keeps s ev (run_keeps r))
