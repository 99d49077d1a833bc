-- That a table is right has one proof at most, so a value can keep it: serves a ghost field and need not be believed.
-- Assumes nothing.
use Rattle.std.specs.Prelude.{ℕ, List, [], ◌∷◌}
use Rattle.std.proofs.Props.{props}
use Rattle.meaning.specs.Model.{Policy, fps, edf, sjf, Task, Model}
use Rattle.meaning.specs.Text.RightModel.{Each, Ordered, Ranked, RightModel}
use Rattle.model_table.specs.Right.{RightTable}

-- of each in a list
each_prop : {A : Type 0} (P : A → Type 0) → ((x : A) → IsProp (P x)) → (xs : List A) → IsProp (Each P xs)
each_prop P f [] = Prim.hlevel props
each_prop P f (x ∷ xs) = Prim.hlevel (props, f x, each_prop P f xs)

-- of each before each behind it
ordered_prop : {A : Type 0} (R : A → A → Type 0) → ((x y : A) → IsProp (R x y)) → (xs : List A) → IsProp (Ordered R xs)
ordered_prop R f [] = Prim.hlevel props
ordered_prop R f (x ∷ xs) = Prim.hlevel (props, each_prop (R x) (f x) xs, ordered_prop R f xs)

-- of the priorities
ranked_prop : (p : Policy) (xs : List Task) → IsProp (Ranked p xs)
ranked_prop fps xs = Prim.hlevel (props, each_prop, ordered_prop)
ranked_prop edf xs = Prim.hlevel (props, each_prop)
ranked_prop sjf xs = Prim.hlevel (props, each_prop)

-- of a model
model_prop : (m : Model) → IsProp (RightModel m)
model_prop m = Prim.hlevel (props, each_prop, ordered_prop, ranked_prop)

-- of its table
pub right_prop : (t : List ℕ) → IsProp (RightTable t)
right_prop t = Prim.hlevel (props, model_prop)
