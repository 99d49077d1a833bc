-- That a location and a queue order may be lent has one proof at most, so a value can keep it: serves a ghost field and need not be believed.
-- Assumes nothing.
use Rattle.std.specs.Prelude.{List, [], ◌∷◌}
use Rattle.std.proofs.Props.{props}
use Rattle.meaning.specs.Model.{Model}
use Rattle.meaning.specs.Text.RightModel.{Each}
use Rattle.home.specs.declared.Home.{Home}
use Rattle.home.specs.Stands.{RightHome}

-- of each in a list
each_prop : {A : Type 0} (P : A → Type 0) → ((x : A) → IsProp (P x)) → (xs : List A) → IsProp (Each P xs)
each_prop P f [] = Prim.hlevel props
each_prop P f (x ∷ xs) = Prim.hlevel (props, f x, each_prop P f xs)

-- of a location and a queue order
pub home_prop : (m : Model) (h : Home) → IsProp (RightHome m h)
home_prop m h = Prim.hlevel (props, each_prop)
