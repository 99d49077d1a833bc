-- The theorems of the model's text: what is read, what is written, what a table stands for, and which tables are refused by 13.
-- Assumes nothing.
use Prim.Native.Nat.{◌<◌, ℕ}
use mathlib.Core.List.{List, [], ◌∷◌}
use mathlib.Core.Logic.{◌↔◌}
use mathlib.Core.Path.{◌∙◌, ◌≡◌, ap, refl, sym}
use native.Mathlib.Omega.{arith}
use lib.ListN.{length}
use Rattle.meaning.proofs.Text.Choices.{by_eq}
use Rattle.meaning.proofs.Text.ModelDecode.{decode_one, text_is}
use Rattle.meaning.proofs.Text.ModelEncode.{decode_encode, encode_length}
use Rattle.meaning.proofs.Text.ModelLaws.{lawful}
use Rattle.meaning.proofs.Text.ModelProper.{encode_proper}
use Rattle.meaning.proofs.Text.ModelRight.{decode_right}
use Rattle.meaning.proofs.Text.ModelWhole.{model_given, model_written, text_short}
use Rattle.meaning.proofs.Text.RecordLaws.{Proper}
use Rattle.meaning.specs.Model.{Model}
use Rattle.meaning.specs.Text.ModelReader.{Given, format, read_model}
use Rattle.meaning.specs.Text.ModelTable.{decode, encode, size}
use Rattle.meaning.specs.Text.ModelText.{model_text}
use Rattle.meaning.specs.Text.Ranges.{text_most}
use Rattle.meaning.specs.Text.Records.{Answer, done, refused, write}
use Rattle.meaning.specs.Text.RightModel.{RightModel}

-- a table that a text gives is proper, and the other way round
pub given_proper : (t : List ℕ) → Given t → Proper format lawful t
given_proper t g = (model_given size g.text t g.reads).proper

pub proper_given : (t : List ℕ) → Proper format lawful t → Given t
proper_given t p = record { text = write format t; reads = model_written t p }

-- for every text: read and then written gives the same bytes
pub read_then_write : (n : ℕ) (s t : List ℕ) → read_model n s ≡ done t → write format t ≡ s
read_then_write n s t e = (model_given n s t e).text

-- for every table that a text gives: written and then read gives the same table
pub write_then_read : (t : List ℕ) → Given t → read_model size (write format t) ≡ done t
write_then_read t g = model_written t (given_proper t g)

-- so a table is one that a text gives exactly when it is read back from what it is written as: refusal 13 can be told by reading
pub given_iff : (t : List ℕ) → Given t ↔ (read_model size (write format t) ≡ done t)
given_iff t = (write_then_read t, λ e. record { text = write format t; reads = e })

-- only one text gives a table
pub given_text : (s t : List ℕ) → read_model size s ≡ done t → s ≡ write format t
given_text s t e = sym (read_then_write size s t e)

-- what a table that was read stands for has all of document 01's ranges
pub given_right : (t : List ℕ) → Given t → RightModel (decode t)
given_right t g = decode_right t (given_proper t g)

-- and every such model has its table
pub right_given : (m : Model) → RightModel m → Given (encode m)
right_given m w = proper_given (encode m) (encode_proper m w)

-- the table of a model that a text can say is written as that model's text
pub encode_text : (m : Model) → RightModel m → write format (encode m) ≡ model_text m
encode_text m w = text_is (encode m) (encode_proper m w) ∙ ap model_text (decode_encode m w)

-- the text of a model that a text can say is read, and gives that model's table
pub text_read : (m : Model) → RightModel m → read_model size (model_text m) ≡ done (encode m)
text_read m w = rw (sym (encode_text m w)) (model_written (encode m) (encode_proper m w))

-- a text that is read is the text of the model that its table holds
pub read_text : (n : ℕ) (s t : List ℕ) → read_model n s ≡ done t → s ≡ model_text (decode t)
read_text n s t e = let g = model_given n s t e in sym g.text ∙ text_is t g.proper

-- a table that a text gives is the table of the model that it holds
pub given_encode : (t : List ℕ) → Given t → encode (decode t) ≡ t
given_encode t g =
    let r = given_right t g in
    decode_one (encode (decode t)) t (encode_proper (decode t) r) (given_proper t g) (decode_encode (decode t) r)

-- the reader answers done exactly for the texts of models
pub read_iff : (s : List ℕ) → ((t : List ℕ) × (read_model size s ≡ done t)) ↔ ((m : Model) × RightModel m × (s ≡ model_text m))
read_iff s = (
  (λ r. (decode r.0, given_right r.0 (record { text = s; reads = r.1 }), read_text size s r.0 r.1)),
  (λ r. (encode r.0, rw r.2 (text_read r.0 r.1))),
)

-- and the model is the only one with that text
pub text_one : (m n : Model) → RightModel m → RightModel n → model_text m ≡ model_text n → m ≡ n
text_one m n v w e =
    let r : ◌≡◌ {A = Answer (List ℕ)} (done (encode m)) (done (encode n)) = sym (text_read m v) ∙ ap (read_model size) e ∙ text_read n w in
    let q : encode m ≡ encode n = cc in
    sym (decode_encode m v) ∙ ap decode q ∙ decode_encode n w

-- every model's text is shorter than 65,535 bytes
pub model_short : (m : Model) → RightModel m → length (model_text m) < text_most
model_short m w = let k = ap length (encode_text m w) in let l = text_short (encode m) in omega arith

-- a table that a text gives is of its full size
pub given_length_lem : (t : List ℕ) → Given t → length t ≡ size
given_length_lem t g = ap length (sym (given_encode t g)) ∙ encode_length (decode t)

-- ---- which tables a text gives can be told

-- two lists of numbers are one, or not
pub by_list {ℓ} : {X : Type ℓ} (a b : List ℕ) → (a ≡ b → X) → ((a ≡ b → ⊥) → X) → X
by_list [] [] f g = f refl
by_list [] (y ∷ b) f g = g (λ e. let z : ◌≡◌ {A = ℕ} 0 1 = cc in omega arith)
by_list (x ∷ a) [] f g = g (λ e. let z : ◌≡◌ {A = ℕ} 0 1 = cc in omega arith)
by_list (x ∷ a) (y ∷ b) f g =
    by_eq x y
    (λ p. by_list a b (λ q. f (cc)) (λ n. g (λ e. let q : a ≡ b = cc in n q)))
    (λ n. g (λ e. let p : x ≡ y = cc in n p))

-- a text gives the table, or none does
pub by_given {ℓ} : {X : Type ℓ} (t : List ℕ) → (read_model size (write format t) ≡ done t → X) → ((Given t → ⊥) → X) → X
by_given {X = X} t f g = go (read_model size (write format t)) refl
  where
    go : (a : Answer (List ℕ)) → read_model size (write format t) ≡ a → X
    go (done u) e =
        by_list u t (λ q. f (e ∙ ap done q))
        (λ n. g (λ w.
        let h : ◌≡◌ {A = Answer (List ℕ)} (done u) (done t) = sym e ∙ write_then_read t w in
        let q : u ≡ t = cc in
        n q))
    go (refused k p) e = g (λ w. let h : refused k p ≡ done t = sym e ∙ write_then_read t w in let z : ◌≡◌ {A = ℕ} 0 1 = cc in omega arith)
