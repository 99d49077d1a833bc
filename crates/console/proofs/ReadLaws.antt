-- What the two readers answered, with tables of their full size.
-- Assumes nothing.
use Prim.Native.Nat.{ℕ}
use mathlib.Core.Path.{◌≡◌, sym, ap, ◌∙◌}
use mathlib.Core.List.{List}
use mathlib.Core.Bool.{true}
use lib.ListN.{length}
use Rattle.std.specs.Prelude.{Result, Ok}
use Rattle.meaning.specs.Text.ModelTable.{size, decode}
use Rattle.meaning.specs.Text.ModelReader.{read_model, Given}
use Rattle.meaning.specs.Text.ProposalTable as proposal
use Rattle.meaning.specs.Text.ProposalReader.{read_proposal}
use Rattle.refusals.specs.declared.Refusal.{Refusal}
use Rattle.model_text.specs.Meant as model
use Rattle.zone_text.specs.Meant.{meant, ReadOver}

pub proposal_answer : (b s t t' : List ℕ) (r : Result Unit Refusal) → length t ≡ proposal.size → Given b → ReadOver b s t r t' → (x : Result Unit Refusal) → r ≡ x
    → read_proposal true (decode b) proposal.size s ≡ meant x t'
proposal_answer b s t t' r z g w x e = ap (λ (n : ℕ). read_proposal true (decode b) n s) (sym z) ∙ sym (w.over g).answer ∙ ap (λ (y : Result Unit Refusal). meant y t') e

module _ (s t t' : List ℕ) (r : Result Unit Refusal) (z : length t ≡ size) (w : model.Answered (length t) (read_model (length t) s) r t') where
  pub model_answer : (x : Result Unit Refusal) → r ≡ x → read_model size s ≡ model.meant x t'
  model_answer x e = ap (λ (n : ℕ). read_model n s) (sym z) ∙ sym w.answer ∙ ap (λ (y : Result Unit Refusal). model.meant y t') e

  -- the table that was read is one that a text gives
  pub model_given : r ≡ Ok tt → Given t'
  model_given e = record { text = s; reads = model_answer (Ok tt) e }
