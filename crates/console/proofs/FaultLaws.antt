-- Laws of the fault's part: what the two readers answered, and what is shown then.
-- Assumes nothing.
use Prim.Native.Nat.{ℕ, ◌+◌, ◌-◌, ◌≤◌}
use mathlib.Core.Path.{◌≡◌, sym, ap, subst}
use mathlib.Core.List.{List}
use mathlib.Core.Bool.{true}
use native.Mathlib.Omega.{arith}
use lib.ListN.{length, take, drop}
use Rattle.std.specs.Prelude.{Result, Ok, Err}
use borrow.Rule.Slice.PartAt.{sl_partˢ}
use denote.Ref.{Bor}
use Rattle.meaning.specs.Text.Records.{Answer}
use Rattle.meaning.specs.Text.ModelTable.{size, decode}
use Rattle.meaning.specs.Text.ModelReader.{read_model, Given}
use Rattle.meaning.specs.Text.ProposalTable as proposal
use Rattle.meaning.specs.Text.ProposalReader.{read_proposal}
use Rattle.refusals.specs.declared.Refusal.{Refusal}
use Rattle.refusals.specs.Number.{number_of}
use Rattle.model_text.specs.Meant as model
use Rattle.zone_text.specs.Meant.{meant, ReadOver}
use Rattle.console.specs.Part.{part_at, proposal_part, part_by, part_of, Shows, ShowsIn}
use Rattle.console.proofs.ReadLaws.{proposal_answer, model_answer}
use Rattle.console.proofs.PlaceLaws.{model_refusal, proposal_refusal}

-- nothing, at the text's end
end_shown : (text : Bor (List ℕ))
    → Shows text (record { place = length text.now; size = 0 }) (sl_partˢ text (length text.now + text.ref_ptr.1) (length text.now) (length text.now))
end_shown text =
    let z : length text.now + text.ref_ptr.1 ≡ text.ref_ptr.1 + length text.now = omega arith in
    let d : length text.now - length text.now ≡ 0 = omega arith in
    record { begins = ap (λ (o : ℕ). (text.ref_ptr.0, o)) z; bytes = ap (λ (k : ℕ). take k (drop (length text.now) text.now)) d }

-- ---- the proposal's text

module _ (b : List ℕ) (text : Bor (List ℕ)) (t t' : List ℕ) (r : Result Unit Refusal) (z : length t ≡ proposal.size) (g : Given b) (w : ReadOver b text.now t r t') where
  answer : (x : Result Unit Refusal) → r ≡ x → read_proposal true (decode b) proposal.size text.now ≡ meant x t'
  answer = proposal_answer b text.now t t' r z g w

  pub proposal_place : (f : Refusal) → r ≡ Err f → f.place ≤ length text.now
  proposal_place f e = (proposal_refusal (decode b) text.now (number_of f.reason) f.place (answer (Err f) e)).0

  pub proposal_fault : (f : Refusal) (x : Bor (List ℕ)) → r ≡ Err f → Shows text (part_at text.now f.place) x
      → Shows text (proposal_part text.now (read_proposal true (decode b) proposal.size text.now)) x
  proposal_fault f x e h = subst (λ (a : Answer (List ℕ)). Shows text (proposal_part text.now a) x) (sym (answer (Err f) e)) h

  pub proposal_none : r ≡ Ok tt
      → Shows text (proposal_part text.now (read_proposal true (decode b) proposal.size text.now))
      (sl_partˢ text (length text.now + text.ref_ptr.1) (length text.now) (length text.now))
  proposal_none e =
      subst (λ (a : Answer (List ℕ)). Shows text (proposal_part text.now a) (sl_partˢ text (length text.now + text.ref_ptr.1) (length text.now) (length text.now)))
      (sym (answer (Ok tt) e)) (end_shown text)

-- ---- the model's text

module _ (text other : Bor (List ℕ)) (t t' : List ℕ) (r : Result Unit Refusal) (z : length t ≡ size) (w : model.Answered (length t) (read_model (length t) text.now) r t') where
  reads : (x : Result Unit Refusal) → r ≡ x → read_model size text.now ≡ model.meant x t'
  reads = model_answer text.now t t' r z w

  pub model_place : (f : Refusal) → r ≡ Err f → f.place ≤ length text.now
  model_place f e = (model_refusal text.now (number_of f.reason) f.place (reads (Err f) e)).0

  pub model_fault : (f : Refusal) (x : Bor (List ℕ)) → r ≡ Err f → Shows text (part_at text.now f.place) x
      → ShowsIn (part_of text.now other.now) text other x
  model_fault f x e h = subst (λ (a : Answer (List ℕ)). ShowsIn (part_by text.now other.now a) text other x) (sym (reads (Err f) e)) h

  pub model_none : (x : Bor (List ℕ)) → r ≡ Ok tt → Shows other (proposal_part other.now (read_proposal true (decode t') proposal.size other.now)) x
      → ShowsIn (part_of text.now other.now) text other x
  model_none x e h = subst (λ (a : Answer (List ℕ)). ShowsIn (part_by text.now other.now a) text other x) (sym (reads (Ok tt) e)) h
