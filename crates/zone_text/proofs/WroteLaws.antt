-- That the writer's contract settles the answer and the buffer.
-- Assumes nothing.
use Prim.Native.Nat.{ℕ}
use mathlib.Core.Path.{◌≡◌, sym, ◌∙◌, ap, ap₂}
use mathlib.Core.Bool.{true}
use mathlib.Core.List.{List, List-discrete}
use native.Mathlib.Decide.{ℕ_discrete}
use lib.ListN.{length}
use Rattle.std.specs.Prelude.{Result, Ok, Err}
use Rattle.meaning.specs.Text.Records.{Answer, done, refused, write}
use Rattle.meaning.specs.Text.ModelTable as parts
use Rattle.meaning.specs.Text.ModelReader as reader
use Rattle.meaning.specs.Text.ProposalReader.{read_proposal}
use Rattle.meaning.specs.Text.ProposalTable.{size}
use Rattle.meaning.proofs.Text.Choices.{by_lt, nonsense}
use Rattle.meaning.proofs.Text.ModelTheorems as theorems
use Rattle.meaning.proofs.Text.ProposalTheorems.{proposal_given_iff}
use Rattle.zone_text.specs.Wrote.{written, GivenBoth, text_of, WroteProposal}
use Rattle.refusals.specs.declared.Reason.{Reason}
use Rattle.refusals.specs.declared.Refusal.{Refusal}
use Rattle.refusals.specs.Number.{number_of}
use Rattle.refusals.proofs.Once.{number_once}

-- ---- any two results coincide

read_dec : (a : Answer (List ℕ)) (t : List ℕ) → Dec (a ≡ done t)
read_dec (refused k p) t = no (λ e. nonsense (cc))
read_dec (done x) t = go (List-discrete ℕ_discrete x t)
  where
    go : Dec (x ≡ t) → Dec (done x ≡ done t)
    go (yes e) = yes (ap done e)
    go (no n) = no (λ e. n (cc))

model_dec : (u : List ℕ) → Dec (reader.Given u)
model_dec u = go (read_dec (reader.read_model parts.size (write reader.format u)) u)
  where
    go : Dec (reader.read_model parts.size (write reader.format u) ≡ done u) → Dec (reader.Given u)
    go (yes e) = yes ((theorems.given_iff u).1 e)
    go (no n) = no (λ g. n ((theorems.given_iff u).0 g))

both_dec : (u t : List ℕ) → Dec (GivenBoth u t)
both_dec u t = go (model_dec u)
  where
    table : reader.Given u → Dec (read_proposal true (parts.decode u) size (text_of t) ≡ done t) → Dec (GivenBoth u t)
    table g (yes e) = yes (record { model = g; table = (proposal_given_iff (parts.decode u) (theorems.given_right u g) t).1 e })
    table g (no n) = no (λ w. n ((proposal_given_iff (parts.decode u) (theorems.given_right u g) t).0 w.table))

    go : Dec (reader.Given u) → Dec (GivenBoth u t)
    go (yes g) = table g (read_dec (read_proposal true (parts.decode u) size (text_of t)) t)
    go (no n) = no (λ w. n w.model)

-- an answer has one case
written_one : (r s : Result ℕ Refusal) → written r ≡ written s → r ≡ s
written_one (Ok n) (Ok l) e = let q : n ≡ l = cc in ap Ok q
written_one (Ok n) (Err f) e = nonsense (cc)
written_one (Err e) (Ok n) f = nonsense (cc)
written_one (Err e) (Err f) h =
    let x : number_of e.reason ≡ number_of f.reason = cc in
    let y : e.place ≡ f.place = cc in
    ap₂ (λ (r : Reason) (p : ℕ). Err (record { reason = r; place = p })) (number_once e.reason f.reason x) y

pub write_once : (u t b c d : List ℕ) (r s : Result ℕ Refusal) → WroteProposal u t b r c → WroteProposal u t b s d → (r ≡ s) × (c ≡ d)
write_once u t b c d r s v w = go (both_dec u t)
  where
    join : {x : Answer ℕ} {y : List ℕ} → (written r ≡ x) × (c ≡ y) → (written s ≡ x) × (d ≡ y) → (r ≡ s) × (c ≡ d)
    join p q = (written_one r s (p.0 ∙ sym q.0), p.1 ∙ sym q.1)

    go : Dec (GivenBoth u t) → (r ≡ s) × (c ≡ d)
    go (no n) = join (v.none n) (w.none n)
    go (yes g) = by_lt (length b) (length (text_of t)) (λ l. join (v.short g l) (w.short g l)) (λ l. join (v.text g l) (w.text g l))
