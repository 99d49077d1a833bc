-- Reading a text of records that are put one behind the other: it answers done exactly for the lines of records that may stand so, and EN.
-- Proved once, for any such text that is lawful.
-- Assumes nothing.
use Prim.Native.Nat.{◌+◌, ◌<◌, ◌≤◌, suc, zero, ℕ}
use mathlib.Core.List.{List, [], ◌++◌, ◌∷◌, append_assoc}
use mathlib.Core.Path.{◌∙◌, ◌≡◌, ap, refl, subst, sym}
use native.Mathlib.Omega.{arith}
use lib.ListN.{drop, length}
use Rattle.meaning.proofs.Text.Choices.{nonsense}
use Rattle.meaning.proofs.Text.Places.{here_in}
use Rattle.meaning.specs.Text.ModelText.{texts}
use Rattle.meaning.specs.Text.RecordRow.{Met, Row, closed, next, read, run, turn, wrong}
use Rattle.meaning.specs.Text.Records.{done}

-- what such a text has to meet
pub record Lawful {M W : Type 0} (R : Row M W) : Type 1 where
  pub Good : M → Type 0
  pub Ok : M → W → Type 0
  pub Full : M → Type 0
  pub good_start : Good R.start
  pub good_put : (m : M) (w : W) → Good m → Ok m w → Good (R.put m w)
  pub last_some : 0 < length R.last
  -- what was met tells what stands there
  pub next_inv : (s : List ℕ) (at : ℕ) (m : M) (w : W) (k : ℕ) → Good m → R.look s at m ≡ next w k → Ok m w × (drop at s ≡ R.line w ++ drop k s)
  pub closed_inv : (s : List ℕ) (at : ℕ) (m : M) → Good m → R.look s at m ≡ closed → Full m × (drop at s ≡ R.last)
  -- what stands there is met
  pub next_read : (s : List ℕ) (at : ℕ) (m : M) (w : W) (r : List ℕ) → Good m → Ok m w → drop at s ≡ R.line w ++ r
      → (k : ℕ) × (R.look s at m ≡ next w k) × (drop k s ≡ r) × (at < k)
  pub closed_read : (s : List ℕ) (at : ℕ) (m : M) → Good m → Full m → drop at s ≡ R.last → R.look s at m ≡ closed

module _ {M W : Type 0} (R : Row M W) (L : Lawful R) where
  -- records that may stand one behind the other after m, and what was read after them
  abbrev pub Chain : M → List W → M → Type 0
  Chain m [] out = m ≡ out
  Chain m (w ∷ ws) out = L.Ok m w × Chain (R.put m w) ws out

  -- the records of a text from `at` on, after m, that was read to `out`
  pub record Found (m : M) (s : List ℕ) (at : ℕ) (out : M) : Type 0 where
    pub records : List W
    pub chain : Chain m records out
    pub good : L.Good out
    pub full : L.Full out
    pub text : drop at s ≡ texts R.line records ++ R.last

  finds : (f : ℕ) (s : List ℕ) (at : ℕ) (m out : M) → L.Good m → run R f s at m ≡ done out → Found m s at out
  unfolding run turn texts
  finds zero s at m out g e = nonsense (cc)
  finds (suc f) s at m out g e = go (R.look s at m) refl (λ a' m'. finds f s a' m' out) e
    where
      go : (x : Met W) → R.look s at m ≡ x → ((a' : ℕ) (m' : M) → L.Good m' → run R f s a' m' ≡ done out → Found m' s a' out) → turn R (run R f s) m x ≡ done out
          → Found m s at out
      go (next w k) l ih q =
          let v = L.next_inv s at m w k g l in
          let r = ih k (R.put m w) (L.good_put m w g v.0) q in
          record {
            records = w ∷ r.records;
            chain = (v.0, r.chain);
            good = r.good;
            full = r.full;
            text = v.1 ∙ ap (λ (l : List ℕ). R.line w ++ l) r.text ∙ sym (append_assoc (R.line w) (texts R.line r.records) R.last);
          }
      go closed l ih q =
          let o : m ≡ out = cc in
          let v = L.closed_inv s at m g l in
          record { records = []; chain = o; good = subst L.Good o g; full = subst L.Full o v.0; text = v.1 }
      go (wrong k p) l ih q = nonsense (cc)

  -- a text that is read has records that may stand so, and nothing else
  pub read_found : (s : List ℕ) (out : M) → read R s ≡ done out → Found R.start s 0 out
  unfolding read
  read_found s out e = finds (length s + 1) s 0 R.start out L.good_start e

  reads : (ws : List W) (f : ℕ) (s : List ℕ) (at : ℕ) (m out : M) → L.Good m → Chain m ws out → L.Full out → drop at s ≡ texts R.line ws ++ R.last
      → length s < at + f → at ≤ length s → run R f s at m ≡ done out
  unfolding run turn texts
  reads ws zero s at m out g c h e l b = absurd (omega arith)
  reads [] (suc f) s at m out g c h e l b =
      rw (L.closed_read s at m g (subst L.Full (sym c) h) e) (ap done c)
  reads (w ∷ ws) (suc f) s at m out g c h e l b =
      let x = L.next_read s at m w (texts R.line ws ++ R.last) g c.0 (e ∙ append_assoc (R.line w) (texts R.line ws) R.last) in
      let y = here_in s x.0 (texts R.line ws) R.last L.last_some x.2 in
      let z = x.3 in
      rw x.1 (reads ws f s x.0 (R.put m w) out (L.good_put m w g c.0) c.1 h x.2 (omega arith) y)

  -- and every text of such records is read
  pub found_read : (ws : List W) (out : M) → Chain R.start ws out → L.Full out → read R (texts R.line ws ++ R.last) ≡ done out
  unfolding read
  found_read ws out c h =
      reads ws (length (texts R.line ws ++ R.last) + 1) (texts R.line ws ++ R.last) 0 R.start out L.good_start c h refl (omega arith) (omega arith)

  -- records, and then more of them
  pub chain_append : (vs ws : List W) (m n out : M) → Chain m vs n → Chain n ws out → Chain m (vs ++ ws) out
  chain_append [] ws m n out c d = subst (λ (x : M). Chain x ws out) (sym c) d
  chain_append (v ∷ vs) ws m n out c d = (c.0, chain_append vs ws (R.put m v) n out c.1 d)
