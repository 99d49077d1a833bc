-- The table of a proposal that a text can say holds that proposal.
-- Assumes nothing.
use Prim.Native.Nat.{◌%◌, ◌*◌, ◌+◌, ◌-◌, ◌/◌, ◌<◌, ◌≤◌, suc, zero, ℕ}
use mathlib.Core.List.{List, [], ◌++◌, ◌∷◌, append_assoc, append-nil, map}
use mathlib.Core.Option.{Option, none, some}
use mathlib.Core.Path.{◌∙◌, ◌≡◌, ap, refl, sym}
use native.Mathlib.Omega.{arith}
use lib.ListN.{drop, get_or, get_elem?, length, length-append, take}
use borrow.Author.Tests.{le-ltb, lt-ltb, ne_eqb}
use Rattle.meaning.proofs.Text.BoundLaws.{key_rising, lowered_of}
use Rattle.meaning.proofs.Text.Choices.{nonsense}
use Rattle.meaning.proofs.Text.Keyed.{collect_all, collect_same, each_map, each_nth, keyed_collect, nth_in, nth_some, ordered_map}
use Rattle.meaning.proofs.Text.ModelEncode.{tabulate_at, tabulate_length}
use Rattle.meaning.specs.Model.{Bound, Model}
use Rattle.meaning.specs.Text.Lines.{lowered_by, raised_by}
use Rattle.meaning.specs.Text.ModelReader.{words}
use Rattle.meaning.specs.Text.ModelTable.{there}
use Rattle.meaning.specs.Text.ProposalTable.{all_claims, bound_cell, bounds_in, cell, cell_of, claims_in, decode, encode, end_in, head_cell, order_in, pool_size, size, start_in, zone_in}
use Rattle.meaning.specs.Text.Ranges.{bound_most}
use Rattle.meaning.specs.Text.RightModel.{RightModel}
use Rattle.meaning.specs.Text.RightProposal.{RightProposal, RightZone}
use Rattle.meaning.specs.Zones.Variables.{variables}
use Rattle.meaning.specs.Zones.Zone.{Proposal, Zone}

-- ---- parts of a list

pub nth_past : {A : Type 0} (xs ys : List A) (k : ℕ) → get_elem? (xs ++ ys) (length xs + k) ≡ get_elem? ys k
nth_past [] ys k = let z : 0 + k ≡ k = omega arith in ap (get_elem? ys) z
nth_past (x ∷ xs) ys k = let z : suc (length xs) + k ≡ suc (length xs + k) = omega arith in rw z (nth_past xs ys k)

pub nth_before : {A : Type 0} (xs ys : List A) (k : ℕ) → k < length xs → get_elem? (xs ++ ys) k ≡ get_elem? xs k
nth_before [] ys k h = absurd (omega arith)
nth_before (x ∷ xs) ys zero h = refl
nth_before (x ∷ xs) ys (suc k) h = nth_before xs ys k (omega arith)

-- the claims in front of zone k + 1, its own, and those behind it
claims_split : (zs : List Zone) (k : ℕ) (z : Zone) → get_elem? zs k ≡ some z
    → (all_claims zs ≡ all_claims (take k zs) ++ (z.claims ++ all_claims (drop (suc k) zs))) × (all_claims (take (suc k) zs) ≡ all_claims (take k zs) ++ z.claims)
claims_split [] k z e = nonsense (cc)
claims_split (y ∷ zs) zero z e = let q : y ≡ z = cc in rw q (refl, append-nil z.claims)
claims_split (y ∷ zs) (suc k) z e =
    let i = claims_split zs k z e in (
      ap (λ (l : List ℕ). y.claims ++ l) i.0 ∙ sym (append_assoc y.claims (all_claims (take k zs)) (z.claims ++ all_claims (drop (suc k) zs))),
      ap (λ (l : List ℕ). y.claims ++ l) i.1 ∙ sym (append_assoc y.claims (all_claims (take k zs)) z.claims),
    )

-- numbers that stand in a row of cells
words_row : (t cs : List ℕ) (k : ℕ) → ((x v : ℕ) → get_elem? cs x ≡ some v → get_or t (k + x) 0 ≡ suc v) → map (λ (x : ℕ). x - 1) (words t k (length cs)) ≡ cs
unfolding words
words_row t [] k h = refl
words_row t (c ∷ cs) k h =
    let z : k + 0 ≡ k = omega arith in
    let a : get_or t k 0 ≡ suc c = rw z at (h 0 c refl) in
    let b : suc c - 1 ≡ c = omega arith in
    rw (a, b) (ap (λ (l : List ℕ). c ∷ l)
    (words_row t cs (suc k) (λ x v e. let y : suc k + x ≡ k + suc x = omega arith in rw y (h (suc x) v e))))

-- ---- a cell of the table

pub encode_length : (p : Proposal) → length (encode p) ≡ size
unfolding encode
encode_length p = tabulate_length size (cell p.zones)

module _ (p : Proposal) where
  abbrev table : List ℕ
  table = encode p

  cell_at : (k : ℕ) → k < size → get_or table k 0 ≡ cell p.zones k
  unfolding encode
  cell_at k h = tabulate_at size (cell p.zones) k h

  pub head_cell_lem : (k r : ℕ) → k < 48 → r < 8 → get_or table (8 * k + r) 0 ≡ head_cell (get_elem? p.zones k) (length (all_claims (take (suc k) p.zones))) r
  unfolding cell
  head_cell_lem k r h l =
      let d : (8 * k + r) / 8 ≡ k = omega arith in
      let e : (8 * k + r) % 8 ≡ r = omega arith in
      cell_at (8 * k + r) (omega arith) ∙ rw (lt-ltb (8 * k + r) 384 (omega arith), d, e)

  pub bound_cell_lem : (k r : ℕ) → k < 48 → r < 289 → get_or table (384 + 289 * k + r) 0 ≡ bound_cell (get_elem? p.zones k) r
  unfolding cell
  bound_cell_lem k r h l =
      let d : (384 + 289 * k + r - 384) / 289 ≡ k = omega arith in
      let e : (384 + 289 * k + r - 384) % 289 ≡ r = omega arith in
      cell_at (384 + 289 * k + r) (omega arith) ∙ rw (le-ltb (384 + 289 * k + r) 384 (omega arith), lt-ltb (384 + 289 * k + r) 14256 (omega arith), d, e)

  pub pool_cell : (x : ℕ) → x < pool_size → get_or table (14256 + x) 0 ≡ cell_of (get_elem? (all_claims p.zones) x)
  unfolding cell
  pool_cell x h =
      let d : 14256 + x - 14256 ≡ x = omega arith in
      cell_at (14256 + x) (omega arith) ∙ rw (le-ltb (14256 + x) 384 (omega arith), le-ltb (14256 + x) 14256 (omega arith), d)

  -- ---- the parts of a zone that is there

  module _ (k : ℕ) (z : Zone) (h : k < 48) (e : get_elem? p.zones k ≡ some z) where
    pub location_cell_lem : get_or table (8 * k) 0 ≡ suc z.location
    unfolding head_cell
    location_cell_lem =
        let y : 8 * k + 0 ≡ 8 * k = omega arith in
        let c : get_or table (8 * k + 0) 0 ≡ suc z.location = head_cell_lem k 0 h (omega arith) ∙ rw e in
        rw y at c

    pub task_cell_lem : (x : ℕ) → x < 6 → get_or table (8 * k + 1 + x) 0 ≡ cell_of (get_elem? z.order x)
    unfolding head_cell
    task_cell_lem x l =
        let y : 8 * k + 1 + x ≡ 8 * k + (1 + x) = omega arith in
        let w : 1 + x - 1 ≡ x = omega arith in
        ap (λ (i : ℕ). get_or table i 0) y ∙ head_cell_lem k (1 + x) h (omega arith) ∙ rw (e, ne_eqb (1 + x) 0 (omega arith), lt-ltb (1 + x) 7 (omega arith), w)

    pub end_cell : get_or table (8 * k + 7) 0 ≡ length (all_claims (take (suc k) p.zones))
    unfolding head_cell
    end_cell = head_cell_lem k 7 h (omega arith) ∙ rw e

  pub none_cell : (k : ℕ) → k < 48 → get_elem? p.zones k ≡ none → get_or table (8 * k) 0 ≡ 0
  unfolding head_cell
  none_cell k h e =
      let y : 8 * k + 0 ≡ 8 * k = omega arith in
      let c : get_or table (8 * k + 0) 0 ≡ 0 = head_cell_lem k 0 h (omega arith) ∙ rw e in
      rw y at c

-- ---- the proposal of the table

module _ (m : Model) (r : RightModel m) (p : Proposal) (w : RightProposal m p) (room : length (all_claims p.zones) ≤ pool_size) where
  abbrev zones : List Zone
  zones = p.zones

  abbrev cells : List ℕ
  cells = encode p

  module _ (k : ℕ) (z : Zone) (h : k < 48) (e : get_elem? zones k ≡ some z) where
    right : RightZone m (length zones) z
    right = each_nth (RightZone m (length zones)) zones k z w.zones e

    order_is : order_in cells k ≡ z.order
    unfolding order_in
    order_is =
        collect_all z.order (λ x. there cells (8 * k + 1 + x)) (λ x. get_or cells (8 * k + 1 + x) 0 - 1) 6 right.order.few
        (λ x t l q.
        let c : get_or cells (8 * k + 1 + x) 0 ≡ suc t = task_cell_lem p k z h e x l ∙ ap cell_of q in
        let d : suc t - 1 ≡ t = omega arith in
        (lt-ltb 0 (get_or cells (8 * k + 1 + x) 0) (omega arith), rw (c, d)))
        (λ x l q. let c : get_or cells (8 * k + 1 + x) 0 ≡ 0 = task_cell_lem p k z h e x l ∙ ap cell_of q in le-ltb 0 (get_or cells (8 * k + 1 + x) 0) (omega arith))

    bounds_are : bounds_in cells k ≡ z.bounds
    unfolding bounds_in bound_cell
    bounds_are =
        let b = right.bounds in
        let few = r.clocks in
        let o = right.order.few in
        collect_same 289 _ _ _ _ (λ x i.
        let c : get_or cells (384 + 289 * k + x) 0 ≡ bound_cell (some z) x = bound_cell_lem p k x h i ∙ ap (λ (y : Option Zone). bound_cell y x) e in
        let u : 0 + x ≡ x = omega arith in
        (rw (c, u), rw (c, u)))
        ∙ keyed_collect (λ (b : Bound). 17 * b.i + b.j) (λ (b : Bound). raised_by bound_most b.c) (λ a v. record { i = a / 17; j = a % 17; c = lowered_by bound_most v }) 0 289 z.bounds
        (ordered_map z.bounds (λ a c x y v. key_rising 17 (variables m z.order - 1) bound_most a c (omega arith) x y v) b.each b.rising)
        (each_map z.bounds (λ y x.
        let a₁ = x.i in
        let a₂ = x.j in
        let i₁ : (17 * y.i + y.j) / 17 ≡ y.i = omega arith in
        let j₁ : (17 * y.i + y.j) % 17 ≡ y.j = omega arith in
        (omega arith, omega arith, rw (i₁, j₁, lowered_of bound_most y.c x.least)))
        b.each)

  starts : (k : ℕ) → k < 48 → k < length zones → start_in cells k ≡ length (all_claims (take k zones))
  starts zero h l = refl
  starts (suc k) h l = let n = nth_in zones k (omega arith) in end_cell p k n.0 (omega arith) n.1

  claims_are : (k : ℕ) (z : Zone) → k < 48 → get_elem? zones k ≡ some z → claims_in cells k ≡ z.claims
  unfolding claims_in
  claims_are k z h e =
      let s = claims_split zones k z e in
      let a = starts k h (nth_some zones k z e) in
      let b : end_in cells k ≡ length (all_claims (take k zones)) + length z.claims = end_cell p k z h e ∙ ap length s.1 ∙ length-append (all_claims (take k zones)) z.claims in
      let n : end_in cells k - start_in cells k ≡ length z.claims = omega arith in
      let q = ap length s.0 ∙ length-append (all_claims (take k zones)) (z.claims ++ all_claims (drop (suc k) zones)) in
      let q' = length-append z.claims (all_claims (drop (suc k) zones)) in
      rw (n, a) (words_row cells z.claims (14256 + length (all_claims (take k zones)))
      (λ x v i.
      let y : 14256 + length (all_claims (take k zones)) + x ≡ 14256 + (length (all_claims (take k zones)) + x) = omega arith in
      let l = nth_some z.claims x v i in
      rw (
        y,
        pool_cell p (length (all_claims (take k zones)) + x) (omega arith),
        s.0,
        nth_past (all_claims (take k zones)) (z.claims ++ all_claims (drop (suc k) zones)) x,
        nth_before z.claims (all_claims (drop (suc k) zones)) x l,
        i,
      )))

  -- the table of a proposal holds that proposal
  pub decode_encode : decode (encode p) ≡ p
  unfolding decode zone_in
  decode_encode =
      let n = w.high in
      ap (λ (zs : List Zone). record { zones = zs })
      (collect_all zones (λ x. there cells (8 * x)) (zone_in cells) 48 w.high
      (λ k z h e.
      let c = location_cell_lem p k z h e in
      let b : get_or cells (8 * k) 0 - 1 ≡ z.location = omega arith in
      (lt-ltb 0 (get_or cells (8 * k) 0) (omega arith), rw (b, order_is k z h e, bounds_are k z h e, claims_are k z h e)))
      (λ k h e. let c = none_cell p k h e in le-ltb 0 (get_or cells (8 * k) 0) (omega arith)))
