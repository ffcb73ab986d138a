-- The second line of a law text.
use Rattle.std.proofs.Common.{◌≡◌, ℕ, List, [], ◌∷◌, get_or, ℤ, pos, nat_abs, ◌≤ℤ◌, Some, Ok, Err, Option, Result, sym, ap, ◌∙◌, arith}
use Rattle.text.specs.Bytes.{line_feed}
use Rattle.text.specs.Forms.{Fit}
use Rattle.text.specs.Lines.{bind, cut_at, next_field, after_field, numbers_of, row_of, padded}
use Rattle.text.specs.declared.faults.TextFault.{TextFault}
use Rattle.text.proofs.Forming.{bind_ok, ok_same, numbers_fit}
use Rattle.laws.specs.Laws.{as_law, kind_at, head_by, head_cut, head_line, size_at}
use Rattle.laws.specs.Limits.{sizes_limits}
use Rattle.laws.specs.declared.faults.LawFault.TheVariants.{Text}
use Rattle.laws.specs.declared.table.LawKind.{LawKind}

-- both sizes, within their limits
pub record Sizes (zs sizes : List ℤ) (left : Option (List ℕ)) : Type 0 where
  pub are : numbers_of 2 2 sizes_limits left ≡ Ok zs
  pub shown : sizes ≡ padded zs
  pub n_is : get_or sizes 0 (pos 0) ≡ get_or zs 0 (pos 0)
  pub m_is : get_or sizes 1 (pos 0) ≡ get_or zs 1 (pos 0)
  pub n_low : pos 1 ≤ℤ get_or sizes 0 (pos 0)
  pub n_high : get_or sizes 0 (pos 0) ≤ℤ pos 4
  pub m_low : pos 1 ≤ℤ get_or sizes 1 (pos 0)
  pub m_high : get_or sizes 1 (pos 0) ≤ℤ pos 2

by_fit : (zs sizes : List ℤ) (left : Option (List ℕ)) → numbers_of 2 2 sizes_limits left ≡ Ok zs → sizes ≡ padded zs → Fit sizes_limits zs → Sizes zs sizes left
by_fit [] sizes left e s h = absurd h
by_fit (a ∷ []) sizes left e s h = absurd h.2
by_fit (a ∷ b ∷ []) sizes left e s h =
    let n : get_or sizes 0 (pos 0) ≡ a = ap (λ t. get_or t 0 (pos 0)) s in
    let m : get_or sizes 1 (pos 0) ≡ b = ap (λ t. get_or t 1 (pos 0)) s in
    record {
      are = e;
      shown = s;
      n_is = n;
      m_is = m;
      n_low = rw n h.0;
      n_high = rw n h.1;
      m_low = rw m h.2.0;
      m_high = rw m h.2.1;
    }
by_fit (a ∷ b ∷ c ∷ zs) sizes left e s h = absurd h.2.2

pub sizes_are : (sizes : List ℤ) (left : Option (List ℕ)) → Ok sizes ≡ row_of 2 1 sizes_limits left → (zs : List ℤ) × Sizes zs sizes left
sizes_are sizes left e =
    let b = bind_ok (numbers_of 2 2 sizes_limits left) (λ zs. Ok (padded zs)) sizes (sym e) in
    (b.0, by_fit b.0 sizes left b.1 (sym (ok_same (padded b.0) sizes b.2)) (numbers_fit 2 2 sizes_limits left b.0 b.1))

head_at : (text bytes rest : List ℕ) (kind : LawKind) (left : Option (List ℕ))
    → Some (bytes, rest) ≡ cut_at line_feed text → Some kind ≡ kind_at (next_field (Some bytes)) → left ≡ after_field (Some bytes)
    → bind (as_law (numbers_of 2 2 sizes_limits left)) (λ zs. Ok (record { kind = kind; states = size_at zs 0; inputs = size_at zs 1 }, rest)) ≡ head_line text
head_at text bytes rest kind left c k l =
    ap (λ t. bind (as_law (numbers_of 2 2 sizes_limits t)) (λ zs. Ok (record { kind = kind; states = size_at zs 0; inputs = size_at zs 1 }, rest))) l
    ∙ ap (λ o. head_by o (after_field (Some bytes)) rest) k ∙ ap head_cut c

row_err : (r : Result (List ℤ) TextFault) (e : TextFault) → Err e ≡ bind r (λ zs. Ok (padded zs)) → r ≡ Err e
row_err (Ok zs) e h = grind arith
row_err (Err d) e h = let k : d ≡ e = cc in ap Err k

pub head_err : (text bytes rest : List ℕ) (kind : LawKind) (left : Option (List ℕ)) (e : TextFault)
    → Some (bytes, rest) ≡ cut_at line_feed text → Some kind ≡ kind_at (next_field (Some bytes)) → left ≡ after_field (Some bytes)
    → Err e ≡ row_of 2 1 sizes_limits left → Err (Text e) ≡ head_line text
head_err text bytes rest kind left e c k l h =
    ap (λ r. bind (as_law r) (λ zs. Ok (record { kind = kind; states = size_at zs 0; inputs = size_at zs 1 }, rest))) (sym (row_err (numbers_of 2 2 sizes_limits left) e h))
    ∙ head_at text bytes rest kind left c k l

pub head_ok : (text bytes rest : List ℕ) (kind : LawKind) (left : Option (List ℕ)) (sizes : List ℤ) (n m : ℕ)
    → Some (bytes, rest) ≡ cut_at line_feed text → Some kind ≡ kind_at (next_field (Some bytes)) → left ≡ after_field (Some bytes)
    → Ok sizes ≡ row_of 2 1 sizes_limits left → n ≡ nat_abs (get_or sizes 0 (pos 0)) → m ≡ nat_abs (get_or sizes 1 (pos 0))
    → Ok (record { kind = kind; states = n; inputs = m }, rest) ≡ head_line text
head_ok text bytes rest kind left sizes n m c k l h en em =
    let s = sizes_are sizes left h in
    let p : n ≡ size_at s.0 0 = en ∙ ap nat_abs s.1.n_is in
    let q : m ≡ size_at s.0 1 = em ∙ ap nat_abs s.1.m_is in
    ap (λ i. Ok (record { kind = kind; states = i; inputs = m }, rest)) p
    ∙ ap (λ i. Ok (record { kind = kind; states = size_at s.0 0; inputs = i }, rest)) q
    ∙ ap (λ r. bind (as_law r) (λ zs. Ok (record { kind = kind; states = size_at zs 0; inputs = size_at zs 1 }, rest))) (sym s.1.are)
    ∙ head_at text bytes rest kind left c k l
