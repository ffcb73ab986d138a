-- One turn of the loop that sums the products of two lists.
use Rattle.std.proofs.Common.{◌≡◌, ℕ, ◌+◌, ◌*◌, ◌<◌, ◌≤◌, List, length, get_or, drop, ℤ, pos, ◌+ℤ◌, ◌*ℤ◌, sym, ap, ◌∙◌, subst, arith, lit<, w64, SFits, to_z, of_z}
use mir.Syntax.{w128}
use Rattle.std.specs.List.{AllByRecursion}
use Rattle.std.proofs.ByRecursion.{All-get_or}
use Rattle.std.proofs.lemmas.Int.{ints, to_z-of_z}
use Rattle.arith.specs.Bounds.{Within}
use Rattle.arith.specs.Products.{dot, factor_limit, most_terms}
use Rattle.arith.proofs.Bounds.{product_within, sfits_within, within_wider}
use Rattle.arith.proofs.Dots.{dot_step, dot_within}
use Rattle.arith.proofs.Widths.{value_limit, value_within, wide_within}

-- the magnitude of the product of a factor and a number of 64 bits
abbrev pub term_limit : ℕ
term_limit = factor_limit * value_limit

-- s is the sum of the products below i
abbrev pub Summed : List ℤ → List ℤ → ℕ → ℤ → Type 0
Summed a b i s = (s +ℤ dot (drop i a) (drop i b) ≡ dot a b) × Within (term_limit * i) s

-- s is the sum so far, p the product at i
pub record Turn (a b : List ℤ) (i : ℕ) (s p : ℤ) : Type 0 where
  pub p_fits : SFits w128 p
  pub s_fits : SFits w128 (s +ℤ p)
  pub summed : Summed a b (i + 1) (s +ℤ p)

pub turn : (a b : List ℤ) (i : ℕ) (s p : ℤ) → i < length a → length a ≡ length b → length a ≤ most_terms → AllByRecursion (Within factor_limit) a → SFits w64 (get_or b i (pos 0)) → p ≡ get_or a i (pos 0) *ℤ get_or b i (pos 0) → Summed a b i s → Turn a b i s p
turn a b i s p lt e le va f is sum =
    let lb : i < length b = omega arith in
    let w = product_within factor_limit value_limit (get_or a i (pos 0)) (get_or b i (pos 0)) (All-get_or (Within factor_limit) a i (pos 0) lt va) (value_within _ f) in
    let v : Within term_limit p = subst (Within term_limit) (sym is) w in
    let q : Within (term_limit * (i + 1)) (s +ℤ p) = (omega (arith, ints, v.0, sum.1.0), omega (arith, ints, v.1, sum.1.1)) in
    record {
      p_fits = wide_within term_limit p (lit< tt) v;
      s_fits = wide_within (term_limit * (i + 1)) _ (omega arith) q;
      summed = (omega (arith, ints, sum.0, is, dot_step a b i lt lb), q);
    }

-- the sum as the code computes it
pub sum_fits : (a b : List ℤ) (i : ℕ) (s p : ℤ) → Turn a b i s p → SFits w128 (s +ℤ to_z w128 (of_z w128 p))
sum_fits a b i s p t = subst (λ z. SFits w128 (s +ℤ z)) (sym (to_z-of_z w128 p t.p_fits)) t.s_fits

pub turned : (a b : List ℤ) (i : ℕ) (s p : ℤ) → Turn a b i s p → Summed a b (i + 1) (to_z w128 (of_z w128 (s +ℤ to_z w128 (of_z w128 p))))
turned a b i s p t =
    let e = ap (λ z. to_z w128 (of_z w128 (s +ℤ z))) (to_z-of_z w128 p t.p_fits) ∙ to_z-of_z w128 _ t.s_fits in
    subst (Summed a b (i + 1)) (sym e) t.summed

-- where both lists are small, the sum as the code narrows it
pub narrowed : (a b : List ℤ) (p : ℤ) → length a ≡ length b → length a ≤ most_terms → AllByRecursion (Within factor_limit) a → AllByRecursion (Within factor_limit) b → p ≡ dot a b → SFits w64 (to_z w128 (of_z w128 p)) × (to_z w64 (of_z w64 (to_z w128 (of_z w128 p))) ≡ dot a b)
narrowed a b p same few va vb is =
    let w : Within (factor_limit * factor_limit * length a) p = subst (Within (factor_limit * factor_limit * length a)) (sym is) (dot_within factor_limit factor_limit a b same va vb) in
    let v : Within (factor_limit * factor_limit * most_terms) p = within_wider _ _ (omega arith) p w in
    let f : SFits w64 p = sfits_within _ p (lit< tt) v in
    let e : to_z w128 (of_z w128 p) ≡ p = to_z-of_z w128 p (wide_within _ p (lit< tt) v) in
    (subst (SFits w64) (sym e) f, ap (λ z. to_z w64 (of_z w64 z)) e ∙ to_z-of_z w64 p f ∙ is)
