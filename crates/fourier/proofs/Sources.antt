-- Where a row comes from: one that is made of the start rows is, times a number above 0, a combination of them.
use Rattle.std.proofs.Common.{◌≡◌, ℕ, suc, ◌*◌, Bool, true, List, ℤ, pos, ◌+ℤ◌, ◌*ℤ◌, neg_ℤ, Some, ap, ◌∙◌, mul-pos, arith}
use Rattle.std.specs.List.{AllByRecursion}
use Rattle.std.proofs.ByRecursion.{all-has, All-weaker, all_has_itself}
use Rattle.std.proofs.lemmas.Int.{ints}
use Rattle.arith.proofs.Ring.{ring}
use Rattle.fourier.specs.Cone.{column, Vector, Cone, Refutes, Refutable, Joins, is_positive, is_negative}
use Rattle.fourier.specs.Search.{searched, Sane, Made, given, joined_of}
use Rattle.fourier.proofs.Combining.{Multiple, cone_same, cone_sum, cone_times, cone_each, multiple_refutes}
use Rattle.fourier.proofs.Lists.{all_by_two}
use Rattle.fourier.proofs.Searches.{found_is_dead}
use Rattle.fourier.proofs.Signs.{above_of, below_of}

join_step : (k r s t pc qc a b p q : ℤ) → pc ≡ a → neg_ℤ qc ≡ b → k *ℤ r ≡ pc *ℤ q +ℤ neg_ℤ qc *ℤ p → (k *ℤ (s *ℤ t)) *ℤ r ≡ (a *ℤ s) *ℤ (t *ℤ q) +ℤ (b *ℤ t) *ℤ (s *ℤ p)
join_step k r s t pc qc a b p q ea eb e =
    let f : k *ℤ r ≡ a *ℤ q +ℤ b *ℤ p = e ∙ rw (ea, eb) in
    let g = ap (λ (x : ℤ). (s *ℤ t) *ℤ x) f in
    simp ring (omega (arith, ints, simp ring at g))

module _ {X : Type 0} (at : X → Vector) (start : List X) where
  multiple_join : (c : ℕ) (p q r : X) → Joins c (at p) (at q) (at r) → is_positive (at p (column c)) ≡ true → is_negative (at q (column c)) ≡ true → Multiple at start (at p) → Multiple at start (at q) → Multiple at start (at r)
  multiple_join c p q r j plus minus m n =
      let a = above_of (at p (column c)) plus in
      let b = below_of (at q (column c)) minus in
      let k = j.0 * (m.0 * n.0) in (
        k,
        mul-pos j.1 (mul-pos m.1 n.1),
        cone_same at start _ (λ i. pos k *ℤ at r i)
            (λ i. join_step (pos j.0) (at r i) (pos m.0) (pos n.0) (at p (column c)) (at q (column c)) (pos (suc a.0)) (pos (suc b.0)) (at p i) (at q i) a.1 b.1 (j.2 i))
            (cone_sum at start _ _
            (cone_times at start (suc a.0 * m.0) (λ i. pos n.0 *ℤ at q i) n.2)
            (cone_times at start (suc b.0 * n.0) (λ i. pos m.0 *ℤ at p i) m.2)),
      )

-- rows that are good and such multiples make rows that are
module _ {X : Type 0} (at : X → Vector) (dead live : X → Bool) (join : ℕ → X → X → X) (Good : X → Type 0) (sane : Sane at dead live join Good) (start : List X) where
  abbrev Sourced : X → Type 0
  Sourced r = Good r × Multiple at start (at r)

  sane_sourced : Sane at dead live join Sourced
  sane_sourced = record {
    joins = λ c p q a b. sane.joins c p q a.0 b.0;
    keeps = λ c p q a b plus minus. (sane.keeps c p q a.0 b.0 plus minus, multiple_join at start c p q (join c p q) (sane.joins c p q a.0 b.0 plus minus) plus minus a.1 b.1);
    spared = λ r a. sane.spared r a.0;
    bare = sane.bare;
    refutes = λ r a. sane.refutes r a.0;
  }

  all_sourced : AllByRecursion Good start → AllByRecursion Sourced start
  all_sourced good =
      all_by_two Good (λ r. Cone at start (at r)) Sourced (λ r g h. (g, (1, omega arith, cone_same at start (at r) (λ i. pos 1 *ℤ at r i) (λ i. omega (arith, ints)) h)))
      start good (cone_each at start)

  -- a row that is found refutes, and so does a combination of the start rows
  pub found_refutes : (n : ℕ) (r : X) → AllByRecursion Good start → searched at dead live join n start ≡ Some r → Refutes (at r) × Good r × Refutable at start
  found_refutes n r good e =
      let d = found_is_dead at dead live join Sourced sane_sourced n start r (all_sourced good) e in
      let refutes = sane.refutes r d.0.0 d.1 in
      (refutes, d.0.0, multiple_refutes at start (at r) d.0.1 refutes)

-- the start rows are made of themselves
pub all_made : {X : Type 0} (at : X → Vector) (join : ℕ → X → X → X) (start : List X) → AllByRecursion (Made at join start) start
all_made at join start = All-weaker _ (Made at join start) given start (all_has_itself start)

-- what is good of the start rows is good of all that is made of them
module _ {X : Type 0} (at : X → Vector) (dead live : X → Bool) (join : ℕ → X → X → X) (Good : X → Type 0) (sane : Sane at dead live join Good) (start : List X) (good : AllByRecursion Good start) where
  pub made_good : {r : X} → Made at join start r → Good r
  made_good (given r has) = all-has Good start r good has
  made_good (joined_of c p q h k plus minus) = sane.keeps c p q (made_good h) (made_good k) plus minus

  pub sane_made : Sane at dead live join (Made at join start)
  sane_made = record {
    joins = λ c p q h k. sane.joins c p q (made_good h) (made_good k);
    keeps = joined_of;
    spared = λ r h. sane.spared r (made_good h);
    bare = sane.bare;
    refutes = λ r h. sane.refutes r (made_good h);
  }
