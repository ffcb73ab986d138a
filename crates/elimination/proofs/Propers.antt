-- The test of a proper row, and the fact.
use Rattle.std.proofs.Common.{◌≡◌, ℕ, zero, suc, ◌<◌, Bool, true, false, ◌&&◌, ◌||◌, List, [], ◌∷◌, length, get_or, ℤ, pos, ◌≤ℤ◌, ◌<ℤ◌, ◌↔◌, sym, refl, ◌∙◌, inl, inr, arith}
use lib.Signed.{le_z, lt_z}
use Rattle.std.specs.Bool.{IsTrue, MatchBool}
use Rattle.std.specs.List.{AllByRecursion, AllWithin, HoldsAt, list_all, list_any}
use Rattle.std.proofs.lemmas.Bool.{and_parts}
use Rattle.std.proofs.lemmas.Int.{ints}
use Rattle.std.proofs.lemmas.Iterator.Search.{true_from_All}
use Rattle.std.proofs.lemmas.List.Elements.{All-from_all_within, All-from_recursion, recursion_from_All}
use Rattle.arith.specs.Bounds.{Within, within, all_within}
use Rattle.arith.proofs.Bounds.{within_from_test, all_from_test, test_from_all}
use Rattle.elimination.specs.declared.row.Row.{Row}
use Rattle.elimination.specs.Rows.{multiplier_limit, number_limit, allowed, low, weighty, proper, Weighty, Proper}

le_fact : (z : ℤ) → le_z (pos 0) z ≡ true → pos 0 ≤ℤ z
le_fact z e = grind (arith, ints)

lt_fact : (z : ℤ) → lt_z (pos 0) z ≡ true → pos 0 <ℤ z
lt_fact z e = grind (arith, ints)

le_test : (z : ℤ) → pos 0 ≤ℤ z → le_z (pos 0) z ≡ true
le_test z h = grind (arith, ints)

lt_test : (z : ℤ) → pos 0 <ℤ z → lt_z (pos 0) z ≡ true
lt_test z h = grind (arith, ints)

within_test : (m : ℕ) (z : ℤ) → Within m z → within m z ≡ true
within_test m z w = grind (arith, ints)

all_low_fact : (zs : List ℤ) → list_all (λ z. le_z (pos 0) z) zs ≡ true → AllByRecursion (λ m. pos 0 ≤ℤ m) zs
all_low_fact [] e = tt
all_low_fact (z ∷ zs) e = let p = and_parts (le_z (pos 0) z) (list_all (λ y. le_z (pos 0) y) zs) e in (le_fact z p.0, all_low_fact zs p.1)

all_low_test : (zs : List ℤ) → AllByRecursion (λ m. pos 0 ≤ℤ m) zs → list_all (λ z. le_z (pos 0) z) zs ≡ true
all_low_test [] h = refl
all_low_test (z ∷ zs) h = rw (le_test z h.0) (all_low_test zs h.1)

any_above_fact : (zs : List ℤ) → list_any (λ z. lt_z (pos 0) z) zs ≡ true → (k : ℕ) × (pos 0 <ℤ get_or zs k (pos 0))
any_above_fact [] e = cc
any_above_fact (z ∷ zs) e = by (lt_z (pos 0) z) refl (any_above_fact zs) e
  where
    by : (b : Bool) → lt_z (pos 0) z ≡ b → (list_any (λ y. lt_z (pos 0) y) zs ≡ true → (k : ℕ) × (pos 0 <ℤ get_or zs k (pos 0))) → (b || list_any (λ y. lt_z (pos 0) y) zs) ≡ true
        → (k : ℕ) × (pos 0 <ℤ get_or (z ∷ zs) k (pos 0))
    by true h rest e = (0, lt_fact z h)
    by false h rest e = let r = rest e in (suc r.0, r.1)

or_true : (b : Bool) → (b || true) ≡ true
or_true true = refl
or_true false = refl

any_above_test : (zs : List ℤ) (k : ℕ) → pos 0 <ℤ get_or zs k (pos 0) → list_any (λ z. lt_z (pos 0) z) zs ≡ true
any_above_test [] k h = absurd (omega (arith, ints))
any_above_test (z ∷ zs) zero h = rw (lt_test z h) refl
any_above_test (z ∷ zs) (suc k) h = rw (any_above_test zs k h) (or_true (lt_z (pos 0) z))

weighty_fact : (r : Row) → weighty r ≡ true → Weighty r
weighty_fact r e = by (lt_z (pos 0) r.scale) refl e
  where
    by : (b : Bool) → lt_z (pos 0) r.scale ≡ b → (b || list_any (λ z. lt_z (pos 0) z) r.multipliers) ≡ true → Weighty r
    by true h e = inl (lt_fact r.scale h)
    by false h e = inr (any_above_fact r.multipliers e)

weighty_test : (r : Row) → Weighty r → weighty r ≡ true
weighty_test r w = elim w [
  | inl h ↦ rw (lt_test r.scale h) refl
  | inr h ↦ rw (any_above_test r.multipliers h.0 h.1) (or_true (lt_z (pos 0) r.scale))
]

proper_fact : (r : Row) → length r.multipliers ≡ 40 → length r.coefficients ≡ 12 → proper r ≡ true → Proper r
proper_fact r long wide e =
    let p = and_parts (allowed r) (low r && weighty r) e in
    let q = and_parts (low r) (weighty r) p.1 in
    let l = and_parts (le_z (pos 0) r.scale) (list_all (λ z. le_z (pos 0) z) r.multipliers) q.0 in
    let t = and_parts (all_within multiplier_limit r.multipliers) (within multiplier_limit r.scale && (all_within number_limit r.coefficients && within number_limit r.right)) p.0 in
    let u = and_parts (within multiplier_limit r.scale) (all_within number_limit r.coefficients && within number_limit r.right) t.1 in
    let v = and_parts (all_within number_limit r.coefficients) (within number_limit r.right) u.1 in
    record {
      long = long;
      wide = wide;
      multipliers = all_from_test multiplier_limit r.multipliers t.0;
      scale = within_from_test multiplier_limit r.scale u.0;
      coefficients = all_from_test number_limit r.coefficients v.0;
      right = within_from_test number_limit r.right v.1;
      multipliers_low = all_low_fact r.multipliers l.1;
      scale_low = le_fact r.scale l.0;
      weighty = weighty_fact r q.1;
    }

proper_test : (r : Row) → Proper r → proper r ≡ true
proper_test r h =
    rw (test_from_all multiplier_limit r.multipliers h.multipliers, within_test multiplier_limit r.scale h.scale, test_from_all number_limit r.coefficients h.coefficients, within_test number_limit r.right h.right)
    (rw (le_test r.scale h.scale_low, all_low_test r.multipliers h.multipliers_low) (weighty_test r h.weighty))

-- both ways, of a row as long as rows are
pub proper_both : (r : Row) (b : Bool) → length r.multipliers ≡ 40 → length r.coefficients ≡ 12 → b ≡ proper r → IsTrue b ↔ Proper r
proper_both r b long wide e = ((λ t. proper_fact r long wide (sym e ∙ t)), λ h. e ∙ proper_test r h)

-- a test of all is true exactly where each has the fact
pub all_by_cases : {X : Type 0} (P : X → Type 0) (xs : List X) (b : Bool) → MatchBool b (AllWithin P xs 0 (length xs)) ((k : ℕ) × (k < length xs) × HoldsAt (λ x. P x → ⊥) xs k) → IsTrue b ↔ AllByRecursion P xs
all_by_cases P xs true h = ((λ _. recursion_from_All P xs (All-from_all_within P xs h)), λ _. refl)
all_by_cases P xs false h = ((λ e. cc), λ a. true_from_All P (λ x. P x → ⊥) false xs (λ x p n. n p) h (All-from_recursion P xs a))
