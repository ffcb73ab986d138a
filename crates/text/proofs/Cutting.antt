-- The cut of a text at a byte, by the place of its first one.
use Rattle.std.proofs.Common.{◌≡◌, ℕ, suc, ◌+◌, Bool, true, false, not, cond, ◌==◌, List, [], ◌∷◌, length, take, drop, Some, None, Option, nat_lt, refl, ap, ◌∙◌, arith}
use native.Mathlib.Numerals.{unary_clauses}
use Rattle.std.proofs.lemmas.Bool.{cond-true}
use Rattle.std.proofs.lemmas.Bool.Decides.{nat_tests}
use Rattle.std.specs.List.{position, position_or_len}
use Rattle.std.specs.Option.{option_map}
use Rattle.text.specs.Lines.{cut_at, cons_front}

-- the two sides of place i
abbrev pub sides : List ℕ → ℕ → List ℕ × List ℕ
sides bs i = (take i bs, drop (i + 1) bs)

sides_more : (b : ℕ) (bs : List ℕ) (o : Option ℕ) → option_map (sides (b ∷ bs)) (option_map suc o) ≡ option_map (cons_front b) (option_map (sides bs) o)
sides_more b bs None = refl
sides_more b bs (Some i) = simp unary_clauses

-- the place in a list with one more element before it
place_more : (t : Bool) (k n : ℕ) → cond (nat_lt (cond (not t) (1 + k) 0) (suc n)) (Some (cond (not t) (1 + k) 0)) None ≡ cond t (Some 0) (option_map suc (cond (nat_lt k n) (Some k) None))
place_more true k n = let e : nat_lt 0 (suc n) ≡ true = grind (arith, nat_tests) in cond-true _ _ _ e
place_more false k n = ap (λ t. cond t (Some (1 + k)) None) one_less ∙ mapped (nat_lt k n) where
  one_less : nat_lt (1 + k) (suc n) ≡ nat_lt k n
  one_less = grind (arith, nat_tests)

  mapped : (t : Bool) → cond t (Some (1 + k)) None ≡ option_map suc (cond t (Some k) None)
  mapped true = ap Some (omega arith)
  mapped false = refl

position_more : (p : ℕ → Bool) (b : ℕ) (bs : List ℕ) → position p (b ∷ bs) ≡ cond (p b) (Some 0) (option_map suc (position p bs))
position_more p b bs = place_more (p b) (position_or_len p bs) (length bs)

cut_more : (t : Bool) (b : ℕ) (bs : List ℕ) (o : Option ℕ) (r : Option (List ℕ × List ℕ)) → option_map (sides bs) o ≡ r → option_map (sides (b ∷ bs)) (cond t (Some 0) (option_map suc o)) ≡ cond t (Some ([], bs)) (option_map (cons_front b) r)
cut_more true b bs o r e = refl
cut_more false b bs o r e = sides_more b bs o ∙ ap (option_map (cons_front b)) e

pub cut_by_place : (at : ℕ) (bs : List ℕ) → option_map (sides bs) (position (λ b. b == at) bs) ≡ cut_at at bs
cut_by_place at [] = refl
cut_by_place at (b ∷ bs) =
    ap (option_map (sides (b ∷ bs))) (position_more (λ b. b == at) b bs)
    ∙ cut_more (b == at) b bs (position (λ b. b == at) bs) (cut_at at bs) (cut_by_place at bs)
