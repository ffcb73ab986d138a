-- Elements that pass a test, one of them at place i: how many stand before it, and what is made of all where that of one fails.
use Rattle.std.proofs.Common.{◌≡◌, ℕ, zero, suc, ◌<◌, Bool, true, false, cond, ◌&&◌, List, [], ◌∷◌, ◌++◌, map, length, get_or, take, drop, filter, refl, ap, arith, length-append}
use Rattle.std.specs.List.{list_all, flat_map}
use Rattle.std.proofs.lemmas.List.Folds.{list_all-append}
use Rattle.std.proofs.lemmas.List.Concat.{flat_map_single}
use Rattle.std.proofs.lemmas.Grind.{flat_map-append}

module _ {X : Type 0} (test : X → Bool) where
  kept_at : (xs : List X) (i : ℕ) (d : X) → i < length xs → test (get_or xs i d) ≡ true → filter test xs ≡ filter test (take i xs) ++ (get_or xs i d ∷ filter test (drop (suc i) xs))
  kept_at [] i d l t = absurd (omega arith)
  kept_at (x ∷ xs) zero d l t = rw t refl
  kept_at (x ∷ xs) (suc i) d l t = by (test x) (kept_at xs i d (omega arith) t)
    where
      by : (b : Bool) → filter test xs ≡ filter test (take i xs) ++ (get_or xs i d ∷ filter test (drop (suc i) xs))
          → cond b (x ∷ filter test xs) (filter test xs) ≡ cond b (x ∷ filter test (take i xs)) (filter test (take i xs)) ++ (get_or xs i d ∷ filter test (drop (suc i) xs))
      by true h = ap (λ (zs : List X). x ∷ zs) h
      by false h = h

  pub fewer_before : (xs : List X) (i : ℕ) (d : X) → i < length xs → test (get_or xs i d) ≡ true → length (filter test (take i xs)) < length (filter test xs)
  fewer_before xs i d l t = omega (arith, ap length (kept_at xs i d l t), length-append (filter test (take i xs)) (get_or xs i d ∷ filter test (drop (suc i) xs)))

  module _ {Y : Type 0} (fits : Y → Bool) where
    and_false : (a b : Bool) → (a && (false && b)) ≡ false
    and_false true b = refl
    and_false false b = refl

    pub lists_fail : (f : X → List Y) (xs : List X) (i : ℕ) (d : X) → i < length xs → test (get_or xs i d) ≡ true → list_all fits (f (get_or xs i d)) ≡ false → list_all fits (flat_map f (filter test xs)) ≡ false
    lists_fail f xs i d l t h =
        let x = get_or xs i d in
        let before = filter test (take i xs) in
        let behind = filter test (drop (suc i) xs) in
        rw (kept_at xs i d l t, flat_map-append f before (x ∷ behind), list_all-append fits (flat_map f before) (f x ++ flat_map f behind), list_all-append fits (f x) (flat_map f behind), h)
        (and_false (list_all fits (flat_map f before)) (list_all fits (flat_map f behind)))

    pub elements_fail : (f : X → Y) (xs : List X) (i : ℕ) (d : X) → i < length xs → test (get_or xs i d) ≡ true → fits (f (get_or xs i d)) ≡ false → list_all fits (map f (filter test xs)) ≡ false
    elements_fail f xs i d l t h = rw (← flat_map_single f (filter test xs)) (lists_fail (λ z. f z ∷ []) xs i d l t (rw h refl))
