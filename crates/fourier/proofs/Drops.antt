-- Slack rows: a combination that refutes still does without them.
use Rattle.std.proofs.Common.{◌≡◌, ℕ, zero, suc, Bool, true, false, cond, ◌⊎◌, List, [], ◌∷◌, ℤ, pos, ◌+ℤ◌, ◌*ℤ◌, ◌≤ℤ◌, ◌<ℤ◌, filter, refl, ◌∙◌, inl, inr, arith}
use Rattle.std.specs.List.{AllByRecursion}
use Rattle.std.proofs.lemmas.Int.{ints}
use Rattle.arith.proofs.Ring.{ring}
use Rattle.fourier.specs.Cone.{Place, scale, column, right, Vector, Cone, Refutes, Refutable, Slack}
use Rattle.fourier.proofs.Signs.{times_above, times_zero, times_at_most}

-- the right side and the scale of a vector that refutes, and of one that is slack
abbrev Low : ℤ → ℤ → Type 0
Low b s = (b <ℤ pos 0) ⊎ ((b ≡ pos 0) × (pos 0 <ℤ s))

abbrev High : ℤ → ℤ → Type 0
High b s = (pos 0 <ℤ b) ⊎ ((b ≡ pos 0) × (s ≤ℤ pos 0))

-- v is a combination of the rows plus a slack vector
abbrev Slackened : {X : Type 0} → (X → Vector) → List X → Vector → Type 0
Slackened at rows v = (u : Vector) × (s : Vector) × Cone at rows u × Slack s × ((i : Place) → v i ≡ u i +ℤ s i)

low_less : (v u s vs us ss : ℤ) → v ≡ u +ℤ s → vs ≡ us +ℤ ss → High s ss → Low v vs → Low u us
low_less v u s vs us ss e f (inl a) (inl b) = inl (omega (arith, ints))
low_less v u s vs us ss e f (inl a) (inr b) = inl (omega (arith, ints))
low_less v u s vs us ss e f (inr a) (inl b) = inl (omega (arith, ints))
low_less v u s vs us ss e f (inr a) (inr b) = inr (omega (arith, ints), omega (arith, ints))

high_more : (w : ℕ) (r x rs xs : ℤ) → High r rs → High x xs → High (pos w *ℤ r +ℤ x) (pos w *ℤ rs +ℤ xs)
high_more zero r x rs xs h k = elim k [ inl a ↦ inl (omega (arith, ints)) | inr b ↦ inr (omega (arith, ints), omega (arith, ints)) ]
high_more (suc w) r x rs xs (inl a) (inl b) = let f = times_above (suc w) r (omega arith) a in inl (omega (arith, ints))
high_more (suc w) r x rs xs (inl a) (inr b) = let f = times_above (suc w) r (omega arith) a in inl (omega (arith, ints))
high_more (suc w) r x rs xs (inr a) (inl b) = let f = times_zero (suc w) r a.0 in inl (omega (arith, ints))
high_more (suc w) r x rs xs (inr a) (inr b) =
    let f = times_zero (suc w) r a.0 in
    let g = times_at_most (suc w) rs a.1 in
    inr (omega (arith, ints), omega (arith, ints))

slack_zero : Slack (λ i. pos 0)
slack_zero = ((λ j. refl), inr (refl, omega (arith, ints)))

slack_more : (w : ℕ) (r x : Vector) → Slack r → Slack x → Slack (λ i. pos w *ℤ r i +ℤ x i)
slack_more w r x h k = ((λ j. rw (h.0 j, k.0 j) (omega (arith, ints))), high_more w (r right) (x right) (r scale) (x scale) h.1 k.1)

refutes_less : (v u s : Vector) → Slack s → ((i : Place) → v i ≡ u i +ℤ s i) → Refutes v → Refutes u
refutes_less v u s k e r = (
  (λ j. omega (arith, ints, e (column j), r.0 j, k.0 j)),
  low_less (v right) (u right) (s right) (v scale) (u scale) (s scale) (e right) (e scale) k.1 r.1,
)

module _ {X : Type 0} (at : X → Vector) where
  -- one row more, kept or dropped
  slackened_more : (r : X) (rs : List X) (w : ℕ) (v x : Vector) (kept : Bool) → (kept ≡ false → Slack (at r)) → ((i : Place) → v i ≡ pos w *ℤ at r i +ℤ x i) → Slackened at rs x → Slackened at (cond kept (r ∷ rs) rs) v
  slackened_more r rs w v x true f e h =
      ((λ i. pos w *ℤ at r i +ℤ h.0 i), h.1, (w, h.0, h.2, λ i. refl), h.3, λ i. e i ∙ rw (h.4 i) (simp ring))
  slackened_more r rs w v x false f e h =
      (h.0, (λ i. pos w *ℤ at r i +ℤ h.1 i), h.2, slack_more w (at r) h.1 (f refl) h.3, λ i. e i ∙ rw (h.4 i) (simp ring))

  slackened : (test : X → Bool) (rows : List X) (v : Vector) → AllByRecursion (λ r. test r ≡ false → Slack (at r)) rows → Cone at rows v → Slackened at (filter test rows) v
  slackened test [] v a h = ((λ i. pos 0), (λ i. pos 0), (λ i. refl), slack_zero, λ i. h i)
  slackened test (r ∷ rs) v a h =
      slackened_more r (filter test rs) h.0 v h.1 (test r) a.0 h.3 (slackened test rs h.1 a.1 h.2)

  -- to drop slack rows loses no refutation
  pub drop_keeps : (test : X → Bool) (rows : List X) → AllByRecursion (λ r. test r ≡ false → Slack (at r)) rows → Refutable at rows → Refutable at (filter test rows)
  drop_keeps test rows a h =
      let s = slackened test rows h.0 a h.1 in
      (s.0, s.2, refutes_less h.0 s.0 s.1 s.3 s.4 h.2)

  -- no rows, no refutation
  pub none_refutes : Refutable at [] → ⊥
  none_refutes h = elim h.2.1 [ inl b ↦ omega (arith, ints, h.1 right) | inr b ↦ omega (arith, ints, h.1 scale, b.1) ]
