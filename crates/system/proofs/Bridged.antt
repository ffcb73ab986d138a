-- The bridge: the rows of a system hold exactly when the step is one of the loop.
use Rattle.std.proofs.Common.{◌≡◌, ℕ, suc, ◌+◌, List, [], ◌∷◌, ◌++◌, map, length, ℤ, pos, negsuc, ◌≤ℤ◌, sym, ap, ◌∙◌, subst, arith}
use Rattle.std.specs.List.{AllByRecursion}
use Rattle.std.proofs.ByRecursion.{All-append, All-map}
use Rattle.std.proofs.lemmas.List.{append_assoc, length-append, length-replicate, length-set}
use Rattle.control.specs.Cover.{Holds}
use Rattle.control.specs.Meaning.{Row}
use Rattle.case.specs.declared.values.StateEquation.{StateEquation}
use Rattle.case.specs.Faces.{unit, box_faces, extra_face, faces}
use Rattle.case.specs.Next.{Bounded, Permitted}
use Rattle.case.specs.System.{none, over_states, over_commands, push_rows, next_rows}
use Rattle.case.specs.Values.{CaseValues, state_count, push_count}
use Rattle.system.specs.Bridge.{Bridge}
use Rattle.system.proofs.Rows.{Same, all_append_parts, dot_front, widened, pushes_same, EquationWide, nexts_same}

-- the rows of a case have the lengths that its numbers of states, inputs and pushes ask for
pub record Wide (k : CaseValues) : Type 0 where
  pub equations_wide : AllByRecursion (EquationWide k) k.equations
  pub extra_wide : AllByRecursion (λ f. length f.coefficients ≡ state_count k) k.extra

pub unit_long : (n i : ℕ) (z : ℤ) → length (unit n i z) ≡ n
unit_long n i z = length-set (none n) i z ∙ length-replicate n (pos 0)

box_wide : (n i : ℕ) (ss : List StateEquation) → AllByRecursion (λ r. length r.coefficients ≡ n) (box_faces n i ss)
box_wide n i [] = tt
box_wide n i (s ∷ ss) = (unit_long n i (pos 1), (unit_long n i (negsuc 0), box_wide n (suc i) ss))

pub faces_wide : (k : CaseValues) → Wide k → AllByRecursion (λ r. length r.coefficients ≡ state_count k) (faces k)
faces_wide k wide =
    All-append (λ r. length r.coefficients ≡ state_count k) (box_faces (state_count k) 0 k.equations) (map extra_face k.extra)
    (box_wide (state_count k) 0 k.equations) (All-map (λ r. length r.coefficients ≡ state_count k) extra_face k.extra wide.extra_wide)

-- the faces and the region's rows
faces_same : (k : CaseValues) (x z : List ℤ) → Wide k → length x ≡ state_count k → Same (AllByRecursion (Holds x) (faces k)) (AllByRecursion (Holds (x ++ z)) (map (over_states k) (faces k)))
faces_same k x z wide ex =
    let e = λ (r : Row) (h : length r.coefficients ≡ length x). dot_front r.coefficients x z (k.inputs + push_count k + state_count k) h in
    widened (over_states k) x (x ++ z)
    (λ r h. ((λ t. subst (λ d. d ≤ℤ r.right) (sym (e r h)) t), (λ t. subst (λ d. d ≤ℤ r.right) (e r h) t)))
    (faces k) (subst (λ n. AllByRecursion (λ r. length r.coefficients ≡ n) (faces k)) (sym ex) (faces_wide k wide))

region_same : (k : CaseValues) (region : List Row) (v z : List ℤ) → AllByRecursion (λ r. length r.coefficients ≡ state_count k + k.inputs) region → length v ≡ state_count k + k.inputs → Same (AllByRecursion (Holds v) region) (AllByRecursion (Holds (v ++ z)) (map (over_commands k) region))
region_same k region v z wide ev =
    let e = λ (r : Row) (h : length r.coefficients ≡ length v). dot_front r.coefficients v z (push_count k + state_count k) h in
    widened (over_commands k) v (v ++ z)
    (λ r h. ((λ t. subst (λ d. d ≤ℤ r.right) (sym (e r h)) t), (λ t. subst (λ d. d ≤ℤ r.right) (e r h) t)))
    region (subst (λ n. AllByRecursion (λ r. length r.coefficients ≡ n) region) (sym ev) wide)

pub bridge : (k : CaseValues) (region : List Row) → Wide k → AllByRecursion (λ r. length r.coefficients ≡ state_count k + k.inputs) region → Bridge k region
unfolding Bridge
bridge k region wide narrow x u w y ex eu ew ey =
    let V = x ++ (u ++ (w ++ y)) in
    let P = Holds V in
    let F = map (over_states k) (faces k) in
    let G = map (over_commands k) region in
    let W = push_rows k 0 k.bounds in
    let N = next_rows k 0 k.equations in
    let ev : length (x ++ u) ≡ state_count k + k.inputs = simp length-append (omega arith) in
    let two : (x ++ u) ++ (w ++ y) ≡ V = append_assoc x u (w ++ y) in
    let three : (x ++ (u ++ w)) ++ y ≡ V = append_assoc x (u ++ w) y ∙ ap (λ t. x ++ t) (append_assoc u w y) in
    let f = faces_same k x (u ++ (w ++ y)) wide ex in
    let g = subst (λ t. Same (AllByRecursion (Holds (x ++ u)) region) (AllByRecursion (Holds t) G)) two (region_same k region (x ++ u) (w ++ y) narrow ev) in
    let p = subst (λ t. Same (Bounded k w) (AllByRecursion (Holds t) W)) two (pushes_same k (x ++ u) w y ev ew 0 k.bounds (omega arith)) in
    let n = subst (λ t. Same (Permitted k x u w y) (AllByRecursion (Holds t) N)) three (nexts_same k x u w y ex eu ew ey 0 k.equations wide.equations_wide (omega arith)) in (
      (λ s. All-append P F (G ++ (W ++ N)) (f.0 s.inside.holds) (All-append P G (W ++ N) (g.0 s.allowed) (All-append P W N (p.0 s.bounded) (n.0 s.permitted)))),
      (λ h. let a = all_append_parts P F (G ++ (W ++ N)) h in
          let b = all_append_parts P G (W ++ N) a.1 in
          let c = all_append_parts P W N b.1 in
          record { inside = record { long = ex; holds = f.1 a.0 }; allowed = g.1 b.0; bounded = p.1 c.0; permitted = n.1 c.1 }),
    )
