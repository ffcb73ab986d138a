-- The proof of `extra_row`: what the search leaves.
use Rattle.std.proofs.Common.{◌≡◌, ◌+◌, ◌-◌, ◌*◌, ◌++◌, length, take, ap, ◌∙◌, arith, lit<, w64, rules}
use borrow.Rule.Slice.PartMut.{put_mid}
use Rattle.std.proofs.lemmas.Int.{to_z-of_z}
use Rattle.arith.proofs.Bounds.{sfits_within}
use Rattle.case.specs.Limits.{extra_limit}
use Rattle.case.specs.System.{column_count, none}
use Rattle.case.specs.Values.{state_count, push_count, values_of}
use Rattle.case.proofs.Stored.{states_are}
use Rattle.system.proofs.Places.{front_filled}
use Rattle.system.proofs.Filling.{extra_at, extra_ok_at, extra_face_is, same_row}
use Rattle.system.proofs.kinds.extra_row.Goals as goal

pub returns : goal.returns
returns c =
    let v = c.args.case.now in
    let k = values_of v in
    let n = v.states in
    let i = c.args.j - 2 * n in
    let f = extra_at v i in
    let r = k.inputs + push_count k + state_count k in
    let wide : n + r ≡ column_count k = omega (arith, states_are v) in
    let z : n - 0 ≡ n = omega arith in
    let ok = extra_ok_at v i (omega (arith, c.requires.past, c.requires.place)) in
    let blank : c.fill.new.self ≡ none (length c.args.coefficients.now) = search rules in
    same_row _ _ _ _
    (ap (λ l. put_mid 0 (n - 0) l c.copy_from_slice.new.self) (blank ∙ ap none c.requires.long)
    ∙ front_filled n (column_count k) r c.copy_from_slice.new.self wide
    ∙ ap (λ l. l ++ none r) (c.copy_from_slice.ensures.after ∙ ap (λ t. take t f.coefficients) z))
    (to_z-of_z w64 _ (sfits_within extra_limit _ (lit< tt) ok.right_small))
    ∙ extra_face_is v c.args.j c.requires.past c.requires.place
