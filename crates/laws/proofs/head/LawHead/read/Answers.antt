-- The proof of `LawHead::read`: what the search leaves.
use Rattle.std.proofs.Common.{◌≡◌, get_or, pos, nat_abs, sym, ap, ◌∙◌, arith, w64, SFits, rules}
use Rattle.std.proofs.lemmas.Int.{to_z-of_z}
use Rattle.text.specs.Left.{left_of}
use Rattle.text.specs.Lines.{next_field, after_field}
use Rattle.laws.specs.Laws.{kind_at}
use Rattle.laws.specs.Tables.{head_told}
use Rattle.text.proofs.Padding.{count_low, count_high, from_one}
use Rattle.text.proofs.Rows.{err_is, seen_some}
use Rattle.laws.proofs.Heading.{head_err, head_ok, sizes_are}
use Rattle.laws.proofs.head.LawHead.read.Goals as goal

pub returns-in_err-sizes : goal.returns-in_err-sizes
returns-in_err-sizes c =
    ap head_told (err_is c.from_residual-in_err-sizes.result _ c.from_residual-in_err-sizes.ensures.1)
    ∙ head_err c.args.text.now c.in_ok-bytes.bytes.now c.in_ok-bytes.rest.now c.in_ok-kind.kind _ _ (seen_some _ _ _ _ c.in_ok-bytes.ensures.ok_part c.cut.ensures)
    (sym c.in_ok-kind.ensures.ok_part ∙ c.next_kind.ensures.value ∙ ap (λ l. kind_at (next_field l)) c.of-fields.ensures)
    (c.next_kind.ensures.left ∙ ap after_field c.of-fields.ensures) c.in_err-sizes.ensures

pub invariant_of-result : goal.invariant_of-result
invariant_of-result c =
    let s = sizes_are c.in_ok-sizes.sizes (left_of c.next_kind.new.fields) c.in_ok-sizes.ensures in
    let f : SFits w64 (get_or c.in_ok-sizes.sizes 0 (pos 0)) = search rules in
    let g : SFits w64 (get_or c.in_ok-sizes.sizes 1 (pos 0)) = search rules in
    let n : c.unsigned_abs.result ≡ nat_abs (get_or c.in_ok-sizes.sizes 0 (pos 0)) = c.unsigned_abs.ensures.value ∙ ap nat_abs (to_z-of_z w64 _ f) in
    let m : c.unsigned_abs-2.result ≡ nat_abs (get_or c.in_ok-sizes.sizes 1 (pos 0)) = c.unsigned_abs-2.ensures.value ∙ ap nat_abs (to_z-of_z w64 _ g) in
    let a = count_low _ s.1.n_low in
    let b = count_high _ 4 (from_one _ s.1.n_low) s.1.n_high in
    let d = count_low _ s.1.m_low in
    let e = count_high _ 2 (from_one _ s.1.m_low) s.1.m_high in
    record { sizes = (omega arith, omega arith, omega arith, omega arith) }

pub returns : goal.returns
returns c =
    let zs = c.in_ok-sizes.sizes in
    let f : SFits w64 (get_or c.in_ok-sizes.sizes 0 (pos 0)) = search rules in
    let g : SFits w64 (get_or c.in_ok-sizes.sizes 1 (pos 0)) = search rules in
    head_ok c.args.text.now c.in_ok-bytes.bytes.now c.in_ok-bytes.rest.now c.in_ok-kind.kind _ zs _ _ (seen_some _ _ _ _ c.in_ok-bytes.ensures.ok_part c.cut.ensures)
    (sym c.in_ok-kind.ensures.ok_part ∙ c.next_kind.ensures.value ∙ ap (λ l. kind_at (next_field l)) c.of-fields.ensures)
    (c.next_kind.ensures.left ∙ ap after_field c.of-fields.ensures) c.in_ok-sizes.ensures
    (c.unsigned_abs.ensures.value ∙ ap nat_abs (to_z-of_z w64 _ f)) (c.unsigned_abs-2.ensures.value ∙ ap nat_abs (to_z-of_z w64 _ g))
