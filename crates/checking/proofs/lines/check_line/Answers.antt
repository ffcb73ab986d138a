-- The proof of `check_line`: what the search leaves.
use Rattle.std.proofs.Common.{Err, sym, ap, ◌∙◌, arith}
use Rattle.text.proofs.Rows.{err_is}
use Rattle.text.specs.Lines.{after_field}
use Rattle.system.specs.Systems.{case_in, control_in}
use Rattle.certificate.specs.Tests.{all_in_limit}
use Rattle.checking.specs.Checking.{proof_line, equations_at}
use Rattle.checking.specs.Marks.{marked}
use Rattle.checking.specs.declared.faults.CheckFault.TheVariants.{Text, Repeated}
use Rattle.checking.proofs.Judging.{fault_told, region_read, face_read, region_goes, face_stops, pair_read, pair_stops, pair_goes, numbers_stop, numbers_go, proof_stops, proof_goes}
use Rattle.checking.proofs.Numbers.{numbers_refused, numbers_got}
use Rattle.checking.proofs.lines.check_line.Goals as goal

pub returns-in_err-face : goal.returns-in_err-face
returns-in_err-face g c =
    let named = marked c.args.named.now.flags in
    let v = case_in c.args.closed.now in
    let m = control_in c.args.closed.now in
    let line = c.args.line in
    let bytes = c.args.bytes.now in
    let left = c.in_ok-region.ensures.left ∙ ap after_field c.of-fields.ensures in
    let first = region_read v m named line bytes _ _ _ c.in_ok-region.ensures.value c.regions.ensures c.of-fields.ensures in
    let second = face_read v m named line bytes _ _ _ c.in_err-face.ensures.value c.face_count.ensures.value left in
    let e = c.in_err-face.field-0.0 in
    fault_told _ _ _ c.from_residual-in_err-face.result e (err_is c.from_residual-in_err-face.result e c.from_residual-in_err-face.ensures.1)
    (face_stops v m named line bytes c.in_ok-region.region e second ∙ region_goes v m named line bytes c.in_ok-region.region first)

pub returns-then-has : goal.returns-then-has
returns-then-has g c =
    let named = marked c.args.named.now.flags in
    let v = case_in c.args.closed.now in
    let m = control_in c.args.closed.now in
    let line = c.args.line in
    let bytes = c.args.bytes.now in
    let region = c.in_ok-region.region in
    let face = c.in_ok-face.face in
    let read = pair_read v m named line bytes c.regions.result _ region face _ _ c.regions.ensures c.face_count.ensures.value c.of-fields.ensures c.in_ok-region.ensures.left c.in_ok-region.ensures.value c.in_ok-face.ensures.value in
    sym read ∙ pair_stops v m named line bytes region face (sym c.has.ensures ∙ c.if-has.true) ∙ ap (λ p. Err (Repeated line p)) (sym c.into.ensures)

pub returns-in_err-numbers : goal.returns-in_err-numbers
returns-in_err-numbers g c =
    let named = marked c.args.named.now.flags in
    let v = case_in c.args.closed.now in
    let m = control_in c.args.closed.now in
    let line = c.args.line in
    let bytes = c.args.bytes.now in
    let region = c.in_ok-region.region in
    let face = c.in_ok-face.face in
    let read = pair_read v m named line bytes c.regions.result _ region face _ _ c.regions.ensures c.face_count.ensures.value c.of-fields.ensures c.in_ok-region.ensures.left c.in_ok-region.ensures.value c.in_ok-face.ensures.value in
    let fresh = pair_goes v m named line bytes region face (sym c.has.ensures ∙ c.if-has.false) in
    let behind = c.in_ok-face.ensures.left ∙ ap after_field (c.in_ok-region.ensures.left ∙ ap after_field c.of-fields.ensures) in
    let e = c.in_err-numbers.field-0.0 in
    let stop = numbers_refused v m region line bytes c.row_count-count.result _ c.row_count-count.ensures.value c.row_count-count.ensures.few behind e c.in_err-numbers.ensures.value in
    fault_told _ _ _ c.from_residual-in_err-numbers.result (Text e) (err_is c.from_residual-in_err-numbers.result (Text e) c.from_residual-in_err-numbers.ensures.1)
    (numbers_stop v m named line bytes region face (Text e) stop ∙ sym fresh ∙ read)

pub prove-requires-clause-face : goal.prove-requires-clause-face
prove-requires-clause-face g c = let f = c.in_ok-face.ensures.inside in omega (arith, f.1, c.face_count.ensures.value)

pub prove-requires-clause-limits : goal.prove-requires-clause-limits
prove-requires-clause-limits g c =
    let v = case_in c.args.closed.now in
    let m = control_in c.args.closed.now in
    let line = c.args.line in
    let bytes = c.args.bytes.now in
    let region = c.in_ok-region.region in
    let behind = c.in_ok-face.ensures.left ∙ ap after_field (c.in_ok-region.ensures.left ∙ ap after_field c.of-fields.ensures) in
    let got = numbers_got v m region line bytes c.row_count-count.result _ c.row_count-count.ensures.value c.row_count-count.ensures.few behind c.in_ok-numbers.numbers c.in_ok-numbers.ensures.value in
    ap all_in_limit got.front ∙ got.limits

pub returns-in_err-prove : goal.returns-in_err-prove
returns-in_err-prove g c =
    let named = marked c.args.named.now.flags in
    let v = case_in c.args.closed.now in
    let m = control_in c.args.closed.now in
    let line = c.args.line in
    let bytes = c.args.bytes.now in
    let region = c.in_ok-region.region in
    let face = c.in_ok-face.face in
    let read = pair_read v m named line bytes c.regions.result _ region face _ _ c.regions.ensures c.face_count.ensures.value c.of-fields.ensures c.in_ok-region.ensures.left c.in_ok-region.ensures.value c.in_ok-face.ensures.value in
    let fresh = pair_goes v m named line bytes region face (sym c.has.ensures ∙ c.if-has.false) in
    let behind = c.in_ok-face.ensures.left ∙ ap after_field (c.in_ok-region.ensures.left ∙ ap after_field c.of-fields.ensures) in
    let got = numbers_got v m region line bytes c.row_count-count.result _ c.row_count-count.ensures.value c.row_count-count.ensures.few behind c.in_ok-numbers.numbers c.in_ok-numbers.ensures.value in
    let proved = ap (λ zs. equations_at v m line (proof_line region face zs)) got.front in
    let e = c.in_err-prove.field-0.0 in
    fault_told _ _ _ c.from_residual-in_err-prove.result e (err_is c.from_residual-in_err-prove.result e c.from_residual-in_err-prove.ensures.1)
    (proof_stops v m named line bytes region face got.numbers e (c.in_err-prove.ensures ∙ proved)
    ∙ sym (numbers_go v m named line bytes region face got.numbers got.were) ∙ sym fresh ∙ read)

pub returns : goal.returns
returns g c =
    let named = marked c.args.named.now.flags in
    let v = case_in c.args.closed.now in
    let m = control_in c.args.closed.now in
    let line = c.args.line in
    let bytes = c.args.bytes.now in
    let region = c.in_ok-region.region in
    let face = c.in_ok-face.face in
    let read = pair_read v m named line bytes c.regions.result _ region face _ _ c.regions.ensures c.face_count.ensures.value c.of-fields.ensures c.in_ok-region.ensures.left c.in_ok-region.ensures.value c.in_ok-face.ensures.value in
    let fresh = pair_goes v m named line bytes region face (sym c.has.ensures ∙ c.if-has.false) in
    let behind = c.in_ok-face.ensures.left ∙ ap after_field (c.in_ok-region.ensures.left ∙ ap after_field c.of-fields.ensures) in
    let got = numbers_got v m region line bytes c.row_count-count.result _ c.row_count-count.ensures.value c.row_count-count.ensures.few behind c.in_ok-numbers.numbers c.in_ok-numbers.ensures.value in
    let proved = ap (λ zs. equations_at v m line (proof_line region face zs)) got.front in
    let goes = proof_goes v m named line bytes region face got.numbers (c.in_ok-prove.ensures ∙ proved) in
    (proof_line region face got.numbers, sym (goes ∙ sym (numbers_go v m named line bytes region face got.numbers got.were) ∙ sym fresh ∙ read), c.add.ensures)
