use Rattle.std.proofs.Common.{◌+◌, ◌*◌, ◌∷◌, length, Err, sym, ap, ◌∙◌, arith}
use Rattle.text.proofs.Rows.{absent_told, err_is, seen_none, seen_some}
use Rattle.control.specs.Means.{meaning_of}
use Rattle.case.specs.Values.{values_of}
use Rattle.std.specs.List.{range_with_len}
use Rattle.checking.specs.Checking.{names, line_behind, all_named, text_check}
use Rattle.checking.specs.declared.faults.CheckFault.TheVariants.{Text}
use Rattle.checking.proofs.Cuts.{nothing_left, unfinished, rest_shorter, line_stops, line_more}
use Rattle.checking.proofs.Marking.{marks_more, marks_same}
use Rattle.checking.proofs.lines.check_lines.Goals as goal

pub returns-in_err-bytes : goal.returns-in_err-bytes
returns-in_err-bytes g c =
    let m = meaning_of g.C.Controller c.args.closed.now.controller.now in
    let v = values_of c.args.closed.now.case.now in
    let inv = c.loop-rest.invariant.1 in
    let e = c.in_err-bytes.field-0.0 in
    err_is c.from_residual.result (Text e) c.from_residual.ensures.1
    ∙ ap (λ f. Err (Text f)) (absent_told _ _ _ c.in_err-bytes.ensures.value c.in_err-bytes.ensures.ok_part)
    ∙ sym (unfinished v m inv.0 c.loop-rest.line c.loop-rest.rest.now (sym c.is_empty.ensures ∙ c.loop-rest-test.true) (seen_none _ _ _ c.in_err-bytes.ensures.ok_part c.cut.ensures))
    ∙ inv.2

pub returns-in_err-check_line : goal.returns-in_err-check_line
returns-in_err-check_line g c =
    let m = meaning_of g.C.Controller c.args.closed.now.controller.now in
    let v = values_of c.args.closed.now.case.now in
    let inv = c.loop-rest.invariant.1 in
    let e = c.in_err-check_line.field-0.0 in
    err_is c.from_residual-in_err-check_line.result e c.from_residual-in_err-check_line.ensures.1
    ∙ sym (line_stops v m inv.0 c.loop-rest.line c.loop-rest.rest.now c.in_ok-bytes.bytes.now c.in_ok-bytes.after.now e (seen_some _ _ _ _ c.in_ok-bytes.ensures.ok_part c.cut.ensures) (ap (λ n. line_behind v m n c.loop-rest.line c.in_ok-bytes.bytes.now) (sym (marks_same c.loop-rest.named.flags inv.0 inv.1)) ∙ c.in_err-check_line.ensures))
    ∙ inv.2

pub loop-rest-smaller : goal.loop-rest-smaller
loop-rest-smaller g c = omega (arith, rest_shorter c.loop-rest.rest.now c.in_ok-bytes.bytes.now c.in_ok-bytes.after.now (seen_some _ _ _ _ c.in_ok-bytes.ensures.ok_part c.cut.ensures))

pub loop-rest-preserved : goal.loop-rest-preserved
loop-rest-preserved g c =
    let m = meaning_of g.C.Controller c.args.closed.now.controller.now in
    let v = values_of c.args.closed.now.case.now in
    let inv = c.loop-rest.invariant.1 in
    let told = c.in_ok-check_line.ensures in
    let short = rest_shorter c.loop-rest.rest.now c.in_ok-bytes.bytes.now c.in_ok-bytes.after.now (seen_some _ _ _ _ c.in_ok-bytes.ensures.ok_part c.cut.ensures) in (
      omega (arith, short, c.loop-rest.invariant.0),
      (
        told.0 ∷ inv.0,
        marks_more c.loop-rest.named.flags _ told.0 inv.0 inv.1 told.2,
        sym (line_more v m inv.0 c.loop-rest.line c.loop-rest.rest.now c.in_ok-bytes.bytes.now c.in_ok-bytes.after.now told.0 (seen_some _ _ _ _ c.in_ok-bytes.ensures.ok_part c.cut.ensures) (ap (λ n. line_behind v m n c.loop-rest.line c.in_ok-bytes.bytes.now) (sym (marks_same c.loop-rest.named.flags inv.0 inv.1)) ∙ told.1)) ∙ inv.2,
      ),
    )

pub returns : goal.returns
returns g c =
    let m = meaning_of g.C.Controller c.args.closed.now.controller.now in
    let v = values_of c.args.closed.now.case.now in
    let inv = c.loop-rest.invariant.1 in
    let ended = nothing_left c.loop-rest.rest.now (sym c.is_empty.ensures ∙ c.loop-rest-test.false) in
    c.all.ensures ∙ ap (λ n. all_named n (range_with_len 1 c.regions.result) (range_with_len 1 c.face_count.result)) (marks_same c.loop-rest.named.flags inv.0 inv.1)
    ∙ ap (λ n. all_named (names inv.0) (range_with_len 1 n) (range_with_len 1 c.face_count.result)) c.regions.ensures
    ∙ ap (λ n. all_named (names inv.0) (range_with_len 1 (length m.regions)) (range_with_len 1 n)) c.face_count.ensures.value
    ∙ sym (ap (text_check v m inv.0 c.loop-rest.line) ended)
    ∙ inv.2
