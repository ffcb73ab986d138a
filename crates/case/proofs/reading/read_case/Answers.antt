-- The proof of `read_case`: what the search leaves.
use Rattle.std.proofs.Common.{sym, ap, ◌∙◌}
use Rattle.case.specs.Stored.{stored, stored_after, sizes_seen}
use Rattle.case.specs.Texts.{case_of}
use Rattle.case.proofs.Composing.{divisor_back}
use Rattle.case.proofs.Finishing.{body_refused, body_taken, read_meant}
use Rattle.case.proofs.Rendering.{case_form}
use Rattle.case.proofs.Storing.{equations_stored, bounds_stored, extras_stored, all_stored, values_back, lengths_are, limits_are, wide_is}
use Rattle.case.proofs.reading.read_case.Goals as goal

pub returns-in_err-sizes-clause-form : goal.returns-in_err-sizes-clause-form
returns-in_err-sizes-clause-form c = case_form c.args.text.now

pub returns-in_err-rows-clause-place : goal.returns-in_err-rows-clause-place
returns-in_err-rows-clause-place c =
    ap (stored_after (stored c.args.place.now))
    (sym (body_refused c.args.text.now (sizes_seen c.in_ok-sizes.sizes) c.in_ok-sizes.rest.now c.in_ok-sizes.ensures _ c.in_err-rows.ensures))

pub returns-in_err-rows-clause-form : goal.returns-in_err-rows-clause-form
returns-in_err-rows-clause-form c = case_form c.args.text.now

pub invariant_of-place : goal.invariant_of-place
invariant_of-place c =
    let s = c.in_ok-sizes.sizes in
    let k = sizes_seen c.in_ok-sizes.sizes in
    let rows = c.in_ok-rows.rows in
    let r = body_taken c.args.text.now k c.in_ok-sizes.rest.now c.in_ok-sizes.ensures rows c.in_ok-rows.proofs.now c.in_ok-rows.ensures in
    let d = divisor_back s.divisor s.divides in
    let a = c.equations.ensures ∙ equations_stored r.t r.kept k r.sizes rows r.held in
    let b = c.bounds.ensures ∙ bounds_stored r.t r.kept k r.sizes rows r.held in
    let x = c.extra_faces.ensures ∙ extras_stored r.t r.kept k r.sizes rows r.held in
    record {
      sizes = s.sizes;
      counts = s.counts;
      lengths = lengths_are r.t r.kept k r.sizes _ _ _ _ d a b x;
      divides = rw d s.divides;
      limits = limits_are r.t r.kept k r.sizes _ _ _ _ d a b x;
      wide = wide_is r.t r.kept k r.sizes _ _ _ _ d a b x;
    }

pub returns-clause-place : goal.returns-clause-place
returns-clause-place c =
    let s = c.in_ok-sizes.sizes in
    let k = sizes_seen c.in_ok-sizes.sizes in
    let rows = c.in_ok-rows.rows in
    let proofs = c.in_ok-rows.proofs.now in
    let r = body_taken c.args.text.now k c.in_ok-sizes.rest.now c.in_ok-sizes.ensures rows proofs c.in_ok-rows.ensures in
    let d = divisor_back s.divisor s.divides in
    let a = c.equations.ensures ∙ equations_stored r.t r.kept k r.sizes rows r.held in
    let b = c.bounds.ensures ∙ bounds_stored r.t r.kept k r.sizes rows r.held in
    let x = c.extra_faces.ensures ∙ extras_stored r.t r.kept k r.sizes rows r.held in
    all_stored r.t r.kept k r.sizes _ _ _ _ d a b x proofs c.first_proof.result c.first_proof.ensures ∙ ap (stored_after (stored c.args.place.now)) (sym r.was)

pub returns-clause-meant : goal.returns-clause-meant
returns-clause-meant c =
    let s = c.in_ok-sizes.sizes in
    let k = sizes_seen c.in_ok-sizes.sizes in
    let rows = c.in_ok-rows.rows in
    let proofs = c.in_ok-rows.proofs.now in
    let r = body_taken c.args.text.now k c.in_ok-sizes.rest.now c.in_ok-sizes.ensures rows proofs c.in_ok-rows.ensures in
    let d = divisor_back s.divisor s.divides in
    let a = c.equations.ensures ∙ equations_stored r.t r.kept k r.sizes rows r.held in
    let b = c.bounds.ensures ∙ bounds_stored r.t r.kept k r.sizes rows r.held in
    let x = c.extra_faces.ensures ∙ extras_stored r.t r.kept k r.sizes rows r.held in
    read_meant (case_of c.args.text.now) r.t proofs _ r.was (values_back r.t r.kept k r.sizes _ _ _ _ d a b x)

pub returns-clause-form : goal.returns-clause-form
returns-clause-form c = case_form c.args.text.now
