-- The proof of `Sizes::read`: what the search leaves.
use Rattle.std.proofs.Common.{[], get_or, Ok, sym, ap, ◌∙◌, subst, rules}
use Rattle.case.specs.Forms.{SizesKept}
use Rattle.text.proofs.Rows.{err_is}
use Rattle.case.specs.Stored.{sizes_told}
use Rattle.case.specs.Texts.{unjudged}
use Rattle.case.proofs.Measuring.{section_refused, sizes_read, sizes_kept, sizes_shown}
use Rattle.case.proofs.sizes.Sizes.read.Goals as goal

pub returns-in_err-rows : goal.returns-in_err-rows
returns-in_err-rows c =
    ap sizes_told (err_is c.from_residual-in_err-rows.result _ c.from_residual-in_err-rows.ensures.1)
    ∙ section_refused c.args.text.now _ c.in_ok-sized.ensures _ (c.in_err-rows.ensures unjudged (λ line row zs r e h. search rules))

pub invariant_of-result : goal.invariant_of-result
invariant_of-result c =
    let row = get_or c.in_ok-rows.rows 0 [] in
    let h = c.in_ok-rows.ensures unjudged (λ line row zs r e h. search rules) in
    let r = sizes_read c.args.text.now _ c.in_ok-sized.ensures c.in_ok-rows.rows c.in_ok-rows.rest.now h in
    let s = sizes_shown row _ _ _ _ r.0 c.unsigned_abs.ensures.value c.unsigned_abs-2.ensures.value c.unsigned_abs-3.ensures.value c.unsigned_abs-4.ensures.value in
    let k = subst SizesKept (sym s) (sizes_kept row r.0) in
    record {
      sizes = (k.states_low, k.states_high, k.inputs_low, k.inputs_high);
      counts = (k.pushes_high, k.extras_high);
      divides = (k.divisor_low, k.divisor_high);
    }

pub returns : goal.returns
returns c =
    let row = get_or c.in_ok-rows.rows 0 [] in
    let h = c.in_ok-rows.ensures unjudged (λ line row zs r e h. search rules) in
    let r = sizes_read c.args.text.now _ c.in_ok-sized.ensures c.in_ok-rows.rows c.in_ok-rows.rest.now h in
    let s = sizes_shown row _ _ _ _ r.0 c.unsigned_abs.ensures.value c.unsigned_abs-2.ensures.value c.unsigned_abs-3.ensures.value c.unsigned_abs-4.ensures.value in
    ap (λ k. Ok (k, c.in_ok-rows.rest.now)) s ∙ r.1
