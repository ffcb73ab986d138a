-- The proof of `CaseRows::extra_faces`: what the search leaves.
use Rattle.std.proofs.Common.{◌≡◌, [], map, length, get_or, sym, ap, ◌∙◌, rules, arith}
use Rattle.std.proofs.lemmas.List.{get_or-map, length-map}
use Rattle.case.specs.Stored.{extra_from, padded_extra, no_extra}
use Rattle.case.proofs.rows.CaseRows.extra_faces.Goals as goal

pub returns : goal.returns
returns c =
    let n = c.args.sizes.states in
    let rows = c.args.self.now.extras in
    let l : length c.args.self.now.extras ≡ 8 = search rules in
    let h = c.args.sizes.counts.1 in
    c.places.ensures (map padded_extra (map (extra_from n) rows)) (λ i y k f.
    let q : y ≡ padded_extra (extra_from n (get_or rows i [])) = search rules in
    q ∙ sym (get_or-map padded_extra (map (extra_from n) rows) i no_extra no_extra (omega (arith, length-map rows (extra_from n))) ∙ ap padded_extra (get_or-map (extra_from n) rows i [] no_extra (omega arith))))
