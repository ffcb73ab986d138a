-- The proof of `region_row`: what the search leaves.
use Rattle.std.proofs.Common.{◌≡◌, length, sym, refl, ap, ◌∙◌, w64, SFits, rules}
use Rattle.std.proofs.lemmas.Int.{to_z-of_z}
use Rattle.control.specs.Means.{meaning_of}
use Rattle.case.specs.System.{none}
use Rattle.system.proofs.Filling.{same_row, region_filled}
use Rattle.system.proofs.system.System.region_row.Goals as goal

pub returns : goal.returns
returns g c =
    let l = c.args.self.now.closed.now in
    let m = meaning_of g.C.Controller l.controller.now in
    let f : SFits w64 c.unwrap.result = search rules in
    let blank : c.fill.new.self ≡ none (length c.args.coefficients.now) = search rules in
    same_row _ _ _ _ refl (to_z-of_z w64 c.unwrap.result f)
    ∙ region_filled l.case.now m c.args.self.now.region c.args.j c.fill.new.self c.row.new.coefficients c.unwrap.result l.states l.inputs c.args.self.now.there c.requires.place
    (blank ∙ ap none c.requires.long) (sym c.unwrap.ensures ∙ c.row.ensures.answer) c.row.ensures.fills
