-- The proof of `read_controller`: what the search leaves.
use Rattle.std.proofs.Common.{◌≡◌, Ok, IfSome, sym, ap, ◌∙◌, subst}
use Rattle.text.specs.Lines.{bind}
use Rattle.laws.specs.Controllers.{controlled, table_meaning, law_meaning}
use Rattle.laws.proofs.Making.{meant}
use Rattle.laws.proofs.reading.read_controller.Goals as goal

pub unwrap-law-requires : goal.unwrap-law-requires
unwrap-law-requires c =
    let h = c.in_ok-states.ensures in
    let m = meant c.args.text.now c.in_ok-states.states c.in_ok-states.inputs _ _ c.read_law.new.place h.value h.place in
    c.new.ensures.made ∙ m.ok

pub returns : goal.returns
returns c =
    let h = c.in_ok-states.ensures in
    let m = meant c.args.text.now c.in_ok-states.states c.in_ok-states.inputs _ _ c.read_law.new.place h.value h.place in
    let held = subst (λ o. IfSome o (λ law. controlled law ≡ table_meaning c.in_ok-states.states c.in_ok-states.inputs c.read_law.new.place)) c.unwrap-law.ensures c.new.ensures.held in
    ap (λ t. Ok (t, c.in_ok-states.rest.now)) (held ∙ m.meaning_is) ∙ ap (λ r. bind r (λ p. Ok (law_meaning p.0, p.1))) (sym m.was)
