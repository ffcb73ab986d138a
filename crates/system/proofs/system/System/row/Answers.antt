-- The proof of `row`: what the search leaves.
use Rattle.std.proofs.Common.{refl, ◌∙◌, arith, w64, SFits, rules}
use Rattle.std.proofs.lemmas.Int.{to_z-of_z}
use Rattle.control.specs.Means.{meaning_of}
use Rattle.control.specs.Answers.{region_of}
use Rattle.system.proofs.Counts.{case_rows}
use Rattle.system.proofs.Filling.{same_row}
use Rattle.system.proofs.Groups.{face_at, region_at, push_at_row, next_at_row}
use Rattle.system.proofs.system.System.row.Goals as goal

pub overflow_sub-nexts : goal.overflow_sub-nexts
overflow_sub-nexts g c =
    let l = c.args.self.now.closed.now in
    let r = region_of (meaning_of g.C.Controller l.controller.now) c.args.self.now.region in
    omega (arith, c.args.self.now.counted, case_rows l.case.now r)

pub overflow_sub-pushes : goal.overflow_sub-pushes
overflow_sub-pushes g c =
    let l = c.args.self.now.closed.now in
    let r = region_of (meaning_of g.C.Controller l.controller.now) c.args.self.now.region in
    omega (arith, c.args.self.now.counted, case_rows l.case.now r)

pub region_row-requires-clause-place : goal.region_row-requires-clause-place
region_row-requires-clause-place g c =
    let l = c.args.self.now.closed.now in
    let r = region_of (meaning_of g.C.Controller l.controller.now) c.args.self.now.region in
    omega (arith, c.args.self.now.counted, case_rows l.case.now r)

pub returns-then-j-boxes : goal.returns-then-j-boxes
returns-then-j-boxes g c =
    let f : SFits w64 c.box_row.result = search rules in
    same_row _ _ _ _ refl (to_z-of_z w64 _ f) ∙ c.box_row.ensures ∙ face_at c.args.self.now.closed.now.case.now _ c.args.j (omega arith)

pub returns-then-j-faces : goal.returns-then-j-faces
returns-then-j-faces g c =
    let f : SFits w64 c.extra_row.result = search rules in
    same_row _ _ _ _ refl (to_z-of_z w64 _ f) ∙ c.extra_row.ensures ∙ face_at c.args.self.now.closed.now.case.now _ c.args.j (omega arith)

pub returns-then-j-pushes : goal.returns-then-j-pushes
returns-then-j-pushes g c =
    let l = c.args.self.now.closed.now in
    let r = region_of (meaning_of g.C.Controller l.controller.now) c.args.self.now.region in
    let f : SFits w64 c.region_row.result = search rules in
    same_row _ _ _ _ refl (to_z-of_z w64 _ f) ∙ c.region_row.ensures
    ∙ region_at l.case.now r c.args.j (omega arith) (omega (arith, c.args.self.now.counted, case_rows l.case.now r))

pub returns-then-j-nexts : goal.returns-then-j-nexts
returns-then-j-nexts g c =
    let f : SFits w64 c.push_row.result = search rules in
    same_row _ _ _ _ refl (to_z-of_z w64 _ f) ∙ c.push_row.ensures ∙ push_at_row c.args.self.now.closed.now.case.now _ c.args.self.now.rows c.args.j c.args.self.now.counted (omega arith) (omega arith)

pub returns-else-j-nexts : goal.returns-else-j-nexts
returns-else-j-nexts g c =
    let f : SFits w64 c.next_row.result = search rules in
    same_row _ _ _ _ refl (to_z-of_z w64 _ f) ∙ c.next_row.ensures ∙ next_at_row c.args.self.now.closed.now.case.now _ c.args.self.now.rows c.args.j c.args.self.now.counted (omega arith)
