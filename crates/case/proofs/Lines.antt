-- A section is read exactly when it is rendered.
use Rattle.std.proofs.Common.{◌≡◌, ℕ, ◌+◌, ◌<◌, true, List, length, ℤ, Ok, ap, ◌∙◌}
use Rattle.std.specs.List.{AllByRecursion}
use Rattle.text.specs.Blocks.{Judgement}
use Rattle.text.specs.Bytes.{line_feed}
use Rattle.text.specs.Forms.{all_above}
use Rattle.text.specs.Lines.{bind, names_line}
use Rattle.text.specs.Render.{line_before}
use Rattle.text.specs.declared.number.Limit.{Limit}
use Rattle.text.proofs.Collecting.{Accepts, told_ok, rows_length, rows_to, rows_from}
use Rattle.text.proofs.Forming.{bind_ok, names_to, names_from}
use Rattle.case.specs.Forms.{RowKept, rows_before, section_before}
use Rattle.case.specs.Texts.{as_case, rows_of, section_of}
use Rattle.case.specs.declared.faults.CaseFault.{CaseFault}
use Rattle.case.specs.declared.faults.CaseFault.TheVariants.{Text}

module _ {judged : Judgement CaseFault} {Good : List ℤ → Type 0} (good : Accepts judged Good) (limits : List Limit) (some : 0 < length limits) where
  pub section_to : (names : List ℕ) (k line : ℕ) (text : List ℕ) (rows : List (List ℤ)) (rest : List ℕ) → section_of names limits judged k line text ≡ Ok (rows, rest)
      → (text ≡ section_before names rows rest) × AllByRecursion (RowKept limits Good) rows × (length rows ≡ k)
  section_to names k line text rows rest e =
      let a = bind_ok (as_case (names_line line names text)) (λ t. rows_of limits judged k (line + 1) t) (rows, rest) e in
      let n = names_to line names text a.0 (told_ok Text _ a.0 a.1) in
      let r = rows_to Text good limits some k (line + 1) a.0 rows rest a.2 in
      (n ∙ ap (line_before names) r.0, r.1, rows_length Text judged limits k (line + 1) a.0 (rows, rest) a.2)

  pub section_from : (names : List ℕ) (line : ℕ) (rows : List (List ℤ)) (rest : List ℕ) → all_above line_feed names ≡ true → AllByRecursion (RowKept limits Good) rows
      → section_of names limits judged (length rows) line (section_before names rows rest) ≡ Ok (rows, rest)
  section_from names line rows rest plain k =
      ap (λ r. bind (as_case r) (λ t. rows_of limits judged (length rows) (line + 1) t)) (names_from line names (rows_before rows rest) plain)
      ∙ rows_from Text good limits some (line + 1) rows rest k
