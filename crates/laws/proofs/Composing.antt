-- A law text from its parts.
use Rattle.std.proofs.Common.{◌≡◌, ◌≤◌, ℕ, List, [], ◌∷◌, length, ℤ, Ok, Err, Result, sym, refl, ap, ◌∙◌, arith}
use Rattle.text.specs.Blocks.{held_rows, rows_held}
use Rattle.text.specs.Lines.{bind, size_of, names_line}
use Rattle.text.proofs.Collecting.{rows_length}
use Rattle.text.proofs.Forming.{ok_same}
use Rattle.laws.specs.Laws.{LawText, Head, law_names, row_names, as_law, head_line, ordered, rows_of, body_of, law_of}
use Rattle.laws.specs.Limits.{row_limits}
use Rattle.laws.specs.Tables.{stored_rows, law_stored, answer_of, place_after, stored}
use Rattle.laws.specs.declared.faults.LawFault.{LawFault}
use Rattle.laws.specs.declared.faults.LawFault.TheVariants.{Text}
use Rattle.laws.specs.declared.table.LawTable.{LawTable}
use Rattle.laws.proofs.Rendering.{head_to}

abbrev after_names : List ℕ → Result (LawText × List ℕ) LawFault
after_names rest = bind (head_line rest) (λ h. body_of h.0 h.1)

abbrev after_size : List ℕ → Result (LawText × List ℕ) LawFault
after_size text = bind (as_law (names_line 1 law_names text)) after_names

-- up to two rows are held as they are stored
pub held_two : (rows : List (List ℤ)) → length rows ≤ 2 → held_rows 2 rows ≡ stored_rows rows
held_two [] few = refl
held_two (a ∷ []) few = refl
held_two (a ∷ b ∷ []) few = refl
held_two (a ∷ b ∷ c ∷ rows) few = absurd (omega arith)

module _ (text : List ℕ) (u : Unit {0}) (size : Ok u ≡ size_of text) where
  sized : after_size text ≡ law_of text
  sized = ap (λ r. bind (as_law r) (λ _. after_size text)) size

  module _ (rest : List ℕ) (names : Ok rest ≡ names_line 1 law_names text) where
    named : after_names rest ≡ law_of text
    named = ap (λ r. bind (as_law r) after_names) names ∙ sized

    module _ (head : Head) (body : List ℕ) (headed : Ok (head, body) ≡ head_line rest) where
      bodied : body_of head body ≡ law_of text
      bodied = ap (λ r. bind r (λ h. body_of h.0 h.1)) headed ∙ named

      abbrev built : List (List ℤ) × List ℕ → Result (LawText × List ℕ) LawFault
      built p = Ok (record { kind = head.kind; states = head.states; rows = p.0 }, p.1)

      abbrev after_row_names : List ℕ → Result (LawText × List ℕ) LawFault
      after_row_names rows = bind (rows_of head.kind head.states head.inputs 4 rows) built

      module _ (lines : List ℕ) (row_named : Ok lines ≡ names_line 3 (row_names head.kind) body) where
        lined : after_row_names lines ≡ law_of text
        lined = ap (λ r. bind (as_law r) after_row_names) row_named ∙ bodied

        pub rows_read : (rows : List (List ℤ)) (after : List ℕ) → Ok (rows, after) ≡ rows_held 2 (rows_of head.kind head.states head.inputs 4 lines)
            → Ok (head, rows, after) ≡ law_stored (law_of text)
        rows_read rows after h = by_rows (rows_of head.kind head.states head.inputs 4 lines) refl h ∙ ap law_stored lined
          where
            few : head.inputs ≤ 2
            few = (head_to rest body head (sym headed)).1.inputs_high

            by_rows : (r : Result (List (List ℤ) × List ℕ) LawFault) → rows_of head.kind head.states head.inputs 4 lines ≡ r → Ok (rows, after) ≡ rows_held 2 r
                → Ok (head, rows, after) ≡ law_stored (bind r built)
            by_rows (Ok p) q k =
                let s = ok_same (rows, after) (held_rows 2 p.0, p.1) k in
                let l : length p.0 ≡ head.inputs = rows_length Text (ordered head.kind head.states) (row_limits head.kind head.states) head.inputs 4 lines p q in
                ap (λ t. Ok (head, t.0, t.1)) s ∙ ap (λ t. Ok (head, t, p.1)) (held_two p.0 (omega (arith, l, few)))
                ∙ ap (λ m. Ok (record { kind = head.kind; states = head.states; inputs = m }, stored_rows p.0, p.1)) (sym l)
            by_rows (Err d) q k = grind arith

-- the law that an answer and a place come from
pub record Known (r : Result (LawText × List ℕ) LawFault) (n m : ℕ) (rest : List ℕ) (table : LawTable) : Type 0 where
  pub law : LawText
  pub was : r ≡ Ok (law, rest)
  pub states_are : n ≡ law.states
  pub inputs_are : m ≡ length law.rows
  pub table_is : table ≡ stored law

pub known : (r : Result (LawText × List ℕ) LawFault) (n m : ℕ) (rest : List ℕ) (old table : LawTable) → Ok (n, m, rest) ≡ answer_of r → table ≡ place_after old r → Known r n m rest table
known (Ok p) n m rest old table e t =
    let s = ok_same (n, m, rest) (p.0.states, length p.0.rows, p.1) e in
    record { law = p.0; was = ap (λ x. Ok (p.0, x)) (sym (ap (λ x. x.2) s)); states_are = ap (λ x. x.0) s; inputs_are = ap (λ x. x.1) s; table_is = t }
known (Err d) n m rest old table e t = grind arith
