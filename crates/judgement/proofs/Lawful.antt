-- The controller that a law text means keeps the limits of a controller, and covers.
use Rattle.std.proofs.Common.{◌≡◌, ℕ, true, ◌&&◌, leb, List, length, take, ℤ, Ok, refl, subst}
use Rattle.std.proofs.lemmas.Bool.{and_parts, leb-true}
use Rattle.arith.specs.Bounds.{all_within}
use Rattle.arith.proofs.Bounds.{all_from_test}
use Rattle.control.specs.Cover.{Cover}
use Rattle.control.specs.Fixed.{fixed_ok}
use Rattle.control.specs.Limits.{most_states, most_inputs, sizes_ok, setting_limit, Limits}
use Rattle.control.specs.Saturated.{inputs_ok, saturated_ok}
use Rattle.control.specs.declared.input.Input.{Input}
use Rattle.control.specs.Lawful.FixedLaws.{FixedOk, fixed_limits, fixed_cover}
use Rattle.control.specs.Lawful.Inputs.{ok_inputs}
use Rattle.control.specs.Lawful.SaturatedLaws.{SaturatedOk, saturated_limits, saturated_cover}
use Rattle.laws.specs.Controllers.{table_ok, table_meaning, law_meaning}
use Rattle.laws.specs.Forms.{LawMeant}
use Rattle.laws.specs.Laws.{LawText, law_of}
use Rattle.laws.specs.Tables.{stored}
use Rattle.laws.specs.declared.table.LawTable.{LawTable}
use Rattle.laws.specs.declared.table.LawTable.TheVariants.{Saturated as SaturatedTable, Fixed as FixedTable}
use Rattle.laws.proofs.Making.{law_meant}

saturated_known : (n : ℕ) (is : List Input) → saturated_ok n is ≡ true → SaturatedOk n (length is) is
saturated_known n is t =
    let p = and_parts (sizes_ok n (length is)) (inputs_ok is) t in
    let q = and_parts (leb 1 n && leb n most_states) (leb 1 (length is) && leb (length is) most_inputs) p.0 in
    let a = and_parts (leb 1 n) (leb n most_states) q.0 in
    let b = and_parts (leb 1 (length is)) (leb (length is) most_inputs) q.1 in
    record {
      n_low = leb-true _ _ a.0;
      n_high = leb-true _ _ a.1;
      m_low = leb-true _ _ b.0;
      m_high = leb-true _ _ b.1;
      long = refl;
      each = ok_inputs is p.1;
    }

fixed_known : (n : ℕ) (us : List ℤ) → fixed_ok n us ≡ true → FixedOk n (length us) us
fixed_known n us t =
    let p = and_parts (sizes_ok n (length us)) (all_within setting_limit us) t in
    let q = and_parts (leb 1 n && leb n most_states) (leb 1 (length us) && leb (length us) most_inputs) p.0 in
    let a = and_parts (leb 1 n) (leb n most_states) q.0 in
    let b = and_parts (leb 1 (length us)) (leb (length us) most_inputs) q.1 in
    record {
      n_low = leb-true _ _ a.0;
      n_high = leb-true _ _ a.1;
      m_low = leb-true _ _ b.0;
      m_high = leb-true _ _ b.1;
      long = refl;
      small = all_from_test setting_limit us p.1;
    }

table_limits : (n m : ℕ) (t : LawTable) → table_ok n m t ≡ true → Limits (table_meaning n m t)
table_limits n m (SaturatedTable is) e =
    saturated_limits n (length (take m is)) (take m is) (saturated_known n (take m is) (and_parts (leb m most_inputs) (saturated_ok n (take m is)) e).1)
table_limits n m (FixedTable us) e =
    fixed_limits n (length (take m us)) (take m us) (fixed_known n (take m us) (and_parts (leb m most_inputs) (fixed_ok n (take m us)) e).1)

table_cover : (n m : ℕ) (t : LawTable) → table_ok n m t ≡ true → Cover (table_meaning n m t)
table_cover n m (SaturatedTable is) e =
    saturated_cover n (length (take m is)) (take m is) (saturated_known n (take m is) (and_parts (leb m most_inputs) (saturated_ok n (take m is)) e).1)
table_cover n m (FixedTable us) e =
    fixed_cover n (length (take m us)) (take m us) (fixed_known n (take m us) (and_parts (leb m most_inputs) (fixed_ok n (take m us)) e).1)

pub read_limits : (text : List ℕ) (law : LawText) (rest : List ℕ) → law_of text ≡ Ok (law, rest) → Limits (law_meaning law)
unfolding LawMeant
read_limits text law rest e =
    let h = law_meant text law rest e in
    subst Limits h.1 (table_limits law.states (length law.rows) (stored law) h.0)

pub read_cover : (text : List ℕ) (law : LawText) (rest : List ℕ) → law_of text ≡ Ok (law, rest) → Cover (law_meaning law)
unfolding LawMeant
read_cover text law rest e =
    let h = law_meant text law rest e in
    subst Cover h.1 (table_cover law.states (length law.rows) (stored law) h.0)
