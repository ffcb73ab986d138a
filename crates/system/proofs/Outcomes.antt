-- The answers, case by case, for every case and every meaning of a controller.
use Rattle.std.proofs.Common.{◌≡◌, ℕ, ◌+◌, ◌-◌, Bool, true, false, cond, eqb, ltb, [], length, Result, Ok, Err, is_ok, MatchResult, refl, sym, ap, ◌∙◌, subst, arith}
use Rattle.std.specs.List.{AllByRecursion}
use Rattle.std.proofs.ByRecursion.{All-get_or, All-weaker}
use Rattle.std.proofs.lemmas.Bool.{and_parts, ltb-true, eqb-true}
use Rattle.control.specs.declared.fault.ControlFault.TheVariants as control
use Rattle.control.specs.declared.fault.ControlFault.{ControlFault}
use Rattle.control.specs.Meaning.{Meaning}
use Rattle.control.specs.Limits.{Limits, RegionLimits, RowLimits}
use Rattle.control.specs.Answers.{present, region_of, rows_answer}
use Rattle.case.specs.declared.values.Case.{Case}
use Rattle.case.specs.Values.{state_count, values_of}
use Rattle.case.specs.System.{column_count}
use Rattle.case.proofs.Stored.{states_are}
use Rattle.system.specs.declared.fault.SystemFault.TheVariants.{Sizes, Missing}
use Rattle.system.specs.declared.size.SystemSize.{SystemSize}
use Rattle.system.specs.Bridge.{Bridge}
use Rattle.system.specs.Answers.{fits, system_of, size_answer}
use Rattle.system.proofs.Bridged.{bridge}
use Rattle.system.proofs.Stored.{case_wide}

-- what the controller says of a region
counted_by : (b : Bool) (l n : ℕ) → Ok n ≡ cond b (Ok l) (Err control.Missing) → (b ≡ true) × (n ≡ l)
counted_by true l n e = (refl, cc)
counted_by false l n e = let z : ◌≡◌ {A = ℕ} 0 1 = cc in absurd (omega arith)

pub counted : (m : Meaning) (k n : ℕ) → Ok n ≡ rows_answer m k → (present m.regions k ≡ true) × (n ≡ length (region_of m k))
counted m k n e = counted_by (present m.regions k) (length (region_of m k)) n e

-- the same where another fault is told
pub counted_told : {E : Type 0} (P : ControlFault → Type 0) (m : Meaning) (k n : ℕ) (r : Result ℕ ControlFault) (t : Result ℕ E) → r ≡ rows_answer m k → MatchResult r (λ x. t ≡ Ok x) P → is_ok t ≡ is_ok r → t ≡ Ok n → (present m.regions k ≡ true) × (n ≡ length (region_of m k))
counted_told P m k n (Ok x) t e cases same told = let z = sym told ∙ cases in let q : n ≡ x = cc in counted m k n (ap Ok q ∙ e)
counted_told P m k n (Err fault) t e cases same told = let z : ◌≡◌ {A = Bool} true false = sym (ap is_ok told) ∙ same in let w : ◌≡◌ {A = ℕ} 0 1 = cc in absurd (omega arith)

pub region_limits : (m : Meaning) → Limits m → (k : ℕ) → present m.regions k ≡ true → RegionLimits (m.states + m.inputs) (region_of m k)
region_limits m limits k e =
    let p = and_parts (ltb 0 k) (ltb (k - 1) (length m.regions)) e in
    All-get_or (RegionLimits (m.states + m.inputs)) m.regions (k - 1) [] (ltb-true _ _ p.1) limits.each

-- the rows of a region of a controller with the sizes of the case
pub rows_limits : (c : Case) (m : Meaning) → Limits m → m.states ≡ c.states → m.inputs ≡ c.inputs → (k : ℕ) → present m.regions k ≡ true → AllByRecursion (RowLimits (c.states + c.inputs)) (region_of m k)
rows_limits c m limits e f k there =
    let w : m.states + m.inputs ≡ c.states + c.inputs = omega arith in
    subst (λ n. AllByRecursion (RowLimits n) (region_of m k)) w (region_limits m limits k there).each

-- what an answered size says
pub record Sized (c : Case) (m : Meaning) (region : ℕ) (size : SystemSize) : Type 0 where
  pub states : m.states ≡ c.states
  pub inputs : m.inputs ≡ c.inputs
  pub region_there : present m.regions region ≡ true
  pub rows : size.rows ≡ length (system_of (values_of c) m region)
  pub columns : size.columns ≡ column_count (values_of c)

sized_by : (a b : Bool) (s z : SystemSize) → Ok s ≡ cond a (cond b (Ok z) (Err Missing)) (Err Sizes) → (a ≡ true) × (b ≡ true) × (s ≡ z)
sized_by true true s z e = (refl, refl, cc)
sized_by true false s z e = let t : ◌≡◌ {A = ℕ} 0 1 = cc in absurd (omega arith)
sized_by false b s z e = let t : ◌≡◌ {A = ℕ} 0 1 = cc in absurd (omega arith)

pub sized : (c : Case) (m : Meaning) (region : ℕ) (size : SystemSize) → Ok size ≡ size_answer (values_of c) m region → Sized c m region size
sized c m region size e =
    let k = values_of c in
    let p = sized_by (fits k m) (present m.regions region) size (record { rows = length (system_of k m region); columns = column_count k }) e in
    let q = and_parts (eqb m.states (state_count k)) (eqb m.inputs k.inputs) p.0 in
    record {
      states = eqb-true _ _ q.0 ∙ states_are c;
      inputs = eqb-true _ _ q.1;
      region_there = p.1;
      rows = ap (λ s. s.rows) p.2;
      columns = ap (λ s. s.columns) p.2;
    }

pub bridged_there : (c : Case) (m : Meaning) (region : ℕ) → Limits m → m.states ≡ c.states → m.inputs ≡ c.inputs → present m.regions region ≡ true → Bridge (values_of c) (region_of m region)
bridged_there c m region limits states inputs there =
    let n = state_count (values_of c) + c.inputs in
    let w : c.states + c.inputs ≡ n = omega (arith, states_are c) in
    bridge (values_of c) (region_of m region) (case_wide c)
    (All-weaker (RowLimits (c.states + c.inputs)) (λ r. length r.coefficients ≡ n) (λ r l. l.wide ∙ w) (region_of m region) (rows_limits c m limits states inputs region there))

-- the same of an answered size
pub bridged : (c : Case) (m : Meaning) (region : ℕ) (size : SystemSize) → Limits m → Ok size ≡ size_answer (values_of c) m region → Bridge (values_of c) (region_of m region)
bridged c m region size limits e = let t = sized c m region size e in bridged_there c m region limits t.states t.inputs t.region_there
