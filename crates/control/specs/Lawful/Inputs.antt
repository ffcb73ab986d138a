-- What the limits of an input give: its edges and right sides fit the code's numbers.
use Rattle.std.proofs.Common.{◌≡◌, ℕ, zero, suc, ◌+◌, ◌-◌, ◌*◌, ◌<◌, ◌≤◌, Bool, true, ◌&&◌, eqb, List, [], ◌∷◌, length, get_or, take, drop, ℤ, pos, negsuc, ◌+ℤ◌, ◌-ℤ◌, ◌*ℤ◌, ◌≤ℤ◌, sym, ap, ◌∙◌, subst, arith, lit<, w64, SFits, to_z, of_z}
use borrow.Rule.Slice.PartMut.{mid_of}
use lib.IntN.{pos-*ℤ-pos, pos-*ℤ-negsuc}
use lib.Signed.{le_z}
use Rattle.std.specs.List.{AllByRecursion}
use Rattle.std.proofs.ByRecursion.{All-take}
use Rattle.std.proofs.lemmas.List.{length-take-le, at_drop_more}
use Rattle.std.proofs.lemmas.Int.{ints, to_z-of_z}
use Rattle.std.proofs.lemmas.Bool.{and_parts, eqb-true}
use Rattle.arith.specs.Bounds.{Within, within, all_within}
use Rattle.arith.proofs.Bounds.{le_z_true, all_from_test, within_from_test, all_wider, sfits_within}
use Rattle.arith.proofs.Dots.{dot_within}
use Rattle.arith.proofs.Floors.{natural, mul_mono}
use Rattle.control.specs.declared.input.Input.{Input}
use Rattle.control.specs.declared.lines.Line.{Line}
use Rattle.control.specs.Limits.{most_states, state_limit, coefficient_limit, right_limit, setting_limit}
use Rattle.control.specs.Lines.{line, no_line}
use Rattle.control.specs.Saturated.{gain_limit, offset_limit, most_divisor, gains_ok, divisor_ok, bounds_ok, input_ok, inputs_ok, value, low_edge, high_edge}

-- the limits of an input, as facts
pub record InputOk (i : Input) : Type 0 where
  pub long : length i.gains ≡ most_states
  pub gains_small : AllByRecursion (Within gain_limit) i.gains
  pub offset_small : Within offset_limit i.offset
  pub divisor_low : pos 1 ≤ℤ i.divisor
  pub divisor_high : i.divisor ≤ℤ pos most_divisor
  pub low_small : Within setting_limit i.low
  pub high_small : Within setting_limit i.high
  pub ordered : i.low ≤ℤ i.high

pub ok_input : (i : Input) → input_ok i ≡ true → InputOk i
ok_input i e =
    let a = and_parts (gains_ok i && divisor_ok i) (bounds_ok i) e in
    let b = and_parts (gains_ok i) (divisor_ok i) a.0 in
    let g = and_parts (eqb (length i.gains) most_states && all_within gain_limit i.gains) (within offset_limit i.offset) b.0 in
    let h = and_parts (eqb (length i.gains) most_states) (all_within gain_limit i.gains) g.0 in
    let d = and_parts (le_z (pos 1) i.divisor) (le_z i.divisor (pos most_divisor)) b.1 in
    let o = and_parts (within setting_limit i.low && within setting_limit i.high) (le_z i.low i.high) a.1 in
    let k = and_parts (within setting_limit i.low) (within setting_limit i.high) o.0 in
    record {
      long = eqb-true _ _ h.0;
      gains_small = all_from_test gain_limit i.gains h.1;
      offset_small = within_from_test offset_limit i.offset g.1;
      divisor_low = le_z_true _ _ d.0;
      divisor_high = le_z_true _ _ d.1;
      low_small = within_from_test setting_limit i.low k.0;
      high_small = within_from_test setting_limit i.high k.1;
      ordered = le_z_true _ _ o.1;
    }

pub ok_inputs : (is : List Input) → inputs_ok is ≡ true → AllByRecursion InputOk is
ok_inputs [] e = tt
ok_inputs (i ∷ is) e = let p = and_parts (input_ok i) (inputs_ok is) e in (ok_input i p.0, ok_inputs is p.1)

-- the gains over n states
pub gains_long : (n : ℕ) (i : Input) → n ≤ most_states → InputOk i → length (take n i.gains) ≡ n
gains_long n i le ok = let h : n ≤ length i.gains = omega (arith, ok.long) in length-take-le n i.gains h

pub gains_within : (n : ℕ) (i : Input) → InputOk i → AllByRecursion (Within coefficient_limit) (take n i.gains)
gains_within n i ok = All-take (Within coefficient_limit) n i.gains (all_wider gain_limit coefficient_limit (omega arith) i.gains ok.gains_small)

-- the edges
abbrev edge_limit : ℕ
edge_limit = most_divisor * (setting_limit + 1)

scaled : (q z : ℤ) → pos 1 ≤ℤ q → q ≤ℤ pos most_divisor → Within (setting_limit + 1) z → Within edge_limit (q *ℤ z)
scaled q z lo hi w =
    let b = natural q lo in
    let le : b.0 ≤ most_divisor = omega (arith, ints, b.1) in
    subst (λ t. Within edge_limit (t *ℤ z)) (sym b.1) (
      omega (arith, ints, mul_mono b.0 (negsuc setting_limit) z w.0, pos-*ℤ-negsuc b.0 setting_limit),
      omega (arith, ints, mul_mono b.0 z (pos (setting_limit + 1)) w.1, pos-*ℤ-pos b.0 (setting_limit + 1)),
    )

pub record Edges (i : Input) : Type 0 where
  pub low_product : Within edge_limit (i.divisor *ℤ i.low)
  pub low_within : Within (edge_limit + 1) (low_edge i)
  pub high_within : Within edge_limit (high_edge i)

pub edges : (i : Input) → InputOk i → Edges i
edges i ok =
    let low : Within (setting_limit + 1) i.low = (omega (arith, ints, ok.low_small.0), omega (arith, ints, ok.low_small.1)) in
    let high : Within (setting_limit + 1) (i.high +ℤ pos 1) = (omega (arith, ints, ok.high_small.0), omega (arith, ints, ok.high_small.1)) in
    let a = scaled i.divisor i.low ok.divisor_low ok.divisor_high low in
    record {
      low_product = a;
      low_within = (omega (arith, ints, a.0), omega (arith, ints, a.1));
      high_within = scaled i.divisor (i.high +ℤ pos 1) ok.divisor_low ok.divisor_high high;
    }

-- the right sides of rows that are not settings
pub record Rights (i : Input) : Type 0 where
  pub low : Within right_limit (low_edge i -ℤ i.offset)
  pub middle : Within right_limit (i.divisor -ℤ pos 1 -ℤ i.offset)
  pub high : Within right_limit (i.offset -ℤ high_edge i)

pub rights : (i : Input) → InputOk i → Rights i
rights i ok =
    let k = edges i ok in
    let o = ok.offset_small in
    record {
      low = (omega (arith, ints, k.low_within.0, o.1), omega (arith, ints, k.low_within.1, o.0));
      middle = (omega (arith, ints, ok.divisor_low, o.1), omega (arith, ints, ok.divisor_high, o.0));
      high = (omega (arith, ints, k.high_within.1, o.0), omega (arith, ints, k.high_within.0, o.1));
    }

-- what fits the code's numbers
pub record Fit (i : Input) : Type 0 where
  pub q : SFits w64 i.divisor
  pub k : SFits w64 i.offset
  pub l : SFits w64 i.low
  pub h : SFits w64 i.high
  pub q1 : SFits w64 (i.divisor -ℤ pos 1)
  pub h1 : SFits w64 (i.high +ℤ pos 1)
  pub ql : SFits w64 (i.divisor *ℤ i.low)
  pub low : SFits w64 (low_edge i)
  pub high : SFits w64 (high_edge i)
  pub low_right : SFits w64 (low_edge i -ℤ i.offset)
  pub middle_right : SFits w64 (i.divisor -ℤ pos 1 -ℤ i.offset)
  pub high_right : SFits w64 (i.offset -ℤ high_edge i)

pub fit : (i : Input) → input_ok i ≡ true → Fit i
fit i e =
    let ok = ok_input i e in
    let k = edges i ok in
    let r = rights i ok in
    record {
      q = sfits_within most_divisor _ (lit< tt) (omega (arith, ints, ok.divisor_low), ok.divisor_high);
      k = sfits_within offset_limit _ (lit< tt) ok.offset_small;
      l = sfits_within setting_limit _ (lit< tt) ok.low_small;
      h = sfits_within setting_limit _ (lit< tt) ok.high_small;
      q1 = sfits_within most_divisor _ (lit< tt) (omega (arith, ints, ok.divisor_low), omega (arith, ints, ok.divisor_high));
      h1 = sfits_within (setting_limit + 1) _ (lit< tt) (omega (arith, ints, ok.high_small.0), omega (arith, ints, ok.high_small.1));
      ql = sfits_within edge_limit _ (lit< tt) k.low_product;
      low = sfits_within (edge_limit + 1) _ (lit< tt) k.low_within;
      high = sfits_within edge_limit _ (lit< tt) k.high_within;
      low_right = sfits_within right_limit _ (lit< tt) r.low;
      middle_right = sfits_within right_limit _ (lit< tt) r.middle;
      high_right = sfits_within right_limit _ (lit< tt) r.high;
    }

-- the edges and the rows as the code computes them
pub low_edge_read : (q l : ℤ) → SFits w64 q → SFits w64 l → SFits w64 (q *ℤ l) → SFits w64 (q *ℤ l -ℤ pos 1) → to_z w64 (of_z w64 (to_z w64 (of_z w64 (to_z w64 (of_z w64 q) *ℤ to_z w64 (of_z w64 l))) -ℤ pos 1)) ≡ q *ℤ l -ℤ pos 1
low_edge_read q l a b c d = simp to_z-of_z

pub high_edge_read : (q h : ℤ) → SFits w64 q → SFits w64 h → SFits w64 (h +ℤ pos 1) → SFits w64 (q *ℤ (h +ℤ pos 1)) → to_z w64 (of_z w64 (to_z w64 (of_z w64 q) *ℤ to_z w64 (of_z w64 (to_z w64 (of_z w64 h) +ℤ pos 1)))) ≡ q *ℤ (h +ℤ pos 1)
high_edge_read q h a b c d = simp to_z-of_z

pub middle_read : (q k : ℤ) → SFits w64 q → SFits w64 k → SFits w64 (q -ℤ pos 1) → SFits w64 (q -ℤ pos 1 -ℤ k) → to_z w64 (of_z w64 (to_z w64 (of_z w64 (to_z w64 (of_z w64 q) -ℤ pos 1)) -ℤ to_z w64 (of_z w64 k))) ≡ q -ℤ pos 1 -ℤ k
middle_read q k a b c d = simp to_z-of_z

-- the line at place k of a list
pub line_is : (ls : List Line) (k p : ℕ) (s o r a b : ℤ) → k ≡ p → line s a b ≡ get_or ls p no_line → o ≡ a → r ≡ b → line s o r ≡ get_or ls k no_line
line_is ls k p s o r a b e at own right = ap (λ t. line s t r) own ∙ ap (line s a) right ∙ at ∙ sym (ap (λ i. get_or ls i no_line) e)

-- the value at a state in range
pub front_slice : (n : ℕ) (g : List ℤ) → mid_of {X = ℤ} 0 (n - 0) g ≡ take n g
front_slice n g = let e : n - 0 ≡ n = omega arith in ap (λ k. take k g) e

pub value_fits : (i : Input) (x : List ℤ) → length x ≤ most_states → AllByRecursion (Within state_limit) x → input_ok i ≡ true → SFits w64 (value (length x) i x)
value_fits i x le small e =
    let ok = ok_input i e in
    let n = length x in
    let g = take n i.gains in
    let l : length g ≡ n = gains_long n i le ok in
    let p = dot_within gain_limit state_limit g x l (All-take (Within gain_limit) n i.gains ok.gains_small) small in
    sfits_within (gain_limit * state_limit * most_states + offset_limit) _ (lit< tt) (omega (arith, ints, p.0, ok.offset_small.0), omega (arith, ints, p.1, ok.offset_small.1))

-- an input of a list
abbrev pub no_input : Input
no_input = record { gains = []; offset = pos 0; divisor = pos 0; low = pos 0; high = pos 0 }

-- one turn of a loop that tests each input
pub turn_ok : (is : List Input) (k : ℕ) (b : Bool) → k < length is → b ≡ input_ok (get_or is k no_input) → inputs_ok (drop k is) ≡ (b && inputs_ok (drop (k + 1) is))
turn_ok is k b lt e = at_drop_more inputs_ok is k no_input lt ∙ ap (λ t. t && inputs_ok (drop (k + 1) is)) (sym e)

pub input_ok_at : (is : List Input) (k : ℕ) → k < length is → inputs_ok is ≡ true → input_ok (get_or is k no_input) ≡ true
input_ok_at [] k lt e = absurd (omega arith)
input_ok_at (i ∷ is) zero lt e = (and_parts (input_ok i) (inputs_ok is) e).0
input_ok_at (i ∷ is) (suc k) lt e = input_ok_at is k (omega arith) (and_parts (input_ok i) (inputs_ok is) e).1
