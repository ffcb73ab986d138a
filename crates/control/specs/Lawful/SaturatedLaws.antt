-- The saturated law keeps the limits and covers.
use Rattle.std.proofs.Common.{◌≡◌, ℕ, suc, ◌+◌, ◌*◌, ◌/◌, ◌%◌, ◌^◌, ◌<◌, ◌≤◌, true, false, cond, List, [], ◌∷◌, ◌++◌, map, length, get_or, take, ℤ, pos, negsuc, ◌+ℤ◌, ◌-ℤ◌, ◌*ℤ◌, neg_ℤ, ◌≤ℤ◌, ◌<ℤ◌, sym, refl, ap, ◌∙◌, subst, pow-suc, arith}
use lib.IntN.{zero-*ℤ}
use lib.Signed.{le_z}
use Rattle.std.specs.List.{AllByRecursion, range_with_len}
use Rattle.std.specs.Int.{int_max, int_min}
use Rattle.std.proofs.lemmas.List.FromFn.{length-map-range_with_len, get_or-map-range_with_len}
use Rattle.std.proofs.ByRecursion.{All-append, All-map, All-weaker, All-take}
use Rattle.std.proofs.lemmas.List.{length-append, length-map, length-take-le}
use Rattle.std.proofs.lemmas.Int.{ints, clamps}
use Rattle.std.proofs.lemmas.Bool.{cond_both}
use Rattle.arith.specs.Bounds.{Within}
use Rattle.arith.specs.Products.{dot}
use Rattle.arith.proofs.Lists.{all_of, at_one_two}
use Rattle.arith.proofs.Bounds.{le_z_true, le_z_false, within_wider, negated_within}
use Rattle.arith.proofs.Floors.{natural, mul_one, mul_below, floor_low, floor_high}
use Rattle.arith.proofs.Ring.{*ℤ_distl, neg-*ℤ}
use Rattle.control.specs.declared.input.Input.{Input}
use Rattle.control.specs.declared.input.Digit.{Digit}
use Rattle.control.specs.declared.input.Digit.TheVariants.{Low, Middle, High}
use Rattle.control.specs.declared.lines.Line.{Line}
use Rattle.control.specs.Meaning.{Meaning, meaning}
use Rattle.control.specs.Limits.{most_states, most_inputs, most_regions, coefficient_limit, right_limit, command_limit, setting_limit, State, Limits, RowLimits, RegionLimits}
use Rattle.control.specs.Cover.{Holds, Cover}
use Rattle.control.specs.declared.input.Limited.{Limited}
use Rattle.control.specs.declared.state.States.{States}
use Rattle.control.specs.declared.per_input.PerInput.{PerInput}
use Rattle.control.specs.PerInput.{items}
use Rattle.control.specs.Held.{inputs_of}
use Rattle.control.specs.Lines.{line, spread, row_from, stacked}
use Rattle.control.specs.Saturated.{inputs_ok, offset_limit, value, quotient, part, low_edge, high_edge, digit_of, lines, radix, number, numbered, region_lines, gains_at, region_rows, index_of, digits_at, saturated_command, saturated_partition}
use Rattle.control.specs.Lawful.Inputs.{InputOk, ok_input, ok_inputs, gains_long, gains_within, rights}
use Rattle.control.specs.Lawful.Few.{items_few}
use Rattle.control.specs.Lawful.Spread.{dot_spread, row_limits}

abbrev pub saturated_meaning : ℕ → ℕ → List Input → Meaning
saturated_meaning n m is = meaning n m (saturated_partition n is) (saturated_command n is)

-- what is known of a saturated law
pub record SaturatedOk (n m : ℕ) (is : List Input) : Type 0 where
  pub n_low : 1 ≤ n
  pub n_high : n ≤ most_states
  pub m_low : 1 ≤ m
  pub m_high : m ≤ most_inputs
  pub long : length is ≡ m
  pub each : AllByRecursion InputOk is

-- what the limits of inputs give
pub ok_from : (n m : ℕ) (is : List Input) → (1 ≤ n) × (n ≤ most_states) × (1 ≤ m) × (m ≤ most_inputs) → length is ≡ 2 → inputs_ok is ≡ true → SaturatedOk n m (take m is)
ok_from n m is sizes two limits =
    let le : m ≤ length is = omega arith in
    record {
      n_low = sizes.0;
      n_high = sizes.1;
      m_low = sizes.2;
      m_high = sizes.3;
      long = length-take-le m is le;
      each = All-take InputOk m is (ok_inputs is limits);
    }

-- what a saturated law knows of itself
pub ok_held : (n : States) (p : PerInput Limited) → SaturatedOk n.count (length (inputs_of p)) (inputs_of p)
ok_held n p =
    let few = items_few p in
    record {
      n_low = n.some;
      n_high = n.few;
      m_low = omega (arith, few.0, length-map (items p) (λ l. l.input));
      m_high = omega (arith, few.1, length-map (items p) (λ l. l.input));
      long = refl;
      each = All-map InputOk (λ l. l.input) (items p) (all_of (λ l. InputOk l.input) (λ l. ok_input l.input l.kept) (items p));
    }

-- the clipped quotient at each digit
clip_low : (b : ℕ) (l h v : ℤ) → 0 < b → l ≤ℤ h → v ≤ℤ (pos b *ℤ l -ℤ pos 1) → int_max l (int_min h (quotient v (pos b))) ≡ l
clip_low b l h v p o t =
    let f = quotient v (pos b) in
    let t' : f <ℤ l = mul_below b f l (omega (arith, ints, floor_low v b p)) in
    omega (arith, ints, clamps)

clip_high : (b : ℕ) (l h v : ℤ) → 0 < b → l ≤ℤ h → (pos b *ℤ (h +ℤ pos 1)) ≤ℤ v → int_max l (int_min h (quotient v (pos b))) ≡ h
clip_high b l h v p o t =
    let f = quotient v (pos b) in
    let t' : h <ℤ (f +ℤ pos 1) = mul_below b h (f +ℤ pos 1) (omega (arith, ints, floor_high v b p, *ℤ_distl (pos b) h (pos 1), *ℤ_distl (pos b) f (pos 1), mul_one b)) in
    omega (arith, ints, clamps)

clip_middle : (b : ℕ) (l h v : ℤ) → 0 < b → l ≤ℤ h → (pos b *ℤ l) ≤ℤ v → v <ℤ (pos b *ℤ (h +ℤ pos 1)) → int_max l (int_min h (quotient v (pos b))) ≡ quotient v (pos b)
clip_middle b l h v p o t s =
    let f = quotient v (pos b) in
    let t' : l <ℤ (f +ℤ pos 1) = mul_below b l (f +ℤ pos 1) (omega (arith, ints, floor_high v b p, *ℤ_distl (pos b) f (pos 1), mul_one b)) in
    let s' : f <ℤ (h +ℤ pos 1) = mul_below b f (h +ℤ pos 1) (omega (arith, ints, floor_low v b p)) in
    omega (arith, ints, clamps)

-- a line at the product d of gains and state, and the part u of the command
abbrev Fair : ℤ → ℤ → Line → Type 0
Fair d u l = (l.sign *ℤ d +ℤ l.own *ℤ u) ≤ℤ l.right

abbrev input : List ℤ → ℤ → ℕ → ℤ → ℤ → Input
input g k b l h = record { gains = g; offset = k; divisor = pos b; low = l; high = h }

low_fair : (g : List ℤ) (k : ℤ) (b : ℕ) (l h d : ℤ) → 0 < b → l ≤ℤ h → le_z (d +ℤ k) (pos b *ℤ l -ℤ pos 1) ≡ true → AllByRecursion (Fair d (part (input g k b l h) (d +ℤ k))) (lines (input g k b l h) Low)
low_fair g k b l h d p o t =
    let t' : (d +ℤ k) ≤ℤ (pos b *ℤ l -ℤ pos 1) = le_z_true _ _ t in
    let e = clip_low b l h (d +ℤ k) p o t' in
    let z = zero-*ℤ d in
    let y = zero-*ℤ (int_max l (int_min h (quotient (d +ℤ k) (pos b)))) in
    (omega (arith, ints), (omega (arith, ints), (omega (arith, ints), tt)))

high_fair : (g : List ℤ) (k : ℤ) (b : ℕ) (l h d : ℤ) → 0 < b → l ≤ℤ h → le_z (pos b *ℤ (h +ℤ pos 1)) (d +ℤ k) ≡ true → AllByRecursion (Fair d (part (input g k b l h) (d +ℤ k))) (lines (input g k b l h) High)
high_fair g k b l h d p o t =
    let t' : (pos b *ℤ (h +ℤ pos 1)) ≤ℤ (d +ℤ k) = le_z_true _ _ t in
    let e = clip_high b l h (d +ℤ k) p o t' in
    let z = zero-*ℤ d in
    let y = zero-*ℤ (int_max l (int_min h (quotient (d +ℤ k) (pos b)))) in
    (omega (arith, ints), (omega (arith, ints), (omega (arith, ints), tt)))

middle_fair : (g : List ℤ) (k : ℤ) (b : ℕ) (l h d : ℤ) → 0 < b → l ≤ℤ h → le_z (d +ℤ k) (pos b *ℤ l -ℤ pos 1) ≡ false → le_z (pos b *ℤ (h +ℤ pos 1)) (d +ℤ k) ≡ false → AllByRecursion (Fair d (part (input g k b l h) (d +ℤ k))) (lines (input g k b l h) Middle)
middle_fair g k b l h d p o s t =
    let v = d +ℤ k in
    let f = quotient v (pos b) in
    let s' : (pos b *ℤ l) ≤ℤ v = omega (arith, ints, le_z_false v (pos b *ℤ l -ℤ pos 1) s) in
    let t' : v <ℤ (pos b *ℤ (h +ℤ pos 1)) = le_z_false _ _ t in
    let e : int_max l (int_min h f) ≡ f = clip_middle b l h v p o s' t' in
    let z = zero-*ℤ d in
    subst (λ u. AllByRecursion (Fair d u) (lines (input g k b l h) Middle)) (sym e) (
      omega (arith, ints, floor_low v b p),
      (
        omega (arith, ints, floor_high v b p, neg-*ℤ (pos b) f),
        (
          omega (arith, ints, mul_below b f (h +ℤ pos 1) (omega (arith, ints, floor_low v b p))),
          (omega (arith, ints, mul_below b l (f +ℤ pos 1) (omega (arith, ints, floor_high v b p, *ℤ_distl (pos b) f (pos 1), mul_one b))), tt),
        ),
      ),
    )

fair : (g : List ℤ) (k : ℤ) (b : ℕ) (l h d : ℤ) → 0 < b → l ≤ℤ h → AllByRecursion (Fair d (part (input g k b l h) (d +ℤ k))) (lines (input g k b l h) (digit_of (input g k b l h) (d +ℤ k)))
fair g k b l h d p o =
    let P : Digit → Type 0 = λ t. AllByRecursion (Fair d (part (input g k b l h) (d +ℤ k))) (lines (input g k b l h) t) in
    cond_both (le_z (d +ℤ k) (pos b *ℤ l -ℤ pos 1)) Low (cond (le_z (pos b *ℤ (h +ℤ pos 1)) (d +ℤ k)) High Middle) P
    (λ t. low_fair g k b l h d p o t)
    (λ s. cond_both (le_z (pos b *ℤ (h +ℤ pos 1)) (d +ℤ k)) High Middle P (λ t. high_fair g k b l h d p o t) (λ t. middle_fair g k b l h d p o s t))

input_fair : (n : ℕ) (i : Input) (x : List ℤ) → InputOk i → AllByRecursion (Fair (dot (take n i.gains) x) (part i (value n i x))) (lines i (digit_of i (value n i x)))
input_fair n i x ok =
    let b = natural i.divisor ok.divisor_low in
    let P : ℤ → Type 0 = λ q. let j : Input = record { gains = i.gains; offset = i.offset; divisor = q; low = i.low; high = i.high } in AllByRecursion (Fair (dot (take n i.gains) x) (part j (value n j x))) (lines j (digit_of j (value n j x))) in
    subst P (sym b.1) (fair i.gains i.offset b.0 i.low i.high (dot (take n i.gains) x) b.2 ok.ordered)

-- digits and their numbers
number_small : (d : Digit) → number d < radix
number_small Low = omega arith
number_small Middle = omega arith
number_small High = omega arith

numbered_number : (d : Digit) → numbered (number d) ≡ d
numbered_number Low = refl
numbered_number Middle = refl
numbered_number High = refl

index_small : (ds : List Digit) → index_of ds < radix ^ length ds
index_small [] = omega arith
index_small (d ∷ ds) = omega (arith, number_small d, index_small ds, pow-suc radix (length ds))

-- the lines of the region at x are those of the digits
region_lines_at : (n : ℕ) (is : List Input) (x : List ℤ) → region_lines is (index_of (digits_at n is x)) ≡ map (λ i. lines i (digit_of i (value n i x))) is
region_lines_at n [] x = refl
region_lines_at n (i ∷ is) x =
    let t = digit_of i (value n i x) in
    let d = number t in
    let r = index_of (digits_at n is x) in
    let s = number_small t in
    let e : (d + radix * r) % radix ≡ d = omega arith in
    let f : (d + radix * r) / radix ≡ r = omega arith in
    ap (λ k. lines i (numbered k) ∷ region_lines is ((d + radix * r) / radix)) e
    ∙ ap (λ k. lines i k ∷ region_lines is ((d + radix * r) / radix)) (numbered_number t)
    ∙ ap (λ k. lines i t ∷ region_lines is k) f ∙ ap (λ ls. lines i t ∷ ls) (region_lines_at n is x)

-- the gains and the command from place j on are those of the inputs
abbrev Fit : ℕ → List ℤ → List ℤ → (ℕ → List ℤ) → ℕ → List Input → Type 0
Fit n x u g j [] = Unit {0}
Fit n x u g j (i ∷ is) = (g j ≡ take n i.gains) × (get_or u j (pos 0) ≡ part i (value n i x)) × Fit n x u g (suc j) is

line_holds : (n m j : ℕ) (i : Input) (x u g : List ℤ) → n ≤ most_states → length x ≡ n → length u ≡ m → j < m → InputOk i → g ≡ take n i.gains → get_or u j (pos 0) ≡ part i (value n i x) → (l : Line) → Fair (dot (take n i.gains) x) (part i (value n i x)) l → Holds (x ++ u) (row_from g m j l)
line_holds n m j i x u g le ex eu lt ok eg ep l fits =
    let lg : length g ≡ length x = ap length eg ∙ gains_long n i le ok ∙ sym ex in
    let e : dot (spread g m j l) (x ++ u) ≡ l.sign *ℤ dot (take n i.gains) x +ℤ l.own *ℤ part i (value n i x) =
    dot_spread g m j l x u lg lt eu ∙ ap (λ t. l.sign *ℤ dot t x +ℤ l.own *ℤ get_or u j (pos 0)) eg ∙ ap (λ t. l.sign *ℤ dot (take n i.gains) x +ℤ l.own *ℤ t) ep in
    subst (λ t. t ≤ℤ l.right) (sym e) fits

stack_holds : (n m j : ℕ) (is : List Input) (x u : List ℤ) (g : ℕ → List ℤ) → n ≤ most_states → length x ≡ n → length u ≡ m → j + length is ≡ m → AllByRecursion InputOk is → Fit n x u g j is → AllByRecursion (Holds (x ++ u)) (stacked g m j (map (λ i. lines i (digit_of i (value n i x))) is))
stack_holds n m j [] x u g le ex eu em ok fit = tt
stack_holds n m j (i ∷ is) x u g le ex eu em ok fit =
    let ls = lines i (digit_of i (value n i x)) in
    All-append (Holds (x ++ u)) (map (row_from (g j) m j) ls) (stacked g m (suc j) (map (λ i. lines i (digit_of i (value n i x))) is))
    (All-map (Holds (x ++ u)) (row_from (g j) m j) ls
    (All-weaker (Fair (dot (take n i.gains) x) (part i (value n i x))) (λ l. Holds (x ++ u) (row_from (g j) m j l))
    (line_holds n m j i x u (g j) le ex eu (omega arith) ok.0 fit.0 fit.1) ls (input_fair n i x ok.0)))
    (stack_holds n m (suc j) is x u g le ex eu (omega arith) ok.1 fit.2)

fit_all : (n m : ℕ) (is : List Input) (x : List ℤ) → SaturatedOk n m is → Fit n x (saturated_command n is x) (gains_at n is) 0 is
fit_all n m is x ok =
    at_one_two (λ k vs. Fit n x (saturated_command n vs x) (gains_at n vs) 0 vs) (λ a. (refl, refl, tt)) (λ a b. (refl, refl, (refl, refl, tt)))
    m is ok.long ok.m_low ok.m_high

-- how many regions there are, and each of them
pub partition_long : (n : ℕ) (is : List Input) → length (saturated_partition n is) ≡ radix ^ length is
partition_long n is = length-map-range_with_len (region_rows n is) 0 (radix ^ length is)

pub partition_at : (n : ℕ) (is : List Input) (r : ℕ) → r < radix ^ length is → get_or (saturated_partition n is) r [] ≡ region_rows n is r
partition_at n is r lt = get_or-map-range_with_len (region_rows n is) 0 (radix ^ length is) r r [] lt (omega arith)

digits_long : (n : ℕ) (is : List Input) (x : List ℤ) → index_of (digits_at n is x) < radix ^ length is
digits_long n is x = subst (λ k. index_of (digits_at n is x) < radix ^ k) (length-map is (λ i. digit_of i (value n i x))) (index_small (digits_at n is x))

-- all rows of the region at a state hold
pub region_holds : (n m : ℕ) (is : List Input) → SaturatedOk n m is → (x : List ℤ) → State n x → AllByRecursion (Holds (x ++ saturated_command n is x)) (get_or (saturated_partition n is) (index_of (digits_at n is x)) [])
region_holds n m is ok x s =
    let k = length is in
    let u = saturated_command n is x in
    let e = partition_at n is (index_of (digits_at n is x)) (digits_long n is x) ∙ ap (stacked (gains_at n is) k 0) (region_lines_at n is x) in
    subst (AllByRecursion (Holds (x ++ u))) (sym e)
    (stack_holds n k 0 is x u (gains_at n is) ok.n_high s.long (length-map is (λ i. part i (value n i x))) (omega arith) ok.each (fit_all n m is x ok))

pub saturated_cover : (n m : ℕ) (is : List Input) → SaturatedOk n m is → Cover (saturated_meaning n m is)
saturated_cover n m is ok x s =
    let k = index_of (digits_at n is x) in
    (k, subst (λ t. k < t) (sym (partition_long n is)) (digits_long n is x), region_holds n m is ok x s)

-- the limits
zero_unit : Within 1 (pos 0)
zero_unit = (omega (arith, ints), omega (arith, ints))

plus_unit : Within 1 (pos 1)
plus_unit = (omega (arith, ints), omega (arith, ints))

minus_unit : Within 1 (negsuc 0)
minus_unit = (omega (arith, ints), omega (arith, ints))

unit_wider : (z : ℤ) → Within 1 z → Within coefficient_limit z
unit_wider = within_wider 1 coefficient_limit (omega arith)

setting_wider : (z : ℤ) → Within setting_limit z → Within right_limit z
setting_wider = within_wider setting_limit right_limit (omega arith)

line_ok : (n m j : ℕ) (i : Input) → n ≤ most_states → InputOk i → (s o r : ℤ) → Within 1 s → Within coefficient_limit o → Within right_limit r → RowLimits (n + m) (row_from (take n i.gains) m j (line s o r))
line_ok n m j i le ok s o r = row_limits (take n i.gains) n m j (line s o r) (gains_long n i le ok) (gains_within n i ok)

-- the row u ≤ z, and the row −u ≤ −z
upper_ok : (n m j : ℕ) (i : Input) → n ≤ most_states → InputOk i → (z : ℤ) → Within setting_limit z → RowLimits (n + m) (row_from (take n i.gains) m j (line (pos 0) (pos 1) z))
upper_ok n m j i le ok z w = line_ok n m j i le ok (pos 0) (pos 1) z zero_unit (unit_wider _ plus_unit) (setting_wider z w)

lower_ok : (n m j : ℕ) (i : Input) → n ≤ most_states → InputOk i → (z : ℤ) → Within setting_limit z → RowLimits (n + m) (row_from (take n i.gains) m j (line (pos 0) (negsuc 0) (neg_ℤ z)))
lower_ok n m j i le ok z w = line_ok n m j i le ok (pos 0) (negsuc 0) (neg_ℤ z) zero_unit (unit_wider _ minus_unit) (setting_wider (neg_ℤ z) (negated_within setting_limit z w))

lines_limits : (n m j : ℕ) (i : Input) (d : Digit) → n ≤ most_states → InputOk i → AllByRecursion (RowLimits (n + m)) (map (row_from (take n i.gains) m j) (lines i d))
lines_limits n m j i Low le ok = (
  upper_ok n m j i le ok i.low ok.low_small,
  (
    lower_ok n m j i le ok i.low ok.low_small,
    (
      line_ok n m j i le ok (pos 1) (pos 0) (low_edge i -ℤ i.offset) plus_unit (unit_wider _ zero_unit) (rights i ok).low,
      tt,
    ),
  ),
)
lines_limits n m j i Middle le ok =
    let q : Within coefficient_limit i.divisor = (omega (arith, ints, ok.divisor_low), omega (arith, ints, ok.divisor_high)) in (
      line_ok n m j i le ok (negsuc 0) i.divisor i.offset minus_unit q (within_wider offset_limit right_limit (omega arith) i.offset ok.offset_small),
      (
        line_ok n m j i le ok (pos 1) (neg_ℤ i.divisor) (i.divisor -ℤ pos 1 -ℤ i.offset) plus_unit (negated_within coefficient_limit i.divisor q) (rights i ok).middle,
        (
          upper_ok n m j i le ok i.high ok.high_small,
          (
            lower_ok n m j i le ok i.low ok.low_small,
            tt,
          ),
        ),
      ),
    )
lines_limits n m j i High le ok = (
  upper_ok n m j i le ok i.high ok.high_small,
  (
    lower_ok n m j i le ok i.high ok.high_small,
    (
      line_ok n m j i le ok (negsuc 0) (pos 0) (i.offset -ℤ high_edge i) minus_unit (unit_wider _ zero_unit) (rights i ok).high,
      tt,
    ),
  ),
)

-- the signs of lines
pub lines_signed : (i : Input) (d : Digit) → AllByRecursion (λ l. Within 1 l.sign) (lines i d)
lines_signed i Low = (zero_unit, (zero_unit, (plus_unit, tt)))
lines_signed i Middle = (minus_unit, (plus_unit, (zero_unit, (zero_unit, tt))))
lines_signed i High = (zero_unit, (zero_unit, (minus_unit, tt)))

lines_few : (i : Input) (d : Digit) → length (lines i d) ≤ 4
lines_few i Low = omega arith
lines_few i Middle = omega arith
lines_few i High = omega arith

region_limits : (n m : ℕ) (is : List Input) → SaturatedOk n m is → (r : ℕ) → RegionLimits (n + m) (region_rows n is r)
region_limits n m is ok r =
    at_one_two (λ k vs. AllByRecursion InputOk vs → RegionLimits (n + k) (region_rows n vs r))
    (λ a w.
    let la = lines a (numbered (r % radix)) in
    let fa = row_from (take n a.gains) 1 0 in
    record {
      few = omega (arith, length-append (map fa la) [], length-map la fa, lines_few a (numbered (r % radix)));
      each = All-append (RowLimits (n + 1)) (map fa la) [] (lines_limits n 1 0 a (numbered (r % radix)) ok.n_high w.0) tt;
    })
    (λ a b w.
    let la = lines a (numbered (r % radix)) in
    let lb = lines b (numbered (r / radix % radix)) in
    let fa = row_from (take n a.gains) 2 0 in
    let fb = row_from (take n b.gains) 2 1 in
    record {
      few = omega (arith, length-append (map fa la) (map fb lb ++ []), length-append (map fb lb) [], length-map la fa, length-map lb fb, lines_few a (numbered (r % radix)), lines_few b (numbered (r / radix % radix)));
      each =
          All-append (RowLimits (n + 2)) (map fa la) (map fb lb ++ []) (lines_limits n 2 0 a (numbered (r % radix)) ok.n_high w.0)
          (All-append (RowLimits (n + 2)) (map fb lb) [] (lines_limits n 2 1 b (numbered (r / radix % radix)) ok.n_high w.1.0) tt);
    })
    m is ok.long ok.m_low ok.m_high ok.each

few_regions : (n m : ℕ) (is : List Input) → SaturatedOk n m is → (1 ≤ radix ^ length is) × (radix ^ length is ≤ most_regions)
few_regions n m is ok = at_one_two (λ k vs. (1 ≤ radix ^ length vs) × (radix ^ length vs ≤ most_regions)) (λ a. (omega arith, omega arith)) (λ a b. (omega arith, omega arith)) m is ok.long ok.m_low ok.m_high

part_within : (i : Input) (v : ℤ) → InputOk i → Within command_limit (part i v)
part_within i v ok =
    let f = quotient v i.divisor in
    let o = ok.ordered in
    let l = ok.low_small in
    let h = ok.high_small in
    within_wider setting_limit command_limit (omega arith) (int_max i.low (int_min i.high f)) (omega (arith, ints, clamps), omega (arith, ints, clamps))

pub saturated_limits : (n m : ℕ) (is : List Input) → SaturatedOk n m is → Limits (saturated_meaning n m is)
saturated_limits n m is ok =
    let e = partition_long n is in
    let p = few_regions n m is ok in
    record {
      states_low = ok.n_low;
      states_high = ok.n_high;
      inputs_low = ok.m_low;
      inputs_high = ok.m_high;
      regions_low = subst (λ k. 1 ≤ k) (sym e) p.0;
      regions_high = subst (λ k. k ≤ most_regions) (sym e) p.1;
      each = All-map (RegionLimits (n + m)) (region_rows n is) (range_with_len 0 (radix ^ length is)) (all_of (λ r. RegionLimits (n + m) (region_rows n is r)) (region_limits n m is ok) (range_with_len 0 (radix ^ length is)));
      command_long = λ x s. length-map is (λ i. part i (value n i x)) ∙ ok.long;
      command_small = λ x s. All-map (Within command_limit) (λ i. part i (value n i x)) is (All-weaker InputOk (λ i. Within command_limit (part i (value n i x))) (λ i w. part_within i (value n i x) w) is ok.each);
    }
