-- A law text is read exactly when it is rendered.
use Rattle.std.proofs.Common.{◌≡◌, ℕ, zero, suc, ◌+◌, ◌<◌, ◌≤◌, Bool, true, false, cond, List, [], ◌∷◌, ◌++◌, length, ℤ, pos, nat_abs, Some, None, Ok, Err, Option, Result, sym, refl, ap, ◌∙◌, subst, arith}
use Rattle.std.specs.Str.{bytes_eq}
use Rattle.std.proofs.ByRecursion.{All-append, All-weaker}
use Rattle.std.proofs.lemmas.Slice.Eq.{bytes_eq-Decides}
use Rattle.std.proofs.lemmas.Int.{ints}
use Rattle.std.proofs.lemmas.Bool.{cond-false}
use Rattle.text.specs.Bytes.{space, line_feed}
use Rattle.text.specs.Forms.{Fit}
use Rattle.text.specs.Lines.{bind, size_of, text_limit, names_line, numbers_of, cut_at, first_field, next_field, after_field, place}
use Rattle.text.specs.Render.{fields_text, line_before}
use Rattle.text.proofs.Collecting.{Accepts, told_ok, rows_length, rows_to, rows_from}
use Rattle.text.proofs.Padding.{size_to, size_from, natural, count_low, count_high, from_one}
use Rattle.text.proofs.Forming.{Above, bind_ok, ok_same, cut_is, cut_front, fields_above, above_from_test, nothing_left, numbers_to, numbers_from, names_to, names_from}
use Rattle.laws.specs.Forms.{LawForm, LawKept, Ordered, rows_before, head_text, law_before}
use Rattle.laws.specs.Laws.{LawText, Head, law_names, word_of, row_names, kind_of, kind_at, as_law, size_at, head_by, head_cut, head_line, misordered, ordered, rows_of, body_of, law_of}
use Rattle.laws.specs.Limits.{row_limits, sizes_limits, states_limit, inputs_limit}
use Rattle.laws.specs.declared.faults.LawFault.{LawFault}
use Rattle.laws.specs.declared.faults.LawFault.TheVariants.{Text, Order}
use Rattle.laws.specs.declared.table.LawKind.{LawKind}
use Rattle.laws.specs.declared.table.LawKind.TheVariants.{Saturated, Fixed}

-- The second line.

kind_to : (bs : List ℕ) (kind : LawKind) → kind_of bs ≡ Some kind → bs ≡ word_of kind
kind_to bs kind e = by_first (bytes_eq bs (word_of Saturated)) refl e
  where
    by_second : (t : Bool) → bytes_eq bs (word_of Fixed) ≡ t → ◌≡◌ {A = Option LawKind} (cond t (Some Fixed) None) (Some kind) → bs ≡ word_of kind
    by_second true t f = let k : Fixed ≡ kind = cc in (bytes_eq-Decides bs (word_of Fixed)).0 t ∙ ap word_of k
    by_second false t f = grind arith

    by_first : (t : Bool) → bytes_eq bs (word_of Saturated) ≡ t → cond t (Some Saturated) (cond (bytes_eq bs (word_of Fixed)) (Some Fixed) None) ≡ Some kind → bs ≡ word_of kind
    by_first true t f = let k : Saturated ≡ kind = cc in (bytes_eq-Decides bs (word_of Saturated)).0 t ∙ ap word_of k
    by_first false t f = by_second (bytes_eq bs (word_of Fixed)) refl f

kind_from : (kind : LawKind) → kind_of (word_of kind) ≡ Some kind
kind_from Saturated = refl
kind_from Fixed = refl

-- the text of a second line
abbrev headed : Head → List ℕ
headed h = word_of h.kind ++ space ∷ fields_text (pos h.states ∷ pos h.inputs ∷ [])

pub record HeadKept (h : Head) : Type 0 where
  pub states_low : 1 ≤ h.states
  pub states_high : h.states ≤ 4
  pub inputs_low : 1 ≤ h.inputs
  pub inputs_high : h.inputs ≤ 2

sizes_text : (zs : List ℤ) → Fit sizes_limits zs → fields_text zs ≡ fields_text (pos (size_at zs 0) ∷ pos (size_at zs 1) ∷ [])
sizes_text [] h = absurd h
sizes_text (a ∷ []) h = absurd h.2
sizes_text (a ∷ b ∷ []) h = ap (λ t. fields_text (t ∷ b ∷ [])) (natural a (from_one a h.0)) ∙ ap (λ t. fields_text (pos (nat_abs a) ∷ t ∷ [])) (natural b (from_one b h.2.0))
sizes_text (a ∷ b ∷ c ∷ zs) h = absurd h.2.2

sizes_kept : (kind : LawKind) (zs : List ℤ) → Fit sizes_limits zs → HeadKept (record { kind = kind; states = size_at zs 0; inputs = size_at zs 1 })
sizes_kept kind [] h = absurd h
sizes_kept kind (a ∷ []) h = absurd h.2
sizes_kept kind (a ∷ b ∷ []) h =
    record {
      states_low = count_low a h.0;
      states_high = count_high a 4 (from_one a h.0) h.1;
      inputs_low = count_low b h.2.0;
      inputs_high = count_high b 2 (from_one b h.2.0) h.2.1;
    }
sizes_kept kind (a ∷ b ∷ c ∷ zs) h = absurd h.2.2

-- the word and the sizes, by where the first space is
sizes_to : (kind : LawKind) (bytes : List ℕ) (zs : List ℤ) (o : Option (List ℕ × List ℕ)) → ((p : List ℕ × List ℕ) → o ≡ Some p → bytes ≡ p.0 ++ space ∷ p.1)
    → kind_of (first_field bytes o).0 ≡ Some kind → numbers_of 2 2 sizes_limits (first_field bytes o).1 ≡ Ok zs
    → (bytes ≡ word_of kind ++ space ∷ fields_text zs) × Fit sizes_limits zs
sizes_to kind bytes zs None cut k e = absurd (nothing_left 2 2 states_limit (inputs_limit ∷ []) zs e)
sizes_to kind bytes zs (Some p) cut k e =
    let n = numbers_to 2 2 states_limit (inputs_limit ∷ []) p.1 zs e in
    (cut p refl ∙ ap (λ t. t ++ space ∷ p.1) (kind_to p.0 kind k) ∙ ap (λ t. word_of kind ++ space ∷ t) n.0, n.1)

head_to_by : (text rest : List ℕ) (h : Head) (o : Option (List ℕ × List ℕ)) → ((p : List ℕ × List ℕ) → o ≡ Some p → text ≡ p.0 ++ line_feed ∷ p.1)
    → head_cut o ≡ Ok (h, rest) → (text ≡ line_before (headed h) rest) × HeadKept h
head_to_by text rest h None cut e = grind arith
head_to_by text rest h (Some p) cut e = by_kind (kind_at (next_field (Some p.0))) refl e
  where
    by_kind : (k : Option LawKind) → kind_at (next_field (Some p.0)) ≡ k → head_by k (after_field (Some p.0)) p.1 ≡ Ok (h, rest)
        → (text ≡ line_before (headed h) rest) × HeadKept h
    by_kind None k f = grind arith
    by_kind (Some kind) k f =
        let b = bind_ok (as_law (numbers_of 2 2 sizes_limits (after_field (Some p.0)))) (λ zs. Ok (record { kind = kind; states = size_at zs 0; inputs = size_at zs 1 }, p.1)) (h, rest) f in
        let zs = b.0 in
        let n = told_ok Text (numbers_of 2 2 sizes_limits (after_field (Some p.0))) b.0 b.1 in
        let s = sizes_to kind p.0 b.0 (cut_at space p.0) (cut_is space p.0) k n in
        let g : Head = record { kind = kind; states = size_at b.0 0; inputs = size_at b.0 1 } in
        let q = ok_same (g, p.1) (h, rest) b.2 in
        let hd : g ≡ h = ap (λ t. t.0) q in
        let rs : p.1 ≡ rest = ap (λ t. t.1) q in
        let whole : text ≡ line_before (headed g) p.1 =
        cut p refl ∙ ap (λ t. t ++ line_feed ∷ p.1) (s.0 ∙ ap (λ t. word_of kind ++ space ∷ t) (sizes_text b.0 s.1)) in
        (whole ∙ ap (λ t. line_before (headed t) p.1) hd ∙ ap (line_before (headed h)) rs, subst HeadKept hd (sizes_kept kind b.0 s.1))

pub head_to : (text rest : List ℕ) (h : Head) → head_line text ≡ Ok (h, rest) → (text ≡ line_before (headed h) rest) × HeadKept h
head_to text rest h e = head_to_by text rest h (cut_at line_feed text) (cut_is line_feed text) e

word_above : (kind : LawKind) → Above space (word_of kind)
word_above Saturated = above_from_test space (word_of Saturated) refl
word_above Fixed = above_from_test space (word_of Fixed) refl

headed_above : (h : Head) → Above line_feed (headed h)
headed_above h =
    let sizes = pos h.states ∷ pos h.inputs ∷ [] in
    All-append (λ b. line_feed < b) (word_of h.kind) (space ∷ fields_text sizes)
    (All-weaker (λ b. space < b) (λ b. line_feed < b) (λ b lt. omega arith) (word_of h.kind) (word_above h.kind)) (omega arith, fields_above line_feed sizes (omega arith))

sizes_fit : (h : Head) → HeadKept h → Fit sizes_limits (pos h.states ∷ pos h.inputs ∷ [])
sizes_fit h k =
    let a = k.states_low in let b = k.states_high in let c = k.inputs_low in let d = k.inputs_high in
    (omega (arith, ints), omega (arith, ints), (omega (arith, ints), omega (arith, ints), tt))

head_from : (h : Head) (rest : List ℕ) → HeadKept h → head_line (line_before (headed h) rest) ≡ Ok (h, rest)
head_from h rest k =
    let sizes = pos h.states ∷ pos h.inputs ∷ [] in
    ap head_cut (cut_front line_feed (headed h) rest (headed_above h))
    ∙ ap (λ o. head_by (kind_of (first_field (headed h) o).0) (first_field (headed h) o).1 rest) (cut_front space (word_of h.kind) (fields_text sizes) (word_above h.kind))
    ∙ ap (λ o. head_by o (Some (fields_text sizes)) rest) (kind_from h.kind)
    ∙ ap (λ r. bind (as_law r) (λ zs. Ok (record { kind = h.kind; states = size_at zs 0; inputs = size_at zs 1 }, rest))) (numbers_from 2 2 states_limit (inputs_limit ∷ []) sizes (sizes_fit h k))

-- The lines of the inputs.

limits_some : (kind : LawKind) (n : ℕ) → 0 < length (row_limits kind n)
limits_some Saturated zero = omega arith
limits_some Saturated (suc n) = omega arith
limits_some Fixed n = omega arith

ordered_to : (kind : LawKind) (n line : ℕ) (row : List ℤ) (u : Unit {0}) → ordered kind n line row ≡ Ok u → misordered kind n row ≡ false
ordered_to kind n line row u e = by_test (misordered kind n row) refl e
  where
    by_test : (t : Bool) → misordered kind n row ≡ t → ◌≡◌ {A = Result (Unit {0}) LawFault} (cond t (Err (Order (place line (n + 4)))) (Ok tt)) (Ok u) → misordered kind n row ≡ false
    by_test true t f = grind arith
    by_test false t f = t

order_to : (kind : LawKind) (n : ℕ) (row : List ℤ) → misordered kind n row ≡ false → Ordered kind n row
order_to Saturated n row e = grind (arith, ints)
order_to Fixed n row e = tt

order_from : (kind : LawKind) (n : ℕ) (row : List ℤ) → Ordered kind n row → misordered kind n row ≡ false
order_from Saturated n row h = grind (arith, ints)
order_from Fixed n row h = refl

accepts : (kind : LawKind) (n : ℕ) → Accepts (ordered kind n) (Ordered kind n)
accepts kind n = record {
  to = λ line row u e. order_to kind n row (ordered_to kind n line row u e);
  from = λ line row h. cond-false _ _ _ (order_from kind n row h);
}

-- The whole.

names_plain : (kind : LawKind) (line : ℕ) (rest : List ℕ) → names_line line (row_names kind) (line_before (row_names kind) rest) ≡ Ok rest
names_plain Saturated line rest = names_from line (row_names Saturated) rest refl
names_plain Fixed line rest = names_from line (row_names Fixed) rest refl

body_to : (h : Head) (text : List ℕ) (law : LawText) (rest : List ℕ) → HeadKept h → body_of h text ≡ Ok (law, rest)
    → (line_before (headed h) text ≡ line_before (head_text law) (line_before (row_names law.kind) (rows_before law.rows rest))) × LawKept law
body_to h text law rest k e =
    let a = bind_ok (as_law (names_line 3 (row_names h.kind) text)) (λ r. bind (rows_of h.kind h.states h.inputs 4 r) (λ p. Ok (record { kind = h.kind; states = h.states; rows = p.0 }, p.1))) (law, rest) e in
    let n = names_to 3 (row_names h.kind) text a.0 (told_ok Text _ a.0 a.1) in
    let b = bind_ok (rows_of h.kind h.states h.inputs 4 a.0) (λ p. Ok (record { kind = h.kind; states = h.states; rows = p.0 }, p.1)) (law, rest) a.2 in
    let r = rows_to Text (accepts h.kind h.states) (row_limits h.kind h.states) (limits_some h.kind h.states) h.inputs 4 a.0 b.0.0 b.0.1 b.1 in
    let l : length b.0.0 ≡ h.inputs = rows_length Text (ordered h.kind h.states) (row_limits h.kind h.states) h.inputs 4 a.0 b.0 b.1 in
    let made : LawText = record { kind = h.kind; states = h.states; rows = b.0.0 } in
    let q = ok_same (made, b.0.1) (law, rest) b.2 in
    let w : made ≡ law = ap (λ t. t.0) q in
    let s : b.0.1 ≡ rest = ap (λ t. t.1) q in
    let whole : line_before (headed h) text ≡ line_before (head_text made) (line_before (row_names h.kind) (rows_before b.0.0 b.0.1)) =
    ap (λ m. line_before (word_of h.kind ++ space ∷ fields_text (pos h.states ∷ pos m ∷ [])) text) (sym l)
    ∙ ap (line_before (head_text made)) (n ∙ ap (line_before (row_names h.kind)) r.0) in (
      whole ∙ ap (λ t. line_before (head_text t) (line_before (row_names t.kind) (rows_before t.rows b.0.1))) w
          ∙ ap (λ t. line_before (head_text law) (line_before (row_names law.kind) (rows_before law.rows t))) s,
      subst LawKept w (record {
        states_low = k.states_low;
        states_high = k.states_high;
        inputs_low = omega (arith, k.inputs_low);
        inputs_high = omega (arith, k.inputs_high);
        each = r.1;
      }),
    )

body_from : (law : LawText) (rest : List ℕ) → LawKept law
    → body_of (record { kind = law.kind; states = law.states; inputs = length law.rows }) (line_before (row_names law.kind) (rows_before law.rows rest)) ≡ Ok (law, rest)
body_from law rest k =
    ap (λ r. bind (as_law r) (λ t. bind (rows_of law.kind law.states (length law.rows) 4 t) (λ p. Ok (record { kind = law.kind; states = law.states; rows = p.0 }, p.1))))
    (names_plain law.kind 3 (rows_before law.rows rest))
    ∙ ap (λ r. bind r (λ p. Ok (record { kind = law.kind; states = law.states; rows = p.0 }, p.1))) (rows_from Text (accepts law.kind law.states) (row_limits law.kind law.states) (limits_some law.kind law.states) 4 law.rows rest k.each)

pub law_to : (text : List ℕ) (law : LawText) (rest : List ℕ) → law_of text ≡ Ok (law, rest) → (text ≡ law_before law rest) × LawKept law × (length text ≤ text_limit)
law_to text law rest e =
    let a = bind_ok (as_law (size_of text)) (λ _. bind (as_law (names_line 1 law_names text)) (λ r. bind (head_line r) (λ h. body_of h.0 h.1))) (law, rest) e in
    let b = bind_ok (as_law (names_line 1 law_names text)) (λ r. bind (head_line r) (λ h. body_of h.0 h.1)) (law, rest) a.2 in
    let n = names_to 1 law_names text b.0 (told_ok Text _ b.0 b.1) in
    let d = bind_ok (head_line b.0) (λ h. body_of h.0 h.1) (law, rest) b.2 in
    let h = head_to b.0 d.0.1 d.0.0 d.1 in
    let y = body_to d.0.0 d.0.1 law rest h.1 d.2 in
    (n ∙ ap (line_before law_names) (h.0 ∙ y.0), y.1, size_to text a.0 (told_ok Text _ a.0 a.1))

law_from : (law : LawText) (rest : List ℕ) → LawKept law → length (law_before law rest) ≤ text_limit → law_of (law_before law rest) ≡ Ok (law, rest)
law_from law rest k small =
    let h : Head = record { kind = law.kind; states = law.states; inputs = length law.rows } in
    let hk : HeadKept h = record { states_low = k.states_low; states_high = k.states_high; inputs_low = k.inputs_low; inputs_high = k.inputs_high } in
    let body = line_before (row_names law.kind) (rows_before law.rows rest) in
    let text = law_before law rest in
    let some : 1 ≤ length (law_before law rest) = omega arith in
    ap (λ r. bind (as_law r) (λ _. bind (as_law (names_line 1 law_names text)) (λ t. bind (head_line t) (λ h. body_of h.0 h.1)))) (size_from text some small)
    ∙ ap (λ r. bind (as_law r) (λ t. bind (head_line t) (λ h. body_of h.0 h.1))) (names_from 1 law_names (line_before (head_text law) body) refl)
    ∙ ap (λ r. bind r (λ h. body_of h.0 h.1)) (head_from h body hk)
    ∙ body_from law rest k

pub law_form : (text : List ℕ) → LawForm text
unfolding LawForm
law_form text law rest = (
  law_to text law rest,
  λ p. ap law_of p.0 ∙ law_from law rest p.1 (subst (λ t. length t ≤ text_limit) p.0 p.2),
)
