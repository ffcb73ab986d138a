-- A case text is read exactly when it is rendered.
use Rattle.std.proofs.Common.{◌≡◌, ℕ, ◌+◌, ◌*◌, ◌<◌, ◌≤◌, List, [], ◌∷◌, length, get_or, replicate, ℤ, pos, nat_abs, Ok, sym, refl, ap, ◌∙◌, subst, arith}
use Rattle.std.specs.List.{AllByRecursion}
use Rattle.std.proofs.lemmas.List.{length-append, length-replicate}
use Rattle.std.proofs.lemmas.Int.{ints}
use Rattle.text.specs.Forms.{Fit}
use Rattle.text.specs.Lines.{bind, size_of, text_limit, names_line}
use Rattle.text.specs.Render.{line_before}
use Rattle.text.proofs.Collecting.{told_ok}
use Rattle.text.proofs.Padding.{natural, size_to, size_from}
use Rattle.text.proofs.Forming.{bind_ok, ok_same, names_to, names_from}
use Rattle.case.specs.Fields.{around, sizes_limits, state_limits, push_limits, dynamics_limits, extra_limits}
use Rattle.case.specs.Forms.{RowKept, InOrder, GoodState, AnyRow, SizesKept, CaseKept, CaseForm, section_before, sizes_from, sizes_row, body_before, case_before}
use Rattle.case.specs.Limits.{entry_limit, extra_limit}
use Rattle.case.specs.Texts.{CaseText, CaseSizes, as_case, sizes_names, state_names, push_names, dynamics_names, extra_names, proof_names, unjudged, section_of, sizes_of, sizes_section, state_section, push_section, dynamics_section, extra_section, proofs_line, body_of, case_of}
use Rattle.case.specs.declared.faults.CaseFault.TheVariants.{Text}
use Rattle.case.proofs.Composing.{after_states, after_pushes, after_dynamics, after_extras}
use Rattle.case.proofs.Exits.{bind_at}
use Rattle.case.proofs.Judging.{accepts_order, accepts_state, accepts_any}
use Rattle.case.proofs.Lines.{section_to, section_from}
use Rattle.case.proofs.Measuring.{five, sizes_kept, only, first_section, after_section}

-- The sizes.

sizes_shown : (row : List ℤ) → Fit sizes_limits row → row ≡ sizes_row (sizes_of row)
sizes_shown [] f = absurd f
sizes_shown (n ∷ []) f = absurd f.2
sizes_shown (n ∷ m ∷ []) f = absurd f.2.2
sizes_shown (n ∷ m ∷ p ∷ []) f = absurd f.2.2.2
sizes_shown (n ∷ m ∷ p ∷ e ∷ []) f = absurd f.2.2.2.2
sizes_shown (n ∷ m ∷ p ∷ e ∷ d ∷ []) f =
    let a = f.0 in
    let b = f.2.0 in
    ap (λ t. t ∷ m ∷ p ∷ e ∷ d ∷ []) (natural n (omega (arith, ints)))
    ∙ ap (λ t. pos (nat_abs n) ∷ t ∷ p ∷ e ∷ d ∷ []) (natural m (omega (arith, ints)))
    ∙ ap (λ t. pos (nat_abs n) ∷ pos (nat_abs m) ∷ t ∷ e ∷ d ∷ []) (natural p f.2.2.0)
    ∙ ap (λ t. pos (nat_abs n) ∷ pos (nat_abs m) ∷ pos (nat_abs p) ∷ t ∷ d ∷ []) (natural e f.2.2.2.0)
sizes_shown (n ∷ m ∷ p ∷ e ∷ d ∷ x ∷ row) f = absurd f.2.2.2.2.2

sizes_to : (text : List ℕ) (k : CaseSizes) (rest : List ℕ) → sizes_section text ≡ Ok (k, rest)
    → (text ≡ section_before sizes_names (sizes_row k ∷ []) rest) × SizesKept k × (length text ≤ text_limit)
sizes_to text k rest e =
    let a = bind_ok (as_case (size_of text)) (λ _. bind (first_section text) (after_section text)) (k, rest) e in
    let b = bind_ok (first_section text) (after_section text) (k, rest) a.2 in
    let s = section_to accepts_any sizes_limits (omega arith) sizes_names 1 1 text b.0.0 b.0.1 b.1 in
    let o = only b.0.0 s.1 s.2 in
    let row = get_or b.0.0 0 [] in
    let q = ok_same (sizes_of row, b.0.1) (k, rest) b.2 in
    let w : sizes_of row ≡ k = ap (λ t. t.0) q in
    let r : b.0.1 ≡ rest = ap (λ t. t.1) q in (
      s.0 ∙ ap (λ t. section_before sizes_names t b.0.1) (o.0 ∙ ap (λ t. t ∷ []) (sizes_shown row o.1 ∙ ap sizes_row w))
          ∙ ap (section_before sizes_names (sizes_row k ∷ [])) r,
      subst SizesKept w (sizes_kept row (five row o.1)),
      size_to text a.0 (told_ok Text (size_of text) a.0 a.1),
    )

sizes_fit : (k : CaseSizes) → SizesKept k → Fit sizes_limits (sizes_row k)
sizes_fit k h =
    let a = h.states_low in let b = h.states_high in let c = h.inputs_low in let d = h.inputs_high in
    let e = h.pushes_high in let f = h.extras_high in (
      omega (arith, ints),
      omega (arith, ints),
      (omega (arith, ints), omega (arith, ints), (omega (arith, ints), omega (arith, ints), (omega (arith, ints), omega (arith, ints), (h.divisor_low, h.divisor_high, tt)))),
    )

sizes_read : (k : CaseSizes) (rest : List ℕ) → SizesKept k → length (section_before sizes_names (sizes_row k ∷ []) rest) ≤ text_limit
    → sizes_section (section_before sizes_names (sizes_row k ∷ []) rest) ≡ Ok (k, rest)
sizes_read k rest h small =
    let text = section_before sizes_names (sizes_row k ∷ []) rest in
    let some : 1 ≤ length (section_before sizes_names (sizes_row k ∷ []) rest) = omega arith in
    ap (λ r. bind (as_case r) (λ _. bind (first_section text) (after_section text))) (size_from text some small)
    ∙ bind_at (first_section text) (after_section text) (sizes_row k ∷ [], rest)
    (section_from accepts_any sizes_limits (omega arith) sizes_names 1 (sizes_row k ∷ []) rest refl ((sizes_fit k h, tt), tt))

-- The sections behind them.

dynamics_some : (k : CaseSizes) → 1 ≤ k.states → 0 < length (dynamics_limits (k.states + k.inputs + k.pushes))
dynamics_some k h = omega (arith, length-replicate (k.states + k.inputs + k.pushes) (around entry_limit))

extra_some : (n : ℕ) → 0 < length (extra_limits n)
extra_some n = omega (arith, length-append (replicate n (around entry_limit)) (around extra_limit ∷ []))

module _ (k : CaseSizes) (a b c d : List (List ℤ)) where
  abbrev made : CaseText
  made = record { inputs = k.inputs; divisor = k.divisor; states = a; pushes = b; dynamics = c; extras = d }

  made_text : (text first second third last proofs : List ℕ) → text ≡ section_before state_names a first → first ≡ section_before push_names b second
      → second ≡ section_before dynamics_names c third → third ≡ section_before extra_names d last → last ≡ line_before proof_names proofs → text ≡ body_before made proofs
  made_text text first second third last proofs ea eb ec ed ep =
      ea ∙ ap (section_before state_names a) (eb ∙ ap (section_before push_names b) (ec ∙ ap (section_before dynamics_names c) (ed ∙ ap (section_before extra_names d) ep)))

  module _ (la : length a ≡ k.states) (lb : length b ≡ k.pushes) (lc : length c ≡ k.states) (ld : length d ≡ k.extras) where
    made_sizes : sizes_from made ≡ k
    made_sizes =
        ap (λ x. record { states = x; inputs = k.inputs; pushes = length b; extras = length d; divisor = k.divisor }) la
        ∙ ap (λ x. record { states = k.states; inputs = k.inputs; pushes = x; extras = length d; divisor = k.divisor }) lb
        ∙ ap (λ x. record { states = k.states; inputs = k.inputs; pushes = k.pushes; extras = x; divisor = k.divisor }) ld

    made_kept : SizesKept k → AllByRecursion (RowKept state_limits (GoodState k.divisor)) a → AllByRecursion (RowKept push_limits InOrder) b
        → AllByRecursion (RowKept (dynamics_limits (k.states + k.inputs + k.pushes)) AnyRow) c → AllByRecursion (RowKept (extra_limits k.states) AnyRow) d → CaseKept made
    made_kept h ka kb kc kd =
        let width : k.states + k.inputs + k.pushes ≡ length a + k.inputs + length b = omega (arith, la, lb) in
        record {
          sizes = subst SizesKept (sym made_sizes) h;
          long = lc ∙ sym la;
          each_state = ka;
          each_push = kb;
          each_dynamics = subst (λ x. AllByRecursion (RowKept (dynamics_limits x) AnyRow) c) width kc;
          each_extra = subst (λ x. AllByRecursion (RowKept (extra_limits x) AnyRow) d) (sym la) kd;
        }

body_is : (k : CaseSizes) (a b c d : List (List ℤ)) (text : List ℕ) (t : CaseText) (rest proofs : List ℕ) → ◌≡◌ {A = CaseText × List ℕ} (made k a b c d, rest) (t, proofs)
    → text ≡ body_before (made k a b c d) rest → sizes_from (made k a b c d) ≡ k → CaseKept (made k a b c d)
    → (text ≡ body_before t proofs) × (sizes_from t ≡ k) × CaseKept t
body_is k a b c d text t rest proofs q whole sizes kept =
    let w : made k a b c d ≡ t = ap (λ x. x.0) q in
    (whole ∙ ap (λ x. body_before x.0 x.1) q, ap sizes_from (sym w) ∙ sizes, subst CaseKept w kept)

body_to : (k : CaseSizes) (text : List ℕ) (t : CaseText) (proofs : List ℕ) → SizesKept k → body_of k text ≡ Ok (t, proofs)
    → (text ≡ body_before t proofs) × (sizes_from t ≡ k) × CaseKept t
body_to k text t proofs h e =
    let a = bind_ok (state_section k text) (λ p. after_states k p.0 p.1) (t, proofs) e in
    let b = bind_ok (push_section k a.0.1) (λ p. after_pushes k a.0.0 p.0 p.1) (t, proofs) a.2 in
    let c = bind_ok (dynamics_section k b.0.1) (λ p. after_dynamics k a.0.0 b.0.0 p.0 p.1) (t, proofs) b.2 in
    let d = bind_ok (extra_section k c.0.1) (λ p. after_extras k a.0.0 b.0.0 c.0.0 p.0 p.1) (t, proofs) c.2 in
    let f = bind_ok (as_case (names_line (proofs_line k) proof_names d.0.1)) (λ rest. Ok (made k a.0.0 b.0.0 c.0.0 d.0.0, rest)) (t, proofs) d.2 in
    let sa = section_to (accepts_state k.divisor) state_limits (omega arith) state_names k.states 3 text a.0.0 a.0.1 a.1 in
    let sb = section_to accepts_order push_limits (omega arith) push_names k.pushes (4 + k.states) a.0.1 b.0.0 b.0.1 b.1 in
    let sc = section_to accepts_any (dynamics_limits (k.states + k.inputs + k.pushes)) (dynamics_some k h.states_low) dynamics_names k.states (5 + k.states + k.pushes) b.0.1 c.0.0 c.0.1 c.1 in
    let sd = section_to accepts_any (extra_limits k.states) (extra_some k.states) extra_names k.extras (6 + 2 * k.states + k.pushes) c.0.1 d.0.0 d.0.1 d.1 in
    let n = names_to (proofs_line k) proof_names d.0.1 f.0 (told_ok Text _ f.0 f.1) in
    body_is k a.0.0 b.0.0 c.0.0 d.0.0 text t f.0 proofs (ok_same (made k a.0.0 b.0.0 c.0.0 d.0.0, f.0) (t, proofs) f.2)
    (made_text k a.0.0 b.0.0 c.0.0 d.0.0 text a.0.1 b.0.1 c.0.1 d.0.1 f.0 sa.0 sb.0 sc.0 sd.0 n)
    (made_sizes k a.0.0 b.0.0 c.0.0 d.0.0 sa.2 sb.2 sc.2 sd.2)
    (made_kept k a.0.0 b.0.0 c.0.0 d.0.0 sa.2 sb.2 sc.2 sd.2 h sa.1 sb.1 sc.1 sd.1)

body_steps : (k : CaseSizes) (a b c d : List (List ℤ)) (text first second third last proofs : List ℕ)
    → state_section k text ≡ Ok (a, first) → push_section k first ≡ Ok (b, second) → dynamics_section k second ≡ Ok (c, third) → extra_section k third ≡ Ok (d, last)
    → names_line (proofs_line k) proof_names last ≡ Ok proofs
    → body_of k text ≡ Ok (record { inputs = k.inputs; divisor = k.divisor; states = a; pushes = b; dynamics = c; extras = d }, proofs)
body_steps k a b c d text first second third last proofs ea eb ec ed ep =
    bind_at (state_section k text) (λ p. after_states k p.0 p.1) (a, first) ea
    ∙ bind_at (push_section k first) (λ p. after_pushes k a p.0 p.1) (b, second) eb
    ∙ bind_at (dynamics_section k second) (λ p. after_dynamics k a b p.0 p.1) (c, third) ec
    ∙ bind_at (extra_section k third) (λ p. after_extras k a b c p.0 p.1) (d, last) ed
    ∙ ap (λ r. bind (as_case r) (λ rest. Ok (record { inputs = k.inputs; divisor = k.divisor; states = a; pushes = b; dynamics = c; extras = d }, rest))) ep

body_from : (t : CaseText) (proofs : List ℕ) → CaseKept t → body_of (sizes_from t) (body_before t proofs) ≡ Ok (t, proofs)
body_from t proofs h =
    let k = sizes_from t in
    let w = k.states + k.inputs + k.pushes in
    body_steps k t.states t.pushes t.dynamics t.extras (body_before t proofs) _ _ _ _ proofs
    (section_from (accepts_state t.divisor) state_limits (omega arith) state_names 3 t.states _ refl h.each_state)
    (section_from accepts_order push_limits (omega arith) push_names (4 + k.states) t.pushes _ refl h.each_push)
    (ap (λ x. section_of dynamics_names (dynamics_limits w) unjudged x (5 + k.states + k.pushes)
    (section_before dynamics_names t.dynamics (section_before extra_names t.extras (line_before proof_names proofs)))) (sym h.long)
    ∙ section_from accepts_any (dynamics_limits w) (dynamics_some k h.sizes.states_low) dynamics_names (5 + k.states + k.pushes) t.dynamics _ refl h.each_dynamics)
    (section_from accepts_any (extra_limits k.states) (extra_some k.states) extra_names (6 + 2 * k.states + k.pushes) t.extras _ refl h.each_extra)
    (names_from (proofs_line k) proof_names proofs refl)

-- The whole.

pub record CaseKnown (text : List ℕ) (t : CaseText) (proofs : List ℕ) : Type 0 where
  pub text_is : text ≡ case_before t proofs
  pub kept : CaseKept t
  pub small : length text ≤ text_limit

-- the sizes and the body of a case text
pub parts_to : (text : List ℕ) (k : CaseSizes) (rest : List ℕ) (t : CaseText) (proofs : List ℕ) → sizes_section text ≡ Ok (k, rest) → body_of k rest ≡ Ok (t, proofs)
    → CaseKnown text t proofs × (sizes_from t ≡ k)
parts_to text k rest t proofs e f =
    let s = sizes_to text k rest e in
    let b = body_to k rest t proofs s.1 f in (
      record {
        text_is = s.0 ∙ ap (section_before sizes_names (sizes_row k ∷ [])) b.0 ∙ ap (λ x. section_before sizes_names (sizes_row x ∷ []) (body_before t proofs)) (sym b.1);
        kept = b.2;
        small = s.2;
      },
      b.1,
    )

pub case_to : (text : List ℕ) (t : CaseText) (proofs : List ℕ) → case_of text ≡ Ok (t, proofs) → CaseKnown text t proofs
case_to text t proofs e =
    let a = bind_ok (sizes_section text) (λ p. body_of p.0 p.1) (t, proofs) e in
    (parts_to text a.0.0 a.0.1 t proofs a.1 a.2).0

case_from : (t : CaseText) (proofs : List ℕ) → CaseKept t → length (case_before t proofs) ≤ text_limit → case_of (case_before t proofs) ≡ Ok (t, proofs)
case_from t proofs h small =
    bind_at (sizes_section (case_before t proofs)) (λ p. body_of p.0 p.1) (sizes_from t, body_before t proofs) (sizes_read (sizes_from t) (body_before t proofs) h.sizes small)
    ∙ body_from t proofs h

pub case_form : (text : List ℕ) → CaseForm text
unfolding CaseForm
case_form text t proofs = (
  λ e. let k = case_to text t proofs e in (k.text_is, k.kept, k.small),
  λ p. ap case_of p.0 ∙ case_from t proofs p.1 (subst (λ x. length x ≤ text_limit) p.0 p.2),
)
