-- Lines of numbers, one after another, each judged as a whole.
use Rattle.std.proofs.Common.{◌≡◌, ℕ, zero, suc, ◌+◌, ◌-◌, ◌<◌, ◌≤◌, List, [], ◌∷◌, ◌++◌, map, length, take, drop, set, replicate, ℤ, IsErrAnd, Ok, Err, Result, sym, refl, ap, ◌∙◌, append_assoc, arith}
use Rattle.std.specs.List.{AllByRecursion}
use Rattle.std.proofs.lemmas.List.{append-nil, length-take-le, take-append-drop, take_more_set}
use Rattle.std.proofs.lemmas.Result.{err_from_is_err_and}
use Rattle.text.specs.Blocks.{told_as, Judgement, line_of, rows_of, rows_before, RowKept, filled, zero_row, Tells}
use Rattle.text.specs.Render.{fields_text, line_before}
use Rattle.text.specs.Lines.{bind, numbers_line, padded, padded_line}
use Rattle.text.specs.declared.faults.TextFault.{TextFault}
use Rattle.text.specs.declared.number.Limit.{Limit}
use Rattle.text.proofs.Forming.{bind_ok, ok_same, row_to, row_from}
use Rattle.text.proofs.Rows.{padded_line_ok, padded_line_err}

pub told_ok : {X E : Type 0} (told : TextFault → E) (r : Result X TextFault) (x : X) → told_as told r ≡ Ok x → r ≡ Ok x
told_ok told (Ok y) x e = let k : y ≡ x = cc in ap Ok k
told_ok told (Err d) x e = grind arith

-- the exit of a `?` that converts the fault
pub told_is : {X E : Type 0} (gives : TextFault → E → Type 0) (told : TextFault → E) (r : Result X E) (f : TextFault) → Tells gives told → IsErrAnd r (gives f) → r ≡ Err (told f)
told_is gives told r f t h = let p = err_from_is_err_and r h in p.1 ∙ ap Err (t f p.0 p.2)

-- rows as they are held, behind those that are held already
abbrev pub held_behind : {E : Type 0} → ℕ → List (List ℤ) → Result (List (List ℤ) × List ℕ) E → Result (List (List ℤ) × List ℕ) E
held_behind w front (Ok p) = Ok (filled w zero_row (front ++ map padded p.0), p.1)
held_behind w front (Err e) = Err e

module _ {E : Type 0} (w : ℕ) where
  behind_more : (front : List (List ℤ)) (zs : List ℤ) (r : Result (List (List ℤ) × List ℕ) E)
      → held_behind w front (bind r (λ q. Ok (zs ∷ q.0, q.1))) ≡ held_behind w (front ++ padded zs ∷ []) r
  behind_more front zs (Ok p) = ap (λ t. Ok (filled w zero_row t, p.1)) (sym (append_assoc front (padded zs ∷ []) (map padded p.0)))
  behind_more front zs (Err e) = refl

all_held : (w i : ℕ) (rows : List (List ℤ)) → i ≤ length rows → drop i rows ≡ replicate (w - i) zero_row
    → rows ≡ filled w zero_row (take i rows ++ [])
all_held w i rows le e =
    let l : length (take i rows) ≡ i = length-take-le i rows le in
    sym (take-append-drop i rows) ∙ ap (λ t. take i rows ++ t) (e ∙ ap (λ n. replicate (w - n) zero_row) (sym l))
    ∙ ap (filled w zero_row) (sym (append-nil (take i rows)))

module _ {E : Type 0} (told : TextFault → E) (judged : Judgement E) (limits : List Limit) where
  -- One line.

  abbrev after_numbers : ℕ → List ℤ × List ℕ → Result (List ℤ × List ℕ) E
  after_numbers line p = bind (judged line p.0) (λ _. Ok p)

  pub numbers_refused : (line : ℕ) (text : List ℕ) (e : TextFault) → Err e ≡ padded_line (numbers_line line limits text)
      → Err (told e) ≡ padded_line (line_of told judged limits line text)
  numbers_refused line text e h = ap (λ r. padded_line (bind (told_as told r) (after_numbers line))) (sym (padded_line_err (numbers_line line limits text) e h))

  -- a row and the judgement of it
  pub row_by : (line : ℕ) (text : List ℕ) (row : List ℤ) (rest : List ℕ) (o : Result (Unit {0}) E) → Ok (row, rest) ≡ padded_line (numbers_line line limits text)
      → ((zs : List ℤ) → row ≡ padded zs → o ≡ judged line zs) → bind o (λ _. Ok (row, rest)) ≡ padded_line (line_of told judged limits line text)
  row_by line text row rest o h j =
      let p = padded_line_ok (numbers_line line limits text) row rest h in
      ap (λ t. bind o (λ _. Ok (t, rest))) p.2 ∙ by_judge p.0 o ∙ ap (λ t. padded_line (bind t (λ _. Ok (p.0, rest)))) (j p.0 p.2)
      ∙ ap (λ r. padded_line (bind (told_as told r) (after_numbers line))) (sym p.1)
    where
      by_judge : (zs : List ℤ) (o : Result (Unit {0}) E) → bind o (λ _. Ok (padded zs, rest)) ≡ padded_line (bind o (λ _. Ok (zs, rest)))
      by_judge zs (Ok u) = refl
      by_judge zs (Err e) = refl

  -- One after another.

  opens : (k j line : ℕ) (text : List ℕ) → k ≡ suc j
      → rows_of told judged limits k line text
      ≡ bind (line_of told judged limits line text) (λ p. bind (rows_of told judged limits j (line + 1) p.1) (λ q. Ok (p.0 ∷ q.0, q.1)))
  opens k j line text e = ap (λ t. rows_of told judged limits t line text) e

  abbrev after_line : ℕ → ℕ → List ℤ × List ℕ → Result (List (List ℤ) × List ℕ) E
  after_line j line p = bind (rows_of told judged limits j (line + 1) p.1) (λ q. Ok (p.0 ∷ q.0, q.1))

  -- one line more
  pub more : (w m i line : ℕ) (text after : List ℕ) (row : List ℤ) (rows : List (List ℤ)) (r : Result (List (List ℤ) × List ℕ) E)
      → i < m → i < length rows → Ok (row, after) ≡ padded_line (line_of told judged limits (line + i) text)
      → held_behind w (take i rows) (rows_of told judged limits (m - i) (line + i) text) ≡ r
      → held_behind w (take (i + 1) (set rows i row)) (rows_of told judged limits (m - (i + 1)) (line + (i + 1)) after) ≡ r
  more w m i line text after row rows r lt il h inv =
      let p = padded_line_ok (line_of told judged limits (line + i) text) row after h in
      let j = m - (i + 1) in
      let e : m - i ≡ suc (m - (i + 1)) = omega arith in
      let l : line + (i + 1) ≡ line + i + 1 = omega arith in
      ap (λ t. held_behind w t (rows_of told judged limits j (line + (i + 1)) after)) (take_more_set rows i row il ∙ ap (λ t. take i rows ++ t ∷ []) p.2)
      ∙ ap (λ t. held_behind w (take i rows ++ padded p.0 ∷ []) (rows_of told judged limits j t after)) l
      ∙ sym (behind_more w (take i rows) p.0 (rows_of told judged limits j (line + i + 1) after))
      ∙ ap (held_behind w (take i rows)) (sym (opens (m - i) j (line + i) text e ∙ ap (λ y. bind y (after_line j (line + i))) p.1))
      ∙ inv

  -- a line that is refused
  pub stops : (w m i line : ℕ) (text : List ℕ) (front : List (List ℤ)) (e : E) (r : Result (List (List ℤ) × List ℕ) E)
      → i < m → Err e ≡ padded_line (line_of told judged limits (line + i) text) → held_behind w front (rows_of told judged limits (m - i) (line + i) text) ≡ r → Err e ≡ r
  stops w m i line text front e r lt h inv =
      let j = m - (i + 1) in
      let k : m - i ≡ suc (m - (i + 1)) = omega arith in
      ap (held_behind w front)
      (sym (opens (m - i) j (line + i) text k ∙ ap (λ y. bind y (after_line j (line + i))) (padded_line_err (line_of told judged limits (line + i) text) e h)))
      ∙ inv

  -- no line more
  pub ends : (w m i line : ℕ) (text : List ℕ) (rows : List (List ℤ)) (r : Result (List (List ℤ) × List ℕ) E)
      → m ≤ i → i ≤ length rows → drop i rows ≡ replicate (w - i) zero_row
      → held_behind w (take i rows) (rows_of told judged limits (m - i) (line + i) text) ≡ r → Ok (rows, text) ≡ r
  ends w m i line text rows r h le z inv =
      let e : m - i ≡ 0 = omega arith in
      ap (λ t. Ok (t, text)) (all_held w i rows le z) ∙ ap (λ k. held_behind w (take i rows) (rows_of told judged limits k (line + i) text)) (sym e) ∙ inv

  -- as many rows as lines
  pub rows_length : (k line : ℕ) (text : List ℕ) (p : List (List ℤ) × List ℕ) → rows_of told judged limits k line text ≡ Ok p → length p.0 ≡ k
  rows_length zero line text p e = ap (λ t. length t.0) (sym (ok_same ([], text) p e))
  rows_length (suc k) line text p e =
      let a = bind_ok (line_of told judged limits line text) (after_line k line) p e in
      let b = bind_ok (rows_of told judged limits k (line + 1) a.0.1) (λ r. Ok (a.0.0 ∷ r.0, r.1)) p a.2 in
      ap (λ t. length t.0) (sym (ok_same (a.0.0 ∷ b.0.0, b.0.1) p b.2)) ∙ ap suc (rows_length k (line + 1) a.0.1 b.0 b.1)

-- What is read is exactly what is rendered.

-- a judgement accepts just the good rows
pub record Accepts {E : Type 0} (judged : Judgement E) (Good : List ℤ → Type 0) : Type 0 where
  pub to : (line : ℕ) (row : List ℤ) (u : Unit {0}) → judged line row ≡ Ok u → Good row
  pub from : (line : ℕ) (row : List ℤ) → Good row → judged line row ≡ Ok tt

module _ {E : Type 0} {judged : Judgement E} {Good : List ℤ → Type 0} (told : TextFault → E) (good : Accepts judged Good) (limits : List Limit) (some : 0 < length limits) where
  line_to : (line : ℕ) (text : List ℕ) (row : List ℤ) (rest : List ℕ) → line_of told judged limits line text ≡ Ok (row, rest)
      → (text ≡ line_before (fields_text row) rest) × RowKept limits Good row
  line_to line text row rest e =
      let a = bind_ok (told_as told (numbers_line line limits text)) (λ p. bind (judged line p.0) (λ _. Ok p)) (row, rest) e in
      let b = bind_ok (judged line a.0.0) (λ _. Ok a.0) (row, rest) a.2 in
      let q = ok_same a.0 (row, rest) b.2 in
      let l = told_ok told (numbers_line line limits text) a.0 a.1 in
      let t = row_to line limits text row rest some (l ∙ ap Ok q) in
      (t.0, (t.1, good.to line row b.0 (ap (λ z. judged line z.0) (sym q) ∙ b.1)))

  line_from : (line : ℕ) (row : List ℤ) (rest : List ℕ) → RowKept limits Good row → line_of told judged limits line (line_before (fields_text row) rest) ≡ Ok (row, rest)
  line_from line row rest k =
      ap (λ r. bind (told_as told r) (λ p. bind (judged line p.0) (λ _. Ok p))) (row_from line limits row rest some k.0)
      ∙ ap (λ r. bind r (λ _. Ok (row, rest))) (good.from line row k.1)

  pub rows_to : (k line : ℕ) (text : List ℕ) (rows : List (List ℤ)) (rest : List ℕ) → rows_of told judged limits k line text ≡ Ok (rows, rest)
      → (text ≡ rows_before rows rest) × AllByRecursion (RowKept limits Good) rows
  rows_to zero line text rows rest e =
      let q = ok_same ([], text) (rows, rest) e in
      let r : [] ≡ rows = ap (λ t. t.0) q in
      let s : text ≡ rest = ap (λ t. t.1) q in
      rw (← r) (s, tt)
  rows_to (suc k) line text rows rest e =
      let a = bind_ok (line_of told judged limits line text) (λ p. bind (rows_of told judged limits k (line + 1) p.1) (λ q. Ok (p.0 ∷ q.0, q.1))) (rows, rest) e in
      let b = bind_ok (rows_of told judged limits k (line + 1) a.0.1) (λ q. Ok (a.0.0 ∷ q.0, q.1)) (rows, rest) a.2 in
      let q = ok_same (a.0.0 ∷ b.0.0, b.0.1) (rows, rest) b.2 in
      let l = line_to line text a.0.0 a.0.1 a.1 in
      let i = rows_to k (line + 1) a.0.1 b.0.0 b.0.1 b.1 in
      let r : a.0.0 ∷ b.0.0 ≡ rows = ap (λ t. t.0) q in
      let s : b.0.1 ≡ rest = ap (λ t. t.1) q in
      rw (← r) (l.0 ∙ ap (line_before (fields_text a.0.0)) (i.0 ∙ ap (rows_before b.0.0) s), (l.1, i.1))

  pub rows_from : (line : ℕ) (rows : List (List ℤ)) (rest : List ℕ) → AllByRecursion (RowKept limits Good) rows
      → rows_of told judged limits (length rows) line (rows_before rows rest) ≡ Ok (rows, rest)
  rows_from line [] rest k = refl
  rows_from line (row ∷ rows) rest k =
      ap (λ r. bind r (λ p. bind (rows_of told judged limits (length rows) (line + 1) p.1) (λ q. Ok (p.0 ∷ q.0, q.1)))) (line_from line row (rows_before rows rest) k.0)
      ∙ ap (λ r. bind r (λ q. Ok (row ∷ q.0, q.1))) (rows_from (line + 1) rows rest k.1)
