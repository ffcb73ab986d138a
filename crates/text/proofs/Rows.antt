-- A row of numbers, field by field.
use Rattle.std.proofs.Common.{◌≡◌, ℕ, ◌+◌, ◌-◌, ◌<◌, ◌≤◌, List, [], ◌∷◌, ◌++◌, length, get_or, take, drop, set, replicate, ℤ, pos, IsErrAnd, Some, None, Ok, Err, Option, Result, ok_or, option_map, sym, refl, ap, ◌∙◌, append_assoc, arith}
use Rattle.std.proofs.lemmas.List.{at_drop_more, at_drop_all, take_more_set, drop-set-lt, drop-drop, drop-replicate, length-take-le, append-nil, take-append-drop}
use Rattle.std.proofs.lemmas.Result.{err_from_is_err_and}
use Rattle.text.specs.Lines.{numbers_of, next_number, after_field, end_of, bind, place, padded_to, padded, padded_line, cut_at, row_of, numbers_by, numbers_line, row_width}
use Rattle.text.specs.Bytes.{line_feed}
use Rattle.text.specs.declared.number.Limit.{Limit}
use Rattle.text.specs.declared.faults.TextFault.{TextFault}

-- the exit of a `?` that hands the fault on as it is
pub err_is : {X E : Type 0} (r : Result X E) (e : E) → IsErrAnd r (λ y. y ≡ e) → r ≡ Err e
err_is r e b = let p = err_from_is_err_and r b in p.1 ∙ ap Err p.2

-- an option as it is seen, known to be there or not
pub seen_some : {X Y : Type 0} (f : X → Y) (o : Option X) (x : X) (s : Option Y) → o ≡ Some x → option_map f o ≡ s → Some (f x) ≡ s
seen_some f o x s is seen = sym (ap (option_map f) is) ∙ seen

pub seen_none : {X Y : Type 0} (f : X → Y) (o : Option X) (s : Option Y) → o ≡ None → option_map f o ≡ s → None ≡ s
seen_none f o s is seen = sym (ap (option_map f) is) ∙ seen

-- the fault that an absent option is told as
pub absent_told : {X E : Type 0} (o : Option X) (e f : E) → Err f ≡ ok_or o e → o ≡ None → f ≡ e
absent_told {X = X} {E = E} o e f told is = let z : ◌≡◌ {A = Result X E} (Err f) (Err e) = told ∙ ap (λ p. ok_or p e) is in cc

-- numbers behind those that are read already
abbrev pub onto : List ℤ → Result (List ℤ) TextFault → Result (List ℤ) TextFault
onto acc r = bind r (λ zs. Ok (acc ++ zs))

pub onto_none : (r : Result (List ℤ) TextFault) → onto [] r ≡ r
onto_none (Ok zs) = refl
onto_none (Err e) = refl

onto_more : (acc : List ℤ) (z : ℤ) (r : Result (List ℤ) TextFault) → onto acc (bind r (λ zs. Ok (z ∷ zs))) ≡ onto (acc ++ z ∷ []) r
onto_more acc z (Ok zs) = ap Ok (sym (append_assoc acc (z ∷ []) zs))
onto_more acc z (Err e) = refl

-- one field more
opens : (line f i : ℕ) (limits : List Limit) (d : Limit) (left : Option (List ℕ)) (o : Result ℤ TextFault)
    → i < length limits → o ≡ next_number (place line f) (get_or limits i d) left
    → numbers_of line f (drop i limits) left ≡ bind o (λ z. bind (numbers_of line (f + 1) (drop (i + 1) limits) (after_field left)) (λ zs. Ok (z ∷ zs)))
opens line f i limits d left o h q =
    at_drop_more (λ ls. numbers_of line f ls left) limits i d h
    ∙ ap (λ y. bind y (λ z. bind (numbers_of line (f + 1) (drop (i + 1) limits) (after_field left)) (λ zs. Ok (z ∷ zs)))) (sym q)

pub row_more : (line f i : ℕ) (row : List ℤ) (limits : List Limit) (d : Limit) (left left' : Option (List ℕ)) (z : ℤ) (r : Result (List ℤ) TextFault)
    → i < length limits → i < length row → Ok z ≡ next_number (place line f) (get_or limits i d) left → left' ≡ after_field left
    → onto (take i row) (numbers_of line f (drop i limits) left) ≡ r
    → onto (take (i + 1) (set row i z)) (numbers_of line (f + 1) (drop (i + 1) limits) left') ≡ r
row_more line f i row limits d left left' z r h k q u inv =
    ap (λ t. onto t (numbers_of line (f + 1) (drop (i + 1) limits) left')) (take_more_set row i z k)
    ∙ ap (λ t. onto (take i row ++ z ∷ []) (numbers_of line (f + 1) (drop (i + 1) limits) t)) u
    ∙ sym (onto_more (take i row) z (numbers_of line (f + 1) (drop (i + 1) limits) (after_field left)))
    ∙ ap (onto (take i row)) (sym (opens line f i limits d left (Ok z) h q)) ∙ inv

pub row_stops : (line f i : ℕ) (acc : List ℤ) (limits : List Limit) (d : Limit) (left : Option (List ℕ)) (e : TextFault) (r : Result (List ℤ) TextFault)
    → i < length limits → Err e ≡ next_number (place line f) (get_or limits i d) left
    → onto acc (numbers_of line f (drop i limits) left) ≡ r → r ≡ Err e
row_stops line f i acc limits d left e r h q inv = sym inv ∙ ap (onto acc) (opens line f i limits d left (Err e) h q)

pub row_ends : (line f i : ℕ) (acc : List ℤ) (limits : List Limit) (left : Option (List ℕ)) (r : Result (List ℤ) TextFault) (o : Result (Unit {0}) TextFault)
    → length limits ≤ i → o ≡ end_of (place line f) left → onto acc (numbers_of line f (drop i limits) left) ≡ r → r ≡ bind o (λ _. Ok (acc ++ []))
row_ends line f i acc limits left r o h q inv =
    sym inv ∙ ap (onto acc) (at_drop_all (λ ls. numbers_of line f ls left) limits i h ∙ ap (λ y. bind y (λ _. Ok [])) (sym q)) ∙ over acc o
  where
    over : (acc : List ℤ) (o : Result (Unit {0}) TextFault) → onto acc (bind o (λ _. Ok [])) ≡ bind o (λ _. Ok (acc ++ []))
    over acc (Ok t) = refl
    over acc (Err e) = refl

-- what a list of w places has behind its first i, one place more
pub rest_more : {X : Type 0} (w i : ℕ) (xs : List X) (x d : X) → drop i xs ≡ replicate (w - i) d → drop (i + 1) (set xs i x) ≡ replicate (w - (i + 1)) d
rest_more w i xs x d e =
    drop-set-lt (i + 1) xs i x (omega arith) ∙ sym (drop-drop 1 i xs) ∙ ap (drop 1) e ∙ drop-replicate 1 (w - i) d
    ∙ ap (λ n. replicate n d) (omega arith)

-- the numbers so far, and zeros behind them, up to so many places
pub row_full_to : (w i : ℕ) (row : List ℤ) → i ≤ length row → drop i row ≡ replicate (w - i) (pos 0) → row ≡ padded_to w (take i row ++ [])
row_full_to w i row le e =
    let l : length (take i row) ≡ i = length-take-le i row le in
    sym (take-append-drop i row) ∙ ap (λ t. take i row ++ t) (e ∙ ap (λ n. replicate (w - n) (pos 0)) (sym l)) ∙ ap (padded_to w) (sym (append-nil (take i row)))

padded_err : (r : Result (List ℤ) TextFault) (e : TextFault) (rest : List ℕ) → Err e ≡ bind r (λ zs. Ok (padded zs)) → Err e ≡ padded_line (bind r (λ zs. Ok (zs, rest)))
padded_err (Ok zs) e rest h = grind arith
padded_err (Err d) e rest h = let k : e ≡ d = cc in ap Err k

padded_ok : (r : Result (List ℤ) TextFault) (row : List ℤ) (rest : List ℕ) → Ok row ≡ bind r (λ zs. Ok (padded zs)) → Ok (row, rest) ≡ padded_line (bind r (λ zs. Ok (zs, rest)))
padded_ok (Ok zs) row rest h = let k : row ≡ padded zs = cc in ap (λ t. Ok (t, rest)) k
padded_ok (Err d) row rest h = grind arith

-- a row of the first line of a text
pub line_err : (line : ℕ) (limits : List Limit) (text bytes rest : List ℕ) (left : Option (List ℕ)) (e : TextFault)
    → Some (bytes, rest) ≡ cut_at line_feed text → left ≡ Some bytes → Err e ≡ row_of line 0 limits left → Err e ≡ padded_line (numbers_line line limits text)
line_err line limits text bytes rest left e k l h =
    padded_err (numbers_of line 1 limits (Some bytes)) e rest (h ∙ ap (row_of line 0 limits) l) ∙ ap (λ o. padded_line (numbers_by line limits o)) k

pub line_ok : (line : ℕ) (limits : List Limit) (text bytes rest : List ℕ) (left : Option (List ℕ)) (row : List ℤ)
    → Some (bytes, rest) ≡ cut_at line_feed text → left ≡ Some bytes → Ok row ≡ row_of line 0 limits left → Ok (row, rest) ≡ padded_line (numbers_line line limits text)
line_ok line limits text bytes rest left row k l h =
    padded_ok (numbers_of line 1 limits (Some bytes)) row rest (h ∙ ap (row_of line 0 limits) l) ∙ ap (λ o. padded_line (numbers_by line limits o)) k

-- what a padded line came from
pub padded_line_err : {E : Type 0} (r : Result (List ℤ × List ℕ) E) (e : E) → Err e ≡ padded_line r → r ≡ Err e
padded_line_err (Ok p) e h = grind arith
padded_line_err (Err d) e h = let k : d ≡ e = cc in ap Err k

pub padded_line_ok : {E : Type 0} (r : Result (List ℤ × List ℕ) E) (row : List ℤ) (rest : List ℕ) → Ok (row, rest) ≡ padded_line r → (zs : List ℤ) × (r ≡ Ok (zs, rest)) × (row ≡ padded zs)
padded_line_ok (Ok p) row rest h =
    let k : ◌≡◌ {A = List ℤ × List ℕ} (row, rest) (padded p.0, p.1) = cc in
    (p.0, ap (λ t. Ok (p.0, t)) (sym (ap (λ t. t.1) k)), ap (λ t. t.0) k)
padded_line_ok (Err d) row rest h = grind arith

-- the numbers so far, and zeros behind them
pub row_full : (i : ℕ) (row : List ℤ) → i ≤ length row → drop i row ≡ replicate (row_width - i) (pos 0) → row ≡ padded (take i row ++ [])
row_full i row le e = row_full_to row_width i row le e
