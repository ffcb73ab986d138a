-- What a law text stores.
use Rattle.std.proofs.Common.{◌≡◌, ℕ, zero, suc, ◌+◌, ◌-◌, ◌≤◌, cond, List, length, get_or, take, drop, ℤ, pos, Ok, Err, sym, refl, ap, ◌∙◌, arith}
use lib.Signed.{lt_z}
use Rattle.text.specs.Lines.{padded, place, row_width}
use Rattle.text.specs.declared.number.Limit.{Limit}
use Rattle.laws.specs.Laws.{misordered, ordered}
use Rattle.text.proofs.Padding.{padding}
use Rattle.laws.specs.Limits.{row_limits}
use Rattle.laws.specs.declared.faults.LawFault.TheVariants.{Order}
use Rattle.laws.specs.declared.table.LawKind.{LawKind}
use Rattle.laws.specs.declared.table.LawKind.TheVariants.{Saturated, Fixed}

-- the limits of a saturated input are the last of those at four states
pub limits_last : (n : ℕ) → n ≤ 4 → take (8 - (4 - n)) (drop (4 - n) (row_limits Saturated 4)) ≡ row_limits Saturated n
limits_last zero h = refl
limits_last (suc zero) h = refl
limits_last (suc (suc zero)) h = refl
limits_last (suc (suc (suc zero))) h = refl
limits_last (suc (suc (suc (suc zero)))) h = refl
limits_last (suc (suc (suc (suc (suc n))))) h = absurd (omega arith)

pub limits_whole : (kind : LawKind) (n : ℕ) (ls : List Limit) → n ≤ 4 → ls ≡ row_limits kind n → take row_width ls ≡ row_limits kind n
limits_whole Fixed n ls h e = ap (take row_width) e
limits_whole Saturated zero ls h e = ap (take row_width) e
limits_whole Saturated (suc zero) ls h e = ap (take row_width) e
limits_whole Saturated (suc (suc zero)) ls h e = ap (take row_width) e
limits_whole Saturated (suc (suc (suc zero))) ls h e = ap (take row_width) e
limits_whole Saturated (suc (suc (suc (suc zero)))) ls h e = ap (take row_width) e
limits_whole Saturated (suc (suc (suc (suc (suc n))))) ls h e = absurd (omega arith)

misordered_same : (kind : LawKind) (n : ℕ) (zs row : List ℤ) → row ≡ padded zs → misordered kind n zs ≡ misordered kind n row
misordered_same Fixed n zs row e = refl
misordered_same Saturated n zs row e =
    let k = row_width - length zs in
    ap (λ t. lt_z t (get_or zs (n + 2) (pos 0))) (sym (padding zs k (n + 3))) ∙ ap (lt_z (get_or (padded zs) (n + 3) (pos 0))) (sym (padding zs k (n + 2)))
    ∙ ap (misordered Saturated n) (sym e)

-- and so the judgement of a row
pub ordered_padded : (kind : LawKind) (n line : ℕ) (zs row : List ℤ) → row ≡ padded zs → ordered kind n line row ≡ ordered kind n line zs
ordered_padded kind n line zs row e = ap (λ b. cond b (Err (Order (place line (n + 4)))) (Ok tt)) (sym (misordered_same kind n zs row e))
