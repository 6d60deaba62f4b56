-- The row that is found is the production that is chosen.
use Rattle.std.proofs.Common.{◌≡◌, ℕ, zero, suc, ◌+◌, ◌-◌, ◌<◌, ◌≤◌, List, [], ◌∷◌, length, drop, take, true, ◌&&◌, refl, sym, ◌∙◌, ap, subst, arith, get_or, slice_range}
use Rattle.std.specs.Prelude.{◌==◌, nat_le}
use Rattle.std.specs.Int.{bit_at}
use Rattle.std.proofs.lemmas.Bool.{cond-true, eq-eqb, and_parts, and_from, leb-true}
use Rattle.std.proofs.lemmas.List.{drop_more}
use Rattle.sp_parser.specs.declared.symbol.Symbol.{Symbol}
use Rattle.sp_parser.specs.declared.table.Row.{Row}
use Rattle.sp_parser.specs.declared.table.Span.{Span}
use Rattle.sp_parser.specs.Grammar.{no_production, at_production, chosen}
use Rattle.sp_parser.specs.Rows.{production_from, productions_from, rows_fit, spans_fit}

get_production : (ss : List Symbol) (xs : List Row) (i : ℕ) (d : Row) → i < length xs → get_or (productions_from ss xs) i no_production ≡ production_from ss (get_or xs i d)
get_production ss [] i d h = absurd (omega arith)
get_production ss (x ∷ xs) zero d h = refl
get_production ss (x ∷ xs) (suc i) d h = get_production ss xs i d (omega arith)

first_chosen : (ss : List Symbol) (a : Row) (xs : List Row) (k : ℕ) → bit_at a.select k ≡ 1 → chosen (productions_from ss (a ∷ xs)) k ≡ 0
first_chosen ss a xs k h = cond-true (bit_at a.select k == 1) 0 (suc (chosen (productions_from ss xs) k)) (eq-eqb (bit_at a.select k) 1 h)

pub found_at : (ss : List Symbol) (xs : List Row) (i k : ℕ) (d : Row) → i < length xs → chosen (productions_from ss xs) k ≡ i + chosen (productions_from ss (drop i xs)) k → bit_at (get_or xs i d).select k ≡ 1 → (chosen (productions_from ss xs) k < length xs) × (slice_range ss (get_or xs i d).from (get_or xs i d).to ≡ (at_production (productions_from ss xs) (chosen (productions_from ss xs) k)).symbols)
found_at ss xs i k d h e b =
    let z : chosen (productions_from ss (drop i xs)) k ≡ 0 = ap (λ l. chosen (productions_from ss l) k) (drop_more xs i d h) ∙ first_chosen ss (get_or xs i d) (drop (i + 1) xs) k b in
    let q : chosen (productions_from ss xs) k ≡ i = omega (arith, e, z) in
    (subst (λ j. j < length xs) (sym q) h, sym (ap (λ r. r.symbols) (ap (λ j. at_production (productions_from ss xs) j) q ∙ get_production ss xs i d h)))

pub row_fits : (ss : List Symbol) (xs : List Row) (i : ℕ) (d : Row) → rows_fit ss xs ≡ true → i < length xs → ((get_or xs i d).from ≤ (get_or xs i d).to) × ((get_or xs i d).to ≤ length ss)
row_fits ss [] i d t h = absurd (omega arith)
row_fits ss (x ∷ xs) zero d t h = let a = and_parts (nat_le x.from x.to && nat_le x.to (length ss)) (rows_fit ss xs) t in let b = and_parts (nat_le x.from x.to) (nat_le x.to (length ss)) a.0 in (leb-true x.from x.to b.0, leb-true x.to (length ss) b.1)
row_fits ss (x ∷ xs) (suc i) d t h = row_fits ss xs i d (and_parts (nat_le x.from x.to && nat_le x.to (length ss)) (rows_fit ss xs) t).1 (omega arith)

pub span_fits : (rows : List Row) (xs : List Span) (i : ℕ) (d : Span) → spans_fit rows xs ≡ true → i < length xs → ((get_or xs i d).from ≤ (get_or xs i d).to) × ((get_or xs i d).to ≤ length rows)
span_fits rows [] i d t h = absurd (omega arith)
span_fits rows (x ∷ xs) zero d t h = let a = and_parts (nat_le x.from x.to && nat_le x.to (length rows)) (spans_fit rows xs) t in let b = and_parts (nat_le x.from x.to) (nat_le x.to (length rows)) a.0 in (leb-true x.from x.to b.0, leb-true x.to (length rows) b.1)
span_fits rows (x ∷ xs) (suc i) d t h = span_fits rows xs i d (and_parts (nat_le x.from x.to && nat_le x.to (length rows)) (spans_fit rows xs) t).1 (omega arith)

-- rows among rows that fit
drop_fits : (ss : List Symbol) (xs : List Row) (a : ℕ) → rows_fit ss xs ≡ true → rows_fit ss (drop a xs) ≡ true
drop_fits ss [] zero t = t
drop_fits ss [] (suc a) t = t
drop_fits ss (x ∷ xs) zero t = t
drop_fits ss (x ∷ xs) (suc a) t = drop_fits ss xs a (and_parts (nat_le x.from x.to && nat_le x.to (length ss)) (rows_fit ss xs) t).1

take_fits : (ss : List Symbol) (xs : List Row) (a : ℕ) → rows_fit ss xs ≡ true → rows_fit ss (take a xs) ≡ true
take_fits ss [] zero t = refl
take_fits ss [] (suc a) t = refl
take_fits ss (x ∷ xs) zero t = refl
take_fits ss (x ∷ xs) (suc a) t = let b = and_parts (nat_le x.from x.to && nat_le x.to (length ss)) (rows_fit ss xs) t in and_from (nat_le x.from x.to && nat_le x.to (length ss)) (rows_fit ss (take a xs)) b.0 (take_fits ss xs a b.1)

pub range_fits : (ss : List Symbol) (xs : List Row) (a b : ℕ) → rows_fit ss xs ≡ true → rows_fit ss (slice_range xs a b) ≡ true
range_fits ss xs a b t = take_fits ss (drop a xs) (b - a) (drop_fits ss xs a t)
