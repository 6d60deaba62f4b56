-- The test of a table against its certificate, which computes.
use Rattle.std.specs.Prelude.{ℕ, zero, suc, List, [], ◌∷◌, length, ◌==◌, ◌||◌, ◌&&◌, not, Bool, true, bit_or, bit_and, nat_lt}
use Rattle.sp_parser.specs.declared.symbol.Symbol.{Symbol}
use Rattle.sp_parser.specs.declared.symbol.Symbol.TheVariants.{Terminal, Nonterminal, Action}
use Rattle.sp_parser.specs.Grammar.{Table, Production, productions_of, production_of, right, SECOND, CLOSE}
use Rattle.sp_parser.specs.Certificate.{Certificate, first_of, follow_of, nullable_of, weight_of, best_of, height_of, firsts, nullables, followed, steps_of, within, lower}

abbrev pub known : Certificate → List Symbol → Bool
known f [] = true
known f (Terminal e ∷ ss) = (nat_lt e SECOND || (e == CLOSE)) && known f ss
known f (Action m ∷ ss) = known f ss
known f (Nonterminal n ∷ ss) = nat_lt n (length f.height) && known f ss

abbrev pub production_test : Certificate → ℕ → ℕ → Production → Bool
production_test f n seen r =
    (within (firsts f 0 r.symbols) (first_of f n) && (not (nullables f r.symbols) || nullable_of f n))
    && (followed f (follow_of f n) r.symbols && nat_lt (steps_of f 0 r.symbols) (weight_of f n))
    && (within (firsts f (follow_of f n) r.symbols) (bit_or r.avoid r.select) && (bit_and r.select r.avoid == 0))
    && ((bit_and r.select seen == 0) && known f r.symbols)

abbrev pub productions_test : Certificate → ℕ → ℕ → List Production → Bool
productions_test f n seen [] = true
productions_test f n seen (r ∷ rs) = production_test f n seen r && productions_test f n (bit_or seen r.select) rs

abbrev pub nonterminal_test : Table → Certificate → ℕ → Bool
nonterminal_test g f n = productions_test f n 0 (productions_of g n)
    && (nat_lt (best_of f n) (length (productions_of g n)) && ((production_of g n (best_of f n)).avoid == 0))
    && lower f (height_of f n) (right g n (best_of f n))

abbrev pub all_below : (ℕ → Bool) → ℕ → Bool
all_below p zero = true
all_below p (suc n) = p n && all_below p n

abbrev pub table_test : Table → Certificate → Bool
table_test g f = (length f.height == length g.productions) && all_below (nonterminal_test g f) (length g.productions)
