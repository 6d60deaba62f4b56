-- The table that the flat lists of the code stand for.
use Rattle.std.specs.Prelude.{List, [], ◌∷◌, length, map, Bool, true, ◌&&◌, nat_le, slice_range}
use Rattle.sp_parser.specs.declared.symbol.Symbol.{Symbol}
use Rattle.sp_parser.specs.declared.table.Row.{Row}
use Rattle.sp_parser.specs.declared.table.Span.{Span}
use Rattle.sp_parser.specs.Grammar.{Production, Table}

abbrev pub production_from : List Symbol → Row → Production
production_from symbols r = record { symbols = slice_range symbols r.from r.to; select = r.select; avoid = r.avoid }

abbrev pub productions_from : List Symbol → List Row → List Production
productions_from symbols xs = map (production_from symbols) xs

abbrev pub productions_in : List Row → List Symbol → Span → List Production
productions_in rows symbols p = productions_from symbols (slice_range rows p.from p.to)

abbrev pub table_from : List Span → List Row → List Symbol → Table
table_from spans rows symbols = record { productions = map (productions_in rows symbols) spans }

-- each right side stands among the symbols
abbrev pub rows_fit : List Symbol → List Row → Bool
rows_fit symbols [] = true
rows_fit symbols (r ∷ rows) = (nat_le r.from r.to && nat_le r.to (length symbols)) && rows_fit symbols rows

abbrev pub spans_fit : List Row → List Span → Bool
spans_fit rows [] = true
spans_fit rows (p ∷ spans) = (nat_le p.from p.to && nat_le p.to (length rows)) && spans_fit rows spans

abbrev pub table_fits : List Span → List Row → List Symbol → Bool
table_fits spans rows symbols = spans_fit rows spans && rows_fit symbols rows
