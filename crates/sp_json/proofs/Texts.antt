-- What the parts of a line come to.
use Rattle.std.proofs.Common.{◌≡◌, ◌<◌, ◌+◌, ℕ, List, [], ◌∷◌, ◌++◌, length, take, get_or, sym, ap, ◌∙◌}
use Rattle.std.specs.Prelude.{encode_utf8, encode_utf8_all}
use Rattle.std.proofs.lemmas.Str.{encodes-append}
use Rattle.std.proofs.lemmas.List.{append-nil, take_more}
use Rattle.serde_json.specs.Data.{Data, array, item, no_items}
use Rattle.sp_events.specs.Tree.{TreeData}
use Rattle.sp_json.specs.Values.{tree_json}

-- the array of an entry
abbrev pub pair_json : TreeData × TreeData → Data
pair_json p = array (item (tree_json p.0) (item (tree_json p.1) no_items))

-- a byte's character was put
pub bytes_step : (bs : List ℕ) (i b : ℕ) (old new : List ℕ) → i < length bs → b ≡ get_or bs i 0 → old ≡ encode_utf8_all (take i bs) → new ≡ old ++ encode_utf8 b
    → new ≡ encode_utf8_all (take (i + 1) bs)
bytes_step bs i b old new lt is before pushed =
    pushed
    ∙ ap (λ o. o ++ encode_utf8 b) before
    ∙ sym (encodes-append (take i bs) (b ∷ []) ∙ ap (λ c. encode_utf8_all (take i bs) ++ c) (append-nil (encode_utf8 b)))
    ∙ ap (λ x. encode_utf8_all (take i bs ++ x ∷ [])) is
    ∙ ap encode_utf8_all (sym (take_more bs i 0 lt))
