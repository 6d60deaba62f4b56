-- Piles by the chunks that stand on them, the words of these, and the same chunks on another pile.
use Rattle.std.proofs.Common.{◌≡◌, List, [], ◌∷◌, ◌++◌, Option, Some, refl, sym, ◌∙◌, ap, subst}
use Rattle.std.proofs.lemmas.List.{append-nil, append_assoc}
use Rattle.sp_lex.specs.declared.kinds.TokenKind.{TokenKind}
use Rattle.sp_ast.specs.Trees.{Tree}
use Rattle.sp_print.specs.Canonical.{Writing, chain, last_kind}
use Rattle.sp_print.specs.Words.{Word, kind_of}
use Rattle.sp_law_round_trip.specs.Told.{Telling}
use Rattle.sp_law_round_trip.proofs.Held.{Pile, started}
use Rattle.sp_law_round_trip.proofs.Goes.{pushed, pushed_append}
use Rattle.sp_law_round_trip.proofs.Chunks.{Chunk, Owns, chunk_words, Split, no_chunk, a_chunk, wrote}
use Rattle.sp_law_round_trip.proofs.Advance.{State, put_on}

pub last_both : (last : Option TokenKind) (xs ys : List Word) → last_kind last (xs ++ ys) ≡ last_kind (last_kind last xs) ys
last_both last [] ys = refl
last_both last (w ∷ xs) ys = last_both (Some (kind_of w)) xs ys

-- three writings, one behind the other
pub chain_both : (x y z : Writing) (last : Option TokenKind) → chain (chain x y) z last ≡ chain x (chain y z) last
chain_both x y z last =
    let first = x last in let here = last_kind last first in
    append_assoc first (y here) (z (last_kind last (first ++ y here))) ∙ ap (λ l. first ++ (y here ++ z l)) (last_both last first (y here))

-- the same words, whatever stands before
abbrev pub Same : Writing → Writing → Type 0
Same x y = (last : Option TokenKind) → x last ≡ y last

pub chain_same : (x y z : Writing) → Same y z → Same (chain x y) (chain x z)
chain_same x y z same last = ap (λ ws. x last ++ ws) (same (last_kind last (x last)))

-- chunks behind others
joined : {cs ds : List Chunk} {ts us : List Tree} (x : Split cs ts) (y : Split ds us) → (both : Split (cs ++ ds) (ts ++ us)) × Same (wrote both) (chain (wrote x) (wrote y))
joined no_chunk y = (y, λ last. refl)
joined {cs = c ∷ cs} {ds = ds} {us = us} (a_chunk {ts = ts} vs owns rest) y =
    let more = joined rest y in
    let this : Split (c ∷ cs ++ ds) (vs ++ (ts ++ us)) = a_chunk vs owns more.0 in
    let words : Same (wrote this) (chain (chain (chunk_words c vs) (wrote rest)) (wrote y)) =
    λ last. chain_same (chunk_words c vs) (wrote more.0) (chain (wrote rest) (wrote y)) more.1 last ∙ sym (chain_both (chunk_words c vs) (wrote rest) (wrote y) last) in
    subst (λ zs. (both : Split (c ∷ cs ++ ds) zs) × Same (wrote both) (chain (chain (chunk_words c vs) (wrote rest)) (wrote y))) (sym (append_assoc vs ts us)) (this, words)

-- one chunk
pub alone : (c : Chunk) (us : List Tree) → Owns c us → (one : Split (c ∷ []) us) × Same (wrote one) (chunk_words c us)
alone c us owns =
    let this : Split (c ∷ []) (us ++ []) = a_chunk us owns no_chunk in
    let words : Same (wrote this) (chunk_words c us) = λ last. append-nil (chunk_words c us last) in
    subst (λ zs. (one : Split (c ∷ []) zs) × Same (wrote one) (chunk_words c us)) (append-nil us) (this, words)

-- The pile s is the pile b with these chunks on it: those of each tree that has begun, and of none.
pub data Piled : State → Pile → Pile → Type 0 where
  bottom : {cs : List Chunk} {b s : Pile} (ts : List Tree) → Split cs ts → s ≡ pushed ts b → Piled (cs ∷ []) b s
  above : {cs : List Chunk} {σ : State} {b s : Pile} (ts : List Tree) (p : Telling) (r : Pile) → Piled σ b r → Split cs ts → s ≡ pushed ts (started p ∷ r) → Piled (cs ∷ σ) b s

-- all words since b
abbrev pub said : {σ : State} {b s : Pile} → Piled σ b s → Writing
said (bottom ts sp e) = wrote sp
said (above ts p r g sp e) = chain (said g) (wrote sp)

-- the same chunks on the pile c, with other tokens where trees begin
abbrev pub Copies : {σ : State} {b s : Pile} → Piled σ b s → Pile → Pile → Type 0
Copies (bottom ts sp e) c z = z ≡ pushed ts c
Copies (above ts p r g sp e) c z = (q : Telling) × (y : Pile) × (z ≡ pushed ts (started q ∷ y)) × Copies g c y

on_top : (ts us : List Tree) (s b : Pile) → s ≡ pushed ts b → pushed us s ≡ pushed (ts ++ us) b
on_top ts us s b e = ap (λ z. pushed us z) e ∙ sym (pushed_append ts us b)

-- more chunks on top
pub grown : {σ : State} {b s : Pile} {ds : List Chunk} {us : List Tree} (sp : Split ds us) (g : Piled σ b s)
    → (more : Piled (put_on ds σ) b (pushed us s)) × Same (said more) (chain (said g) (wrote sp)) × ((c z : Pile) → Copies g c z → Copies more c (pushed us z))
grown {b = b} {s = s} {us = us} sp (bottom ts old e) =
    let both = joined old sp in
    (bottom (ts ++ us) both.0 (on_top ts us s b e), both.1, λ c z copy. on_top ts us z c copy)
grown {s = s} {us = us} sp (above ts p r g old e) =
    let both = joined old sp in (
      above (ts ++ us) p r g both.0 (on_top ts us s (started p ∷ r) e),
      λ last. chain_same (said g) (wrote both.0) (chain (wrote old) (wrote sp)) both.1 last ∙ sym (chain_both (said g) (wrote old) (wrote sp) last),
      λ c z copy. (copy.0, copy.1, on_top ts us z (started copy.0 ∷ copy.1) copy.2, copy.3),
    )
