-- What reading finds is what the grammar says, both ways.
use Rattle.std.proofs.Common.{◌≡◌, ◌≢◌, ◌≤◌, ◌<◌, ◌+◌, ◌-◌, ℕ, Bool, true, false, List, [], ◌∷◌, ◌++◌, length, take, drop, replicate, Option, None, Some, decimal, refl, ap, sym, subst, ◌∙◌, append_assoc, arith, inl, inr}
use Rattle.std.specs.Prelude.{codes, not, ◌==◌, ◌⊎◌, nat_lt}
use Rattle.std.proofs.lemmas.Bool.{cases_Bool, cond-true, cond-false, eqb-true, eqb-false, ltb-true, ltb-false, lt-ltb, le-ltb, and_parts, and_from, ne_eqb}
use Rattle.std.proofs.lemmas.List.{length-append, take_at, drop_at, take-append-drop, take_rest, length-take-le, length-replicate, append-nil}
use Rattle.sp_base.specs.declared.kinds.BKind.{BKind}
use Rattle.sp_base.specs.declared.kinds.BKind.TheVariants.{BadRecord, CutShort}
use Rattle.sp_batch.specs.declared.record.Record.{Record}
use Rattle.sp_batch.specs.declared.record.Record.TheVariants.{BeginFlow, Data, Gap, EndFlow, BeginConn, EndConn}
use Rattle.sp_batch.specs.declared.heads.Head.{Head}
use Rattle.sp_batch.specs.declared.heads.Head.TheVariants.{Whole, DataLine}
use Rattle.sp_batch.specs.Grammar.{is_name, Most, kind_word, data_line as data_words, line_of, written, IsSound, front, Ends, IsRecord, IsCutShort, IsNoLine, IsUnended, IsBad, IsHeader}
use Rattle.sp_batch.specs.Reading.{past, behind, line_end, head, found, bad, following, with_end, ended, with_head, read, header}
use Rattle.sp_batch.specs.Answers.{IsWrong}
use Rattle.sp_batch.proofs.Cuts.{lacks, cut_before, cut_alone, cut_whole, cut_all, behind_whole, behind_front, name_lacks}
use Rattle.sp_batch.proofs.Numbers.{decimal_lacks}
use Rattle.sp_batch.proofs.Lines.{head_of, data_head, line_head, line_sound, if_some_parts, if_some_is}

-- the end of a line
pub end_sound : (tail rest : List ℕ) → line_end tail ≡ Some rest → Ends tail rest
end_sound [] rest e = inr (refl, (let f : Some [] ≡ Some rest = e in cc))
end_sound (c ∷ cs) rest e =
    elim (cases_Bool (c == 10)) [
      | inl same ↦
          let tail : cs ≡ rest = (let f : Some cs ≡ Some rest = sym (cond-true (c == 10) (Some cs) None same) ∙ e in cc) in
          inl (ap (λ x. x ∷ cs) (eqb-true c 10 same) ∙ ap (λ t. 10 ∷ t) tail)
      | inr other ↦ absurd (let f : None ≡ Some rest = sym (cond-false (c == 10) (Some cs) None other) ∙ e in cc)
    ]

pub end_of : (tail rest : List ℕ) → Ends tail rest → line_end tail ≡ Some rest
end_of tail rest (inl is) = ap line_end is
end_of tail rest (inr is) = ap line_end is.0 ∙ ap Some (sym is.1)

pub no_end : (tail : List ℕ) → line_end tail ≡ None → (c : ℕ) × (rest : List ℕ) × (tail ≡ c ∷ rest) × (c ≢ 10)
no_end [] e = absurd (cc)
no_end (c ∷ cs) e =
    elim (cases_Bool (c == 10)) [
      | inl same ↦ absurd (let f : Some cs ≡ None = sym (cond-true (c == 10) (Some cs) None same) ∙ e in cc)
      | inr other ↦ (c, cs, refl, eqb-false c 10 other)
    ]

-- a part of a text at its end, by its length
pub suffix : (s before rest : List ℕ) → s ≡ before ++ rest → (length rest ≤ length s) × (drop (length s - length rest) s ≡ rest)
suffix s before rest e =
    let size = length-append before rest ∙ refl in
    let whole : length s ≡ length before + length rest = ap length e ∙ length-append before rest in
    let cut : length s - length rest ≡ length before = omega (arith, whole) in
    (omega (arith, whole), ap (λ n. drop n s) cut ∙ ap (λ t. drop (length before) t) e ∙ drop_at before rest (length before) refl)

-- the header
pub header_sound : (text rest : List ℕ) → header text ≡ Some rest → IsHeader text rest
header_sound text rest e =
    let p = if_some_parts (behind (codes "!spicy-batch v2") text) line_end rest e in
    record { tail = p.0; begins = behind_whole (codes "!spicy-batch v2") text p.0 p.1; ends = end_sound p.0 rest p.2 }

pub header_of : (text rest : List ℕ) → IsHeader text rest → header text ≡ Some rest
header_of text rest h =
    if_some_is (behind (codes "!spicy-batch v2") text) h.tail line_end (Some rest)
    (ap (λ t. behind (codes "!spicy-batch v2") t) h.begins ∙ behind_front (codes "!spicy-batch v2") h.tail) (end_of h.tail rest h.ends)

ends_front : (tail rest : List ℕ) → Ends tail rest → (before : List ℕ) × (tail ≡ before ++ rest)
ends_front tail rest (inl is) = (10 ∷ [], is)
ends_front tail rest (inr is) = ([], is.0 ∙ sym is.1)

pub header_rest : (text rest : List ℕ) → IsHeader text rest → (length rest ≤ length text) × (drop (length text - length rest) text ≡ rest)
header_rest text rest h =
    let p = ends_front h.tail rest h.ends in
    suffix text (codes "!spicy-batch v2" ++ p.0) rest
    (h.begins ∙ ap (λ t. codes "!spicy-batch v2" ++ t) p.1)

-- a text is its first line and what follows it
first_line : (text : List ℕ) (p : Option (List ℕ)) → past 10 text ≡ p → (tail : List ℕ) × (text ≡ front 10 text ++ tail) × Ends tail (following p)
first_line text None e = ([], sym (append-nil (front 10 text) ∙ cut_all 10 text e), inr (refl, refl))
first_line text (Some rest) e = (10 ∷ rest, cut_whole 10 text rest e, inl refl)

pub same_record : (r s : Record) (rest other : List ℕ) → found r rest ≡ found s other → (r ≡ s) × (rest ≡ other)
same_record r s rest other e = (cc, cc)

with_end_sound : (text : List ℕ) (s : Record) (left : List ℕ) (r : Record) (rest : List ℕ) (o : Option (List ℕ)) → IsSound s → text ≡ written s ++ left → line_end left ≡ o
    → with_end s o ≡ found r rest → IsRecord text r rest
with_end_sound text s left r rest None sound whole eo e = absurd (cc)
with_end_sound text s left r rest (Some tail) sound whole eo e =
    let same = same_record s r tail rest e in
    let ends = end_sound left tail eo in
    let made : IsRecord text s tail = record { sound = sound; tail = left; begins = whole; ends = ends } in
    subst (λ t. IsRecord text t rest) same.0 (subst (λ t. IsRecord text s t) same.1 made)

with_end_bad : (s : Record) (o : Option (List ℕ)) (k : BKind) → with_end s o ≡ bad k → (k ≡ BadRecord) × (o ≡ None)
with_end_bad s None k e = (cc, refl)
with_end_bad s (Some tail) k e = absurd (cc)

-- data behind their line
data_sound : (text id tail : List ℕ) (size : ℕ) (r : Record) (rest : List ℕ) → is_name id ≡ true → size ≤ Most → text ≡ data_words id size ++ 10 ∷ tail → size ≤ length tail
    → ended id (take size tail) (drop size tail) ≡ found r rest → IsRecord text r rest
data_sound text id tail size r rest named small begins fits e =
    let bytes : List ℕ = take size tail in
    let left : List ℕ = drop size tail in
    let long : length bytes ≡ size = length-take-le size tail fits in
    let whole : text ≡ written (Data id bytes) ++ left =
    begins ∙ ap (λ n. data_words id n ++ 10 ∷ tail) (sym long) ∙ ap (λ t. data_words id (length bytes) ++ 10 ∷ t) (sym (take-append-drop size tail))
    ∙ sym (append_assoc (data_words id (length bytes)) (10 ∷ bytes) (left)) in
    with_end_sound text (Data id bytes) left r rest (line_end left) (named, omega arith) whole refl e

data_unended : (text id tail : List ℕ) (size : ℕ) (k : BKind) → is_name id ≡ true → size ≤ Most → text ≡ data_words id size ++ 10 ∷ tail → size ≤ length tail
    → ended id (take size tail) (drop size tail) ≡ bad k → (k ≡ BadRecord) × IsUnended text
data_unended text id tail size k named small begins fits e =
    let bytes : List ℕ = take size tail in
    let left : List ℕ = drop size tail in
    let long : length bytes ≡ size = length-take-le size tail fits in
    let whole : text ≡ written (Data id bytes) ++ left =
    begins ∙ ap (λ n. data_words id n ++ 10 ∷ tail) (sym long) ∙ ap (λ t. data_words id (length bytes) ++ 10 ∷ t) (sym (take-append-drop size tail))
    ∙ sym (append_assoc (data_words id (length bytes)) (10 ∷ bytes) (left)) in
    let p = with_end_bad (Data id bytes) (line_end left) k e in
    let q = no_end left p.1 in (
      p.0,
      record {
        id = id;
        name = named;
        bytes = bytes;
        small = omega arith;
        byte = q.0;
        other = q.3;
        rest = q.1;
        begins = whole ∙ ap (λ t. written (Data id bytes) ++ t) q.2;
      },
    )

-- by what the first line says and what follows it
found_head : (text : List ℕ) (o : Option Head) (p : Option (List ℕ)) (r : Record) (rest : List ℕ) → head (front 10 text) ≡ o → past 10 text ≡ p
    → with_head o p ≡ found r rest → IsRecord text r rest
found_head text None p r rest eo ep e = absurd (cc)
found_head text (Some (Whole s)) p r rest eo ep e =
    let same = same_record s r (following p) rest e in
    let line = line_sound (front 10 text) (Whole s) eo in
    let f = first_line text p ep in
    let whole : text ≡ written s ++ f.0 = f.1 ∙ ap (λ t. t ++ f.0) (line.1 ∙ sym line.2) in
    let made : IsRecord text s (following p) = record { sound = line.0; tail = f.0; begins = whole; ends = f.2 } in
    subst (λ t. IsRecord text t rest) same.0 (subst (λ t. IsRecord text s t) same.1 made)
found_head text (Some (DataLine id size)) None r rest eo ep e = absurd (cc)
found_head text (Some (DataLine id size)) (Some tail) r rest eo ep e =
    let line = line_sound (front 10 text) (DataLine id size) eo in
    let whole : text ≡ data_words id size ++ 10 ∷ tail = cut_whole 10 text tail ep ∙ ap (λ t. t ++ 10 ∷ tail) line.2 in
    elim (cases_Bool (nat_lt (length tail) size)) [
      | inl short ↦ absurd (let f : bad CutShort ≡ found r rest = sym (cond-true (nat_lt (length tail) size) (bad CutShort) (ended id (take size tail) (drop size tail)) short) ∙ e in cc)
      | inr long ↦
          data_sound text id tail size r rest line.0 line.1 whole (ltb-false (length tail) size long)
          (sym (cond-false (nat_lt (length tail) size) (bad CutShort) (ended id (take size tail) (drop size tail)) long) ∙ e)
    ]

pub read_sound : (text : List ℕ) (r : Record) (rest : List ℕ) → read text ≡ found r rest → IsRecord text r rest
read_sound text r rest e = found_head text (head (front 10 text)) (past 10 text) r rest refl refl e

bad_head : (text : List ℕ) (o : Option Head) (p : Option (List ℕ)) (k : BKind) → text ≢ [] → head (front 10 text) ≡ o → past 10 text ≡ p
    → with_head o p ≡ bad k → IsWrong text k
bad_head text None p k some eo ep e =
    let is : BadRecord ≡ k = (let f : bad BadRecord ≡ bad k = e in cc) in
    let none : IsNoLine text = λ r sound same. (let f : None ≡ Some (head_of r) = sym eo ∙ ap head same ∙ line_head r sound in absurd (cc)) in
    subst (λ j. IsWrong text j) is (some, inl none)
bad_head text (Some (Whole s)) p k some eo ep e = absurd (cc)
bad_head text (Some (DataLine id size)) None k some eo ep e =
    let is : CutShort ≡ k = (let f : bad CutShort ≡ bad k = e in cc) in
    let line = line_sound (front 10 text) (DataLine id size) eo in
    let whole : text ≡ data_words id size ++ [] = sym (cut_all 10 text ep) ∙ line.2 ∙ sym (append-nil (data_words id size)) in
    let cut : IsCutShort text = record { id = id; name = line.0; size = size; small = line.1; tail = []; begins = whole; cut = inl refl } in
    subst (λ j. IsWrong text j) is cut
bad_head text (Some (DataLine id size)) (Some tail) k some eo ep e =
    let line = line_sound (front 10 text) (DataLine id size) eo in
    let whole : text ≡ data_words id size ++ 10 ∷ tail = cut_whole 10 text tail ep ∙ ap (λ t. t ++ 10 ∷ tail) line.2 in
    elim (cases_Bool (nat_lt (length tail) size)) [
      | inl short ↦
          let is : CutShort ≡ k =
          (let f : bad CutShort ≡ bad k = sym (cond-true (nat_lt (length tail) size) (bad CutShort) (ended id (take size tail) (drop size tail)) short) ∙ e in cc) in
          let cut : IsCutShort text =
          record { id = id; name = line.0; size = size; small = line.1; tail = 10 ∷ tail; begins = whole; cut = inr (tail, refl, ltb-true (length tail) size short) } in
          subst (λ j. IsWrong text j) is cut
      | inr long ↦
          let p =
          data_unended text id tail size k line.0 line.1 whole (ltb-false (length tail) size long)
          (sym (cond-false (nat_lt (length tail) size) (bad CutShort) (ended id (take size tail) (drop size tail)) long) ∙ e) in
          let both : IsBad text = (some, inr p.1) in
          subst (λ j. IsWrong text j) (sym p.0) both
    ]

pub read_bad : (text : List ℕ) (k : BKind) → text ≢ [] → read text ≡ bad k → IsWrong text k
read_bad text k some e = bad_head text (head (front 10 text)) (past 10 text) k some refl refl e

-- the line of a record has no LF
lacks_append : (c : ℕ) (a b : List ℕ) → lacks c a ≡ true → lacks c b ≡ true → lacks c (a ++ b) ≡ true
lacks_append c [] b ea eb = eb
lacks_append c (x ∷ xs) b ea eb =
    let parts = and_parts (not (x == c)) (lacks c xs) ea in
    and_from (not (x == c)) (lacks c (xs ++ b)) parts.0 (lacks_append c xs b parts.1 eb)

name_then : (w rest : List ℕ) → is_name w ≡ true → lacks 10 rest ≡ true → lacks 10 (w ++ 32 ∷ rest) ≡ true
name_then w rest named e = lacks_append 10 w (32 ∷ rest) (name_lacks 10 w refl named) e

kind_then : (block : Bool) (rest : List ℕ) → lacks 10 rest ≡ true → lacks 10 (kind_word block ++ 32 ∷ rest) ≡ true
kind_then true rest e = e
kind_then false rest e = e

data_lacks : (id : List ℕ) (size : ℕ) → is_name id ≡ true → size ≤ Most → lacks 10 (data_words id size) ≡ true
data_lacks id size named small = name_then id (decimal size) named (decimal_lacks 10 size refl small)

line_lacks : (r : Record) → IsSound r → lacks 10 (line_of r) ≡ true
line_lacks (BeginFlow id block parser) h = name_then id _ h.0 (kind_then block parser (name_lacks 10 parser refl h.1))
line_lacks (Data id bytes) h = data_lacks id (length bytes) h.0 h.1
line_lacks (Gap id size) h = name_then id (decimal size) h.0 (decimal_lacks 10 size refl h.1)
line_lacks (EndFlow id) h = name_lacks 10 id refl h
line_lacks (BeginConn cid block oid oparser rid rparser) h =
    name_then cid _ h.0 (kind_then block _ (name_then oid _ h.1 (name_then oparser _ h.2 (name_then rid rparser h.3 (name_lacks 10 rparser refl h.4)))))
line_lacks (EndConn cid) h = name_lacks 10 cid refl h

-- a line before what follows it, and a line at the end of the text
read_before : (text line rest : List ℕ) (h : Head) → lacks 10 line ≡ true → head line ≡ Some h → text ≡ line ++ 10 ∷ rest → read text ≡ with_head (Some h) (Some rest)
read_before text line rest h clean is begins =
    let cut = cut_before 10 line rest clean in
    ap read begins ∙ ap (λ f. with_head (head f) (past 10 (line ++ 10 ∷ rest))) cut.0 ∙ ap (λ o. with_head o (past 10 (line ++ 10 ∷ rest))) is ∙ ap (λ p. with_head (Some h) p) cut.1

read_alone : (text line : List ℕ) (h : Head) → lacks 10 line ≡ true → head line ≡ Some h → text ≡ line → read text ≡ with_head (Some h) None
read_alone text line h clean is begins =
    let cut = cut_alone 10 line clean in
    ap read begins ∙ ap (λ f. with_head (head f) (past 10 line)) cut.0 ∙ ap (λ o. with_head o (past 10 line)) is ∙ ap (λ p. with_head (Some h) p) cut.1

data_parts : (text id bytes left : List ℕ) (p : Option (List ℕ)) → read text ≡ with_head (Some (DataLine id (length bytes))) p → p ≡ Some (bytes ++ left)
    → nat_lt (length (bytes ++ left)) (length bytes) ≡ false → read text ≡ with_end (Data id bytes) (line_end left)
data_parts text id bytes left p e is fits =
    e ∙ ap (λ o. with_head (Some (DataLine id (length bytes))) o) is
    ∙ cond-false (nat_lt (length (bytes ++ left)) (length bytes)) (bad CutShort) (ended id (take (length bytes) (bytes ++ left)) (drop (length bytes) (bytes ++ left))) fits
    ∙ ap (λ t. ended id t (drop (length bytes) (bytes ++ left))) (take_at bytes left (length bytes) refl)
    ∙ ap (λ t. ended id bytes t) (drop_at bytes left (length bytes) refl)

-- data before what stands behind them
read_data : (text id bytes left : List ℕ) → is_name id ≡ true → length bytes ≤ Most → text ≡ written (Data id bytes) ++ left → read text ≡ with_end (Data id bytes) (line_end left)
read_data text id bytes left named small begins =
    let line : List ℕ = data_words id (length bytes) in
    let tail : List ℕ = bytes ++ left in
    let whole : text ≡ line ++ 10 ∷ tail = begins ∙ append_assoc (line) (10 ∷ bytes) (left) in
    let e = read_before text line tail (DataLine id (length bytes)) (data_lacks id (length bytes) named small) (data_head id (length bytes) named small) whole in
    let fits : nat_lt (length tail) (length bytes) ≡ false = le-ltb (length tail) (length bytes) (omega (arith, length-append bytes left)) in
    data_parts text id bytes left (Some tail) e refl fits

whole_by : (r : Record) (text rest tail : List ℕ) → IsSound r → written r ≡ line_of r → head_of r ≡ Whole r → text ≡ written r ++ tail → Ends tail rest → read text ≡ found r rest
whole_by r text rest tail sound is said begins (inl ends) =
    read_before text (line_of r) rest (Whole r) (line_lacks r sound) (line_head r sound ∙ ap Some said) (begins ∙ ap (λ t. t ++ tail) is ∙ ap (λ t. line_of r ++ t) ends)
whole_by r text rest tail sound is said begins (inr ends) =
    read_alone text (line_of r) (Whole r) (line_lacks r sound) (line_head r sound ∙ ap Some said)
    (begins ∙ ap (λ t. t ++ tail) is ∙ ap (λ t. line_of r ++ t) ends.0 ∙ append-nil (line_of r))
    ∙ ap (λ t. found r t) (sym ends.1)

record_by : (r : Record) (text rest tail : List ℕ) → IsSound r → text ≡ written r ++ tail → Ends tail rest → read text ≡ found r rest
record_by (BeginFlow id block parser) text rest tail sound begins ends = whole_by (BeginFlow id block parser) text rest tail sound refl refl begins ends
record_by (Data id bytes) text rest tail sound begins ends =
    read_data text id bytes tail sound.0 sound.1 begins ∙ ap (λ o. with_end (Data id bytes) o) (end_of tail rest ends)
record_by (Gap id size) text rest tail sound begins ends = whole_by (Gap id size) text rest tail sound refl refl begins ends
record_by (EndFlow id) text rest tail sound begins ends = whole_by (EndFlow id) text rest tail sound refl refl begins ends
record_by (BeginConn cid block oid oparser rid rparser) text rest tail sound begins ends =
    whole_by (BeginConn cid block oid oparser rid rparser) text rest tail sound refl refl begins ends
record_by (EndConn cid) text rest tail sound begins ends = whole_by (EndConn cid) text rest tail sound refl refl begins ends

pub read_record : (text : List ℕ) (r : Record) (rest : List ℕ) → IsRecord text r rest → read text ≡ found r rest
read_record text r rest h = record_by r text rest h.tail h.sound h.begins h.ends

-- the text ends too early
read_short : (text id tail : List ℕ) (size : ℕ) → is_name id ≡ true → size ≤ Most → text ≡ data_words id size ++ tail
    → (tail ≡ []) ⊎ ((bytes : List ℕ) × (tail ≡ 10 ∷ bytes) × (length bytes < size)) → read text ≡ bad CutShort
read_short text id tail size named small begins (inl none) =
    read_alone text (data_words id size) (DataLine id size) (data_lacks id size named small) (data_head id size named small)
    (begins ∙ ap (λ t. data_words id size ++ t) none ∙ append-nil (data_words id size))
read_short text id tail size named small begins (inr some) =
    read_before text (data_words id size) some.0 (DataLine id size) (data_lacks id size named small) (data_head id size named small) (begins ∙ ap (λ t. data_words id size ++ t) some.1)
    ∙ cond-true (nat_lt (length some.0) size) (bad CutShort) (ended id (take size some.0) (drop size some.0)) (lt-ltb (length some.0) size some.2)

pub read_cut : (text : List ℕ) → IsCutShort text → read text ≡ bad CutShort
read_cut text h = read_short text h.id h.tail h.size h.name h.small h.begins h.cut

no_line : (text : List ℕ) (o : Option Head) → head (front 10 text) ≡ o → IsNoLine text → with_head o (past 10 text) ≡ bad BadRecord
no_line text None e none = refl
no_line text (Some (Whole r)) e none =
    let line = line_sound (front 10 text) (Whole r) e in
    absurd (none r line.0 line.1)
no_line text (Some (DataLine id size)) e none =
    let line = line_sound (front 10 text) (DataLine id size) e in
    let bytes : List ℕ = replicate size 0 in
    let long : length bytes ≡ size = length-replicate size 0 in
    absurd (none (Data id bytes) (line.0, omega arith) (line.2 ∙ ap (λ n. data_words id n) (sym long)))

wrong_by : (text : List ℕ) → IsNoLine text ⊎ IsUnended text → read text ≡ bad BadRecord
wrong_by text (inl none) = no_line text (head (front 10 text)) refl none
wrong_by text (inr u) =
    read_data text u.id u.bytes (u.byte ∷ u.rest) u.name u.small u.begins
    ∙ ap (λ o. with_end (Data u.id u.bytes) o) (cond-false (u.byte == 10) (Some u.rest) None (ne_eqb u.byte 10 u.other))

pub read_wrong : (text : List ℕ) → IsBad text → read text ≡ bad BadRecord
read_wrong text h = wrong_by text h.1

pub some_text : (text : List ℕ) (r : Record) (rest : List ℕ) → IsRecord text r rest → text ≡ [] → ⊥
some_text text r rest h e =
    let f : bad BadRecord ≡ found r rest = ap read (sym e) ∙ read_record text r rest h in
    absurd (cc)

-- the places of what was found
written_some : (r : Record) → 0 < length (written r)
written_some (BeginFlow id block parser) = omega arith
written_some (Data id bytes) = omega arith
written_some (Gap id size) = omega arith
written_some (EndFlow id) = omega arith
written_some (BeginConn cid block oid oparser rid rparser) = omega arith
written_some (EndConn cid) = omega arith

pub place_found : (bytes : List ℕ) (at : ℕ) (r : Record) (rest : List ℕ) → at ≤ length bytes → found r rest ≡ read (take (length bytes - at) (drop at bytes))
    → (length rest ≤ length bytes) × (at < length bytes - length rest) × IsRecord (drop at bytes) r (drop (length bytes - length rest) bytes)
place_found bytes at r rest within e =
    let text : List ℕ = drop at bytes in
    let made : IsRecord text r rest = read_sound text r rest (sym (e ∙ ap read (take_rest bytes at))) in
    let p = ends_front made.tail rest made.ends in
    let before : List ℕ = take at bytes ++ (written r ++ p.0) in
    let parts : text ≡ (written r ++ p.0) ++ rest = made.begins ∙ ap (λ t. written r ++ t) p.1 ∙ sym (append_assoc (written r) (p.0) (rest)) in
    let whole : bytes ≡ before ++ rest =
    sym (take-append-drop at bytes) ∙ ap (λ t. take at bytes ++ t) parts ∙ sym (append_assoc (take at bytes) (written r ++ p.0) (rest)) in
    let s = suffix bytes before rest whole in
    let size : length bytes ≡ length before + length rest = ap length whole ∙ length-append before rest in
    let size_before : length before ≡ length (take at bytes) + length (written r ++ p.0) = length-append (take at bytes) (written r ++ p.0) in
    let size_line : length (written r ++ p.0) ≡ length (written r) + length p.0 = length-append (written r) p.0 in
    let size_at : length (take at bytes) ≡ at = length-take-le at bytes within in
    let some : 0 < length (written r) = written_some r in
    (s.0, omega arith, subst (λ t. IsRecord text r t) (sym s.1) made)

pub place_bad : (bytes : List ℕ) (at : ℕ) (k : BKind) → (length (take (length bytes - at) (drop at bytes)) == 0) ≡ false
    → bad k ≡ read (take (length bytes - at) (drop at bytes)) → IsWrong (drop at bytes) k
place_bad bytes at k some e =
    read_bad (drop at bytes) k
    (λ none. eqb-false (length (take (length bytes - at) (drop at bytes))) 0 some (ap length (take_rest bytes at ∙ none)))
    (sym (e ∙ ap read (take_rest bytes at)))

pub place_header : (text rest : List ℕ) → header text ≡ Some rest → IsHeader text (drop (length text - length rest) text)
place_header text rest e =
    let made = header_sound text rest e in
    subst (λ t. IsHeader text t) (sym (header_rest text rest made).1) made
