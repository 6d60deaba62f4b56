-- The line of each record is read as what it says, and what a line says is written so.
use Rattle.std.proofs.Common.{◌≡◌, ◌≤◌, ℕ, Bool, true, false, List, ◌∷◌, ◌++◌, length, Option, None, Some, decimal, refl, ap, sym, subst, ◌∙◌, inl, inr}
use Rattle.std.specs.Prelude.{codes, ◌⊎◌}
use Rattle.sp_batch.specs.declared.record.Record.{Record}
use Rattle.sp_batch.specs.declared.record.Record.TheVariants.{BeginFlow, Data, Gap, EndFlow, BeginConn, EndConn}
use Rattle.sp_batch.specs.declared.heads.Head.{Head}
use Rattle.sp_batch.specs.declared.heads.Head.TheVariants.{Whole, DataLine}
use Rattle.sp_batch.specs.Grammar.{is_name, Most, kind_word, data_line as data_words, line_of, IsSound, front, written}
use Rattle.sp_batch.specs.Reading.{past, behind, if_some, or_else, name, first_name, first_kind, number, sized, begin_flow, begin_conn, data_line, gap, end_flow, end_conn, head}
use Rattle.sp_batch.proofs.Cuts.{cut_before, cut_whole, behind_whole, name_lacks, name_of, name_sound}
use Rattle.sp_batch.proofs.Numbers.{number_decimal, number_sound}

pub if_some_is : {A B : Type 0} (o : Option A) (x : A) (f : A → Option B) (y : Option B) → o ≡ Some x → f x ≡ y → if_some o f ≡ y
if_some_is o x f y e is = ap (λ p. if_some p f) e ∙ is

pub if_some_parts : {A B : Type 0} (o : Option A) (f : A → Option B) (y : B) → if_some o f ≡ Some y → (x : A) × (o ≡ Some x) × (f x ≡ Some y)
if_some_parts None f y e = absurd (cc)
if_some_parts (Some x) f y e = (x, refl, e)

or_else_parts : {A B : Type 0} (o : Option A) (f : A → Option B) (other : Option B) (y : B) → or_else o f other ≡ Some y
    → ((x : A) × (o ≡ Some x) × (f x ≡ Some y)) ⊎ (other ≡ Some y)
or_else_parts None f other y e = inr e
or_else_parts (Some x) f other y e = inl (x, refl, e)

same_pair : {A B : Type 0} (a c : A) (b d : B) → ◌≡◌ {A = Option (A × B)} (Some (a, b)) (Some (c, d)) → (a ≡ c) × (b ≡ d)
same_pair {A = A} {B = B} a c b d e =
    let two : ◌≡◌ {A = A × B} (a, b) (c, d) = cc in
    (ap (λ t. t.0) two, ap (λ t. t.1) two)

-- a name before a space
first_name_of : (id rest : List ℕ) → is_name id ≡ true → first_name (id ++ 32 ∷ rest) ≡ Some (id, rest)
first_name_of id rest e =
    let cut = cut_before 32 id rest (name_lacks 32 id refl e) in
    if_some_is (past 32 (id ++ 32 ∷ rest)) rest (λ r. if_some (name (front 32 (id ++ 32 ∷ rest))) (λ w. Some (w, r))) (Some (id, rest)) cut.1
    (if_some_is (name (front 32 (id ++ 32 ∷ rest))) id (λ w. Some (w, rest)) (Some (id, rest)) (ap name cut.0 ∙ name_of id e) refl)

first_name_sound : (s id rest : List ℕ) → first_name s ≡ Some (id, rest) → (is_name id ≡ true) × (s ≡ id ++ 32 ∷ rest)
first_name_sound s id rest e =
    let p = if_some_parts (past 32 s) (λ r. if_some (name (front 32 s)) (λ w. Some (w, r))) (id, rest) e in
    let q = if_some_parts (name (front 32 s)) (λ w. Some (w, p.0)) (id, rest) p.2 in
    let two = same_pair q.0 id p.0 rest q.2 in
    let named = name_sound (front 32 s) q.0 q.1 in
    let one : q.0 ≡ id = two.0 in
    let other : p.0 ≡ rest = two.1 in
    (rw (← one) named.0, cut_whole 32 s p.0 p.1 ∙ ap (λ w. w ++ 32 ∷ p.0) (named.1 ∙ one) ∙ ap (λ r. id ++ 32 ∷ r) other)

first_kind_of : (block : Bool) (rest : List ℕ) → first_kind (kind_word block ++ 32 ∷ rest) ≡ Some (block, rest)
first_kind_of true rest = refl
first_kind_of false rest = refl

first_kind_sound : (s rest : List ℕ) (block : Bool) → first_kind s ≡ Some (block, rest) → s ≡ kind_word block ++ 32 ∷ rest
first_kind_sound s rest block e =
    elim (or_else_parts (behind (codes "block ") s) (λ r. Some (true, r)) (if_some (behind (codes "stream ") s) (λ r. Some (false, r))) (block, rest) e) [
      | inl p ↦
          let two = same_pair true block p.0 rest p.2 in
          let kind : true ≡ block = two.0 in
          let tail : p.0 ≡ rest = two.1 in
          behind_whole (codes "block ") s p.0 p.1 ∙ ap (λ b. kind_word b ++ 32 ∷ p.0) kind ∙ ap (λ r. kind_word block ++ 32 ∷ r) tail
      | inr q ↦
          let p = if_some_parts (behind (codes "stream ") s) (λ r. Some (false, r)) (block, rest) q in
          let two = same_pair false block p.0 rest p.2 in
          let kind : false ≡ block = two.0 in
          let tail : p.0 ≡ rest = two.1 in
          behind_whole (codes "stream ") s p.0 p.1 ∙ ap (λ b. kind_word b ++ 32 ∷ p.0) kind ∙ ap (λ r. kind_word block ++ 32 ∷ r) tail
    ]

sized_of : (id : List ℕ) (size : ℕ) → is_name id ≡ true → size ≤ Most → sized (id ++ 32 ∷ decimal size) ≡ Some (id, size)
sized_of id size named le =
    if_some_is (first_name (id ++ 32 ∷ decimal size)) (id, decimal size) (λ d. if_some (number d.1) (λ n. Some (d.0, n))) (Some (id, size)) (first_name_of id (decimal size) named)
    (if_some_is (number (decimal size)) size (λ n. Some (id, n)) (Some (id, size)) (number_decimal size le) refl)

sized_sound : (s id : List ℕ) (size : ℕ) → sized s ≡ Some (id, size) → (is_name id ≡ true) × (size ≤ Most) × (s ≡ id ++ 32 ∷ decimal size)
sized_sound s id size e =
    let p = if_some_parts (first_name s) (λ d. if_some (number d.1) (λ n. Some (d.0, n))) (id, size) e in
    let q = if_some_parts (number p.0.1) (λ n. Some (p.0.0, n)) (id, size) p.2 in
    let two = same_pair p.0.0 id q.0 size q.2 in
    let one : p.0.0 ≡ id = two.0 in
    let other : q.0 ≡ size = two.1 in
    let named = first_name_sound s p.0.0 p.0.1 p.1 in
    let numbered = number_sound p.0.1 q.0 q.1 in (
      rw (← one) named.0,
      rw (← other) numbered.1,
      named.1 ∙ ap (λ w. w ++ 32 ∷ p.0.1) one ∙ ap (λ r. id ++ 32 ∷ r) (numbered.0 ∙ ap decimal other),
    )

-- what a line says of a record
abbrev pub head_of : Record → Head
head_of (BeginFlow id block parser) = Whole (BeginFlow id block parser)
head_of (Data id bytes) = DataLine id (length bytes)
head_of (Gap id size) = Whole (Gap id size)
head_of (EndFlow id) = Whole (EndFlow id)
head_of (BeginConn cid block oid oparser rid rparser) = Whole (BeginConn cid block oid oparser rid rparser)
head_of (EndConn cid) = Whole (EndConn cid)

pub data_head : (id : List ℕ) (size : ℕ) → is_name id ≡ true → size ≤ Most → head (data_words id size) ≡ Some (DataLine id size)
data_head id size named le = if_some_is (sized (id ++ 32 ∷ decimal size)) (id, size) (λ d. Some (DataLine d.0 d.1)) (Some (DataLine id size)) (sized_of id size named le) refl

pub line_head : (r : Record) → IsSound r → head (line_of r) ≡ Some (head_of r)
line_head (BeginFlow id block parser) h =
    if_some_is (first_name (id ++ 32 ∷ (kind_word block ++ 32 ∷ parser))) (id, kind_word block ++ 32 ∷ parser) _ _ (first_name_of id _ h.0)
    (if_some_is (first_kind (kind_word block ++ 32 ∷ parser)) (block, parser) _ _ (first_kind_of block parser)
    (if_some_is (name parser) parser _ _ (name_of parser h.1) refl))
line_head (Data id bytes) h = data_head id (length bytes) h.0 h.1
line_head (Gap id size) h = if_some_is (sized (id ++ 32 ∷ decimal size)) (id, size) (λ d. Some (Whole (Gap d.0 d.1))) (Some (Whole (Gap id size))) (sized_of id size h.0 h.1) refl
line_head (EndFlow id) h = if_some_is (name id) id (λ w. Some (Whole (EndFlow w))) (Some (Whole (EndFlow id))) (name_of id h) refl
line_head (BeginConn cid block oid oparser rid rparser) h =
    if_some_is (first_name (cid ++ 32 ∷ (kind_word block ++ 32 ∷ (oid ++ 32 ∷ (oparser ++ 32 ∷ (rid ++ 32 ∷ rparser))))))
    (cid, kind_word block ++ 32 ∷ (oid ++ 32 ∷ (oparser ++ 32 ∷ (rid ++ 32 ∷ rparser)))) _ _ (first_name_of cid _ h.0)
    (if_some_is (first_kind (kind_word block ++ 32 ∷ (oid ++ 32 ∷ (oparser ++ 32 ∷ (rid ++ 32 ∷ rparser)))))
    (block, oid ++ 32 ∷ (oparser ++ 32 ∷ (rid ++ 32 ∷ rparser))) _ _ (first_kind_of block _)
    (if_some_is (first_name (oid ++ 32 ∷ (oparser ++ 32 ∷ (rid ++ 32 ∷ rparser)))) (oid, oparser ++ 32 ∷ (rid ++ 32 ∷ rparser)) _ _ (first_name_of oid _ h.1)
    (if_some_is (first_name (oparser ++ 32 ∷ (rid ++ 32 ∷ rparser))) (oparser, rid ++ 32 ∷ rparser) _ _ (first_name_of oparser _ h.2)
    (if_some_is (first_name (rid ++ 32 ∷ rparser)) (rid, rparser) _ _ (first_name_of rid _ h.3)
    (if_some_is (name rparser) rparser _ _ (name_of rparser h.4) refl)))))
line_head (EndConn cid) h = if_some_is (name cid) cid (λ w. Some (Whole (EndConn w))) (Some (Whole (EndConn cid))) (name_of cid h) refl

-- the line says this
abbrev pub IsLineOf : List ℕ → Head → Type 0
IsLineOf s (Whole r) = IsSound r × (s ≡ line_of r) × (written r ≡ line_of r)
IsLineOf s (DataLine id size) = (is_name id ≡ true) × (size ≤ Most) × (s ≡ data_words id size)

data_line_sound : (s : List ℕ) (h : Head) → data_line s ≡ Some h → IsLineOf (codes "@data " ++ s) h
data_line_sound s h e =
    let p = if_some_parts (sized s) (λ d. Some (DataLine d.0 d.1)) h e in
    let is : DataLine p.0.0 p.0.1 ≡ h = (let f : Some (DataLine p.0.0 p.0.1) ≡ Some h = p.2 in cc) in
    let d = sized_sound s p.0.0 p.0.1 p.1 in
    subst (λ g. IsLineOf (codes "@data " ++ s) g) is (d.0, d.1, ap (λ t. codes "@data " ++ t) d.2)

gap_sound : (s : List ℕ) (h : Head) → gap s ≡ Some h → IsLineOf (codes "@gap " ++ s) h
gap_sound s h e =
    let p = if_some_parts (sized s) (λ d. Some (Whole (Gap d.0 d.1))) h e in
    let is : Whole (Gap p.0.0 p.0.1) ≡ h = (let f : Some (Whole (Gap p.0.0 p.0.1)) ≡ Some h = p.2 in cc) in
    let d = sized_sound s p.0.0 p.0.1 p.1 in
    subst (λ g. IsLineOf (codes "@gap " ++ s) g) is ((d.0, d.1), ap (λ t. codes "@gap " ++ t) d.2, refl)

end_flow_sound : (s : List ℕ) (h : Head) → end_flow s ≡ Some h → IsLineOf (codes "@end-flow " ++ s) h
end_flow_sound s h e =
    let p = if_some_parts (name s) (λ w. Some (Whole (EndFlow w))) h e in
    let is : Whole (EndFlow p.0) ≡ h = (let f : Some (Whole (EndFlow p.0)) ≡ Some h = p.2 in cc) in
    let d = name_sound s p.0 p.1 in
    subst (λ g. IsLineOf (codes "@end-flow " ++ s) g) is (d.0, ap (λ t. codes "@end-flow " ++ t) d.1, refl)

end_conn_sound : (s : List ℕ) (h : Head) → end_conn s ≡ Some h → IsLineOf (codes "@end-conn " ++ s) h
end_conn_sound s h e =
    let p = if_some_parts (name s) (λ w. Some (Whole (EndConn w))) h e in
    let is : Whole (EndConn p.0) ≡ h = (let f : Some (Whole (EndConn p.0)) ≡ Some h = p.2 in cc) in
    let d = name_sound s p.0 p.1 in
    subst (λ g. IsLineOf (codes "@end-conn " ++ s) g) is (d.0, ap (λ t. codes "@end-conn " ++ t) d.1, refl)

begin_flow_sound : (s : List ℕ) (h : Head) → begin_flow s ≡ Some h → IsLineOf (codes "@begin-flow " ++ s) h
begin_flow_sound s h e =
    let p = if_some_parts (first_name s) (λ id. if_some (first_kind id.1) (λ kind. if_some (name kind.1) (λ parser. Some (Whole (BeginFlow id.0 kind.0 parser))))) h e in
    let q = if_some_parts (first_kind p.0.1) (λ kind. if_some (name kind.1) (λ parser. Some (Whole (BeginFlow p.0.0 kind.0 parser)))) h p.2 in
    let r = if_some_parts (name q.0.1) (λ parser. Some (Whole (BeginFlow p.0.0 q.0.0 parser))) h q.2 in
    let is : Whole (BeginFlow p.0.0 q.0.0 r.0) ≡ h = (let f : Some (Whole (BeginFlow p.0.0 q.0.0 r.0)) ≡ Some h = r.2 in cc) in
    let a = first_name_sound s p.0.0 p.0.1 p.1 in
    let b = first_kind_sound p.0.1 q.0.1 q.0.0 q.1 in
    let d = name_sound q.0.1 r.0 r.1 in
    subst (λ g. IsLineOf (codes "@begin-flow " ++ s) g) is
    ((a.0, d.0), ap (λ t. codes "@begin-flow " ++ t) (a.1 ∙ ap (λ t. p.0.0 ++ 32 ∷ t) (b ∙ ap (λ t. kind_word q.0.0 ++ 32 ∷ t) d.1)), refl)

begin_conn_sound : (s : List ℕ) (h : Head) → begin_conn s ≡ Some h → IsLineOf (codes "@begin-conn " ++ s) h
begin_conn_sound s h e =
    let c = if_some_parts (first_name s) _ h e in
    let k = if_some_parts (first_kind c.0.1) _ h c.2 in
    let o = if_some_parts (first_name k.0.1) _ h k.2 in
    let p = if_some_parts (first_name o.0.1) _ h o.2 in
    let q = if_some_parts (first_name p.0.1) _ h p.2 in
    let r = if_some_parts (name q.0.1) _ h q.2 in
    let made : Record = BeginConn c.0.0 k.0.0 o.0.0 p.0.0 q.0.0 r.0 in
    let is : Whole made ≡ h = (let f : Some (Whole made) ≡ Some h = r.2 in cc) in
    let ca = first_name_sound s c.0.0 c.0.1 c.1 in
    let ka = first_kind_sound c.0.1 k.0.1 k.0.0 k.1 in
    let oa = first_name_sound k.0.1 o.0.0 o.0.1 o.1 in
    let pa = first_name_sound o.0.1 p.0.0 p.0.1 p.1 in
    let qa = first_name_sound p.0.1 q.0.0 q.0.1 q.1 in
    let ra = name_sound q.0.1 r.0 r.1 in
    subst (λ g. IsLineOf (codes "@begin-conn " ++ s) g) is (
      (ca.0, oa.0, pa.0, qa.0, ra.0),
      ap (λ t. codes "@begin-conn " ++ t) (ca.1 ∙ ap (λ t. c.0.0 ++ 32 ∷ t) (ka ∙ ap (λ t. kind_word k.0.0 ++ 32 ∷ t)
          (oa.1 ∙ ap (λ t. o.0.0 ++ 32 ∷ t) (pa.1 ∙ ap (λ t. p.0.0 ++ 32 ∷ t) (qa.1 ∙ ap (λ t. q.0.0 ++ 32 ∷ t) ra.1))))),
      refl,
    )

-- what is read of a line is what its text says
at_word : (word s : List ℕ) (f : List ℕ → Option Head) (h : Head) → ((t : List ℕ) → f t ≡ Some h → IsLineOf (word ++ t) h)
    → ((t : List ℕ) × (behind word s ≡ Some t) × (f t ≡ Some h)) → IsLineOf s h
at_word word s f h sound p = subst (λ t. IsLineOf t h) (sym (behind_whole word s p.0 p.1)) (sound p.0 p.2)

pub line_sound : (s : List ℕ) (h : Head) → head s ≡ Some h → IsLineOf s h
line_sound s h e0 =
    elim (or_else_parts (behind (codes "@data ") s) data_line _ h e0) [
      | inl p ↦ at_word (codes "@data ") s data_line h (λ t. data_line_sound t h) p
      | inr e1 ↦ elim (or_else_parts (behind (codes "@gap ") s) gap _ h e1) [
        | inl p ↦ at_word (codes "@gap ") s gap h (λ t. gap_sound t h) p
        | inr e2 ↦ elim (or_else_parts (behind (codes "@begin-flow ") s) begin_flow _ h e2) [
          | inl p ↦ at_word (codes "@begin-flow ") s begin_flow h (λ t. begin_flow_sound t h) p
          | inr e3 ↦ elim (or_else_parts (behind (codes "@end-flow ") s) end_flow _ h e3) [
            | inl p ↦ at_word (codes "@end-flow ") s end_flow h (λ t. end_flow_sound t h) p
            | inr e4 ↦ elim (or_else_parts (behind (codes "@begin-conn ") s) begin_conn _ h e4) [
              | inl p ↦ at_word (codes "@begin-conn ") s begin_conn h (λ t. begin_conn_sound t h) p
              | inr e5 ↦ elim (or_else_parts (behind (codes "@end-conn ") s) end_conn None h e5) [
                | inl p ↦ at_word (codes "@end-conn ") s end_conn h (λ t. end_conn_sound t h) p
                | inr e6 ↦ absurd (cc)
              ]
            ]
          ]
        ]
      ]
    ]
