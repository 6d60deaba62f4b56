-- Rings of nodes: each node is in one ring at one place, and what one change of links does to a ring.
use Rattle.std.proofs.Common.{◌≡◌, ◌≢◌, ℕ, suc, ◌≤◌, List, [], ◌∷◌, ◌++◌, length, Option, Some, None, refl, sym, ap, subst, ◌∙◌, arith}
use Rattle.sp_chain.specs.declared.nodes.Node.{Node}
use Rattle.sp_chain.specs.Rings.{after_in, before_in, item_in, IsRun, IsRing, met, walk, list_from, last_key, first_key}

module _ {T : Type 0} where
  -- going on from a node leads to one list, through the same items
  pub same_run : (f : ℕ → Option (Node T)) (p : ℕ) (c d : List (ℕ × T)) (e g : ℕ) → IsRun f p c e → IsRun f p d g → item_in (f e) ≡ None → item_in (f g) ≡ None → (e ≡ g) × (c ≡ d)
  same_run f p [] [] e g r q he hg = (sym r.0 ∙ q.0, refl)
  same_run f p [] (y ∷ d) e g r q he hg =
      let found : item_in (f e) ≡ Some y.1 = ap (λ k. item_in (f k)) (sym r.0 ∙ q.0) ∙ q.2 in
      absurd (let no : None ≡ Some y.1 = sym he ∙ found in cc)
  same_run f p (x ∷ c) [] e g r q he hg =
      let found : item_in (f g) ≡ Some x.1 = ap (λ k. item_in (f k)) (sym q.0 ∙ r.0) ∙ r.2 in
      absurd (let no : None ≡ Some x.1 = sym hg ∙ found in cc)
  same_run f p (x ∷ c) (y ∷ d) e g r q he hg =
      let keys : x.0 ≡ y.0 = sym r.0 ∙ q.0 in
      let both : Some x.1 ≡ Some y.1 = sym r.2 ∙ ap (λ k. item_in (f k)) keys ∙ q.2 in
      let items : x.1 ≡ y.1 = cc in
      let rest = same_run f x.0 c d e g r.3 (subst (λ k. IsRun f k d g) (sym keys) q.3) he hg in
      (rest.0, λ i. (keys i, items i) ∷ rest.1 i)

  -- no item of the list has this slot
  abbrev pub Apart : ℕ → List (ℕ × T) → Type 0
  Apart k [] = Unit {0}
  Apart k (y ∷ c) = (y.0 ≢ k) × Apart k c

  pub apart_free : (f : ℕ → Option (Node T)) (p : ℕ) (c : List (ℕ × T)) (e k : ℕ) → IsRun f p c e → item_in (f k) ≡ None → Apart k c
  apart_free f p [] e k r none = tt
  apart_free f p (y ∷ c) e k r none =
      (λ same. let found : None ≡ Some y.1 = sym none ∙ ap (λ j. item_in (f j)) (sym same) ∙ r.2 in absurd (cc), apart_free f y.0 c e k r.3 none)

  -- the nodes of another list
  pub apart_other : (f : ℕ → Option (Node T)) (p : ℕ) (c : List (ℕ × T)) (l k : ℕ) (d : List (ℕ × T)) (m : ℕ) → IsRun f p c l → IsRun f k d m → item_in (f l) ≡ None → item_in (f m) ≡ None → l ≢ m → Apart k c
  apart_other f p [] l k d m r q hl hm differ = tt
  apart_other f p (y ∷ c) l k d m r q hl hm differ =
      (λ same. differ (same_run f y.0 c d l m r.3 (subst (λ j. IsRun f j d m) (sym same) q) hl hm).0, apart_other f y.0 c l k d m r.3 q hl hm differ)

  -- a node with no fewer items behind it
  pub apart_longer : (f : ℕ → Option (Node T)) (p : ℕ) (c : List (ℕ × T)) (l k : ℕ) (d : List (ℕ × T)) → IsRun f p c l → IsRun f k d l → item_in (f l) ≡ None → length c ≤ length d → Apart k c
  apart_longer f p [] l k d r q hl longer = tt
  apart_longer f p (y ∷ c) l k d r q hl longer = (
    λ same. let lists = (same_run f y.0 c d l l r.3 (subst (λ j. IsRun f j d l) (sym same) q) hl hl).1 in
        absurd (omega (arith, ap length lists)),
    apart_longer f y.0 c l k d r.3 q hl (omega arith),
  )

  -- neither the node of another list nor its items
  pub away : (f : ℕ → Option (Node T)) (m : ℕ) (c : List (ℕ × T)) (k : ℕ) (d : List (ℕ × T)) (l : ℕ) → IsRun f m c m → IsRun f k d l → item_in (f m) ≡ None → item_in (f l) ≡ None → m ≢ l → (m ≢ k) × Apart k c
  away f m c k d l r q hm hl differ =
      (λ same. differ (same_run f m c d m l r (subst (λ j. IsRun f j d l) (sym same) q) hm hl).0, apart_other f m c m k d l r q hm hl differ)

  pub run_after : (f : ℕ → Option (Node T)) (p : ℕ) (c : List (ℕ × T)) (e : ℕ) → IsRun f p c e → after_in (f p) ≡ first_key c e
  run_after f p [] e r = r.0
  run_after f p (y ∷ c) e r = r.0

  pub run_before : (f : ℕ → Option (Node T)) (p : ℕ) (c : List (ℕ × T)) (e : ℕ) → IsRun f p c e → before_in (f e) ≡ last_key p c
  run_before f p [] e r = r.1
  run_before f p (y ∷ c) e r = run_before f y.0 c e r.3

  pub run_split : (f : ℕ → Option (Node T)) (p : ℕ) (d : List (ℕ × T)) (y : ℕ × T) (c : List (ℕ × T)) (e : ℕ) → IsRun f p (d ++ y ∷ c) e → IsRun f p d y.0 × (item_in (f y.0) ≡ Some y.1) × IsRun f y.0 c e
  run_split f p [] y c e r = ((r.0, r.1), r.2, r.3)
  run_split f p (z ∷ d) y c e r =
      let rest = run_split f z.0 d y c e r.3 in
      ((r.0, r.1, r.2, rest.0), rest.1, rest.2)

  pub run_join : (f : ℕ → Option (Node T)) (p : ℕ) (d : List (ℕ × T)) (y : ℕ × T) (c : List (ℕ × T)) (e : ℕ) → IsRun f p d y.0 → item_in (f y.0) ≡ Some y.1 → IsRun f y.0 c e → IsRun f p (d ++ y ∷ c) e
  run_join f p [] y c e r h q = (r.0, r.1, h, q)
  run_join f p (z ∷ d) y c e r h q = (r.0, r.1, r.2, run_join f z.0 d y c e r.3 h q)

  -- what is left from the last node of a front
  pub run_rest : (f : ℕ → Option (Node T)) (p : ℕ) (d c : List (ℕ × T)) (e : ℕ) → IsRun f p (d ++ c) e → IsRun f (last_key p d) c e
  run_rest f p [] c e r = r
  run_rest f p (z ∷ d) c e r = run_rest f z.0 d c e r.3

  -- what is left from its last node
  pub run_end : (f : ℕ → Option (Node T)) (p : ℕ) (d : List (ℕ × T)) (e : ℕ) → IsRun f p d e → IsRun f (last_key p d) [] e
  run_end f p [] e r = r
  run_end f p (z ∷ d) e r = run_end f z.0 d e r.3

  pub apart_item : (k : ℕ) (d : List (ℕ × T)) (y : ℕ × T) (c : List (ℕ × T)) → Apart k (d ++ y ∷ c) → y.0 ≢ k
  apart_item k [] y c a = a.0
  apart_item k (z ∷ d) y c a = apart_item k d y c a.1

  pub apart_rest : (k : ℕ) (d c : List (ℕ × T)) → Apart k (d ++ c) → Apart k c
  apart_rest k [] c a = a
  apart_rest k (z ∷ d) c a = apart_rest k d c a.1

  pub apart_first : (k : ℕ) (c : List (ℕ × T)) (l : ℕ) → Apart k c → l ≢ k → first_key c l ≢ k
  apart_first k [] l a differ = differ
  apart_first k (y ∷ c) l a differ = a.0

  pub apart_last : (k p : ℕ) (d c : List (ℕ × T)) → Apart k (d ++ c) → p ≢ k → last_key p d ≢ k
  apart_last k p [] c a differ = differ
  apart_last k p (z ∷ d) c a differ = apart_last k z.0 d c a.1 a.0

  -- links, and items, are the same but for these nodes
  pub record Near (f g : ℕ → Option (Node T)) (p n s : ℕ) : Type 0 where
    pub after : (k : ℕ) → k ≢ p → k ≢ s → after_in (g k) ≡ after_in (f k)
    pub before : (k : ℕ) → k ≢ n → k ≢ s → before_in (g k) ≡ before_in (f k)
    pub items : (k : ℕ) → k ≢ s → item_in (g k) ≡ item_in (f k)

  pub frame : (f g : ℕ → Option (Node T)) (p n s : ℕ) → Near f g p n s → (q : ℕ) (c : List (ℕ × T)) (e : ℕ) → IsRun f q c e → q ≢ p → q ≢ s → Apart p c → Apart n c → Apart s c → e ≢ n → e ≢ s → IsRun g q c e
  frame f g p n s near q [] e r qp qs not_p not_n not_s en es = (near.after q qp qs ∙ r.0, near.before e en es ∙ r.1)
  frame f g p n s near q (y ∷ c) e r qp qs not_p not_n not_s en es = (
    near.after q qp qs ∙ r.0,
    near.before y.0 not_n.0 not_s.0 ∙ r.1,
    near.items y.0 not_s.0 ∙ r.2,
    frame f g p n s near y.0 c e r.3 not_p.0 not_s.0 not_p.1 not_n.1 not_s.1 en es,
  )

  -- what follows the node a in f follows the node b in g
  pub move_head : (f g : ℕ → Option (Node T)) (p n s : ℕ) → Near f g p n s → (a b : ℕ) (c : List (ℕ × T)) (l : ℕ) → IsRun f a c l → item_in (f l) ≡ None → first_key c l ≡ n → after_in (g b) ≡ n → before_in (g n) ≡ b → Apart p c → Apart s c → l ≢ s → IsRun g b c l
  move_head f g p n s near a b [] l r hl first after before not_p not_s ls =
      (after ∙ sym first, ap-before)
    where
      ap-before : before_in (g l) ≡ b
      ap-before = subst (λ k. before_in (g k) ≡ b) (sym first) before
  move_head f g p n s near a b (y ∷ c) l r hl first after before not_p not_s ls = (
    after ∙ sym first,
    subst (λ k. before_in (g k) ≡ b) (sym first) before,
    near.items y.0 not_s.0 ∙ r.2,
    frame f g p n s near y.0 c l r.3 not_p.0 not_s.0 not_p.1
        (subst (λ k. Apart k c) first (apart_longer f y.0 c l y.0 c r.3 r.3 hl (omega arith)))
        not_s.1
        (λ same. let found : None ≡ Some y.1 = sym hl ∙ ap (λ j. item_in (f j)) (same ∙ sym first) ∙ r.2 in absurd (cc))
        ls,
  )

  -- a node s with the item x comes in behind the node p
  pub insert_run : (f g : ℕ → Option (Node T)) (p n s : ℕ) → Near f g p n s → (x : T) → after_in (g p) ≡ s → before_in (g s) ≡ p → item_in (g s) ≡ Some x → after_in (g s) ≡ n → before_in (g n) ≡ s → (q : ℕ) (d e : List (ℕ × T)) (l : ℕ) → IsRun f q (d ++ e) l → item_in (f l) ≡ None → last_key q d ≡ p → first_key e l ≡ n → q ≢ s → l ≢ s → Apart s (d ++ e) → IsRun g q (d ++ (s, x) ∷ e) l
  insert_run f g p n s near x ps sp sx sn ns q [] e l r hl last first qs ls free = (
    subst (λ k. after_in (g k) ≡ s) (sym last) ps,
    sp ∙ sym last,
    sx,
    move_head f g p n s near q s e l r hl first sn ns (subst (λ k. Apart k e) last (apart_longer f q e l q e r r hl (omega arith))) free ls,
  )
  insert_run f g p n s near x ps sp sx sn ns q (y ∷ d) e l r hl last first qs ls free =
      let apart : Apart q (y ∷ (d ++ e)) = apart_longer f q (y ∷ (d ++ e)) l q (y ∷ (d ++ e)) r r hl (omega arith) in
      let behind : Apart y.0 (d ++ e) = apart_longer f y.0 (d ++ e) l y.0 (d ++ e) r.3 r.3 hl (omega arith) in
      let own : l ≢ y.0 = λ same. (let found : None ≡ Some y.1 = sym hl ∙ ap (λ j. item_in (f j)) same ∙ r.2 in absurd (cc)) in
      let q_not_p : q ≢ p = λ same. apart_last q y.0 d e apart.1 apart.0 (last ∙ sym same) in
      let y_not_n : y.0 ≢ n = λ same. apart_first y.0 e l (apart_rest y.0 d e behind) own (first ∙ sym same) in (
        near.after q q_not_p qs ∙ r.0,
        near.before y.0 y_not_n free.0 ∙ r.1,
        near.items y.0 free.0 ∙ r.2,
        insert_run f g p n s near x ps sp sx sn ns y.0 d e l r.3 hl last first free.0 ls free.1,
      )

  -- the node s goes
  pub unlink_run : (f g : ℕ → Option (Node T)) (p n : ℕ) (y : ℕ × T) → Near f g p n y.0 → after_in (g p) ≡ n → before_in (g n) ≡ p → (q : ℕ) (d e : List (ℕ × T)) (l : ℕ) → IsRun f q (d ++ y ∷ e) l → item_in (f l) ≡ None → last_key q d ≡ p → first_key e l ≡ n → l ≢ y.0 → IsRun g q (d ++ e) l
  unlink_run f g p n y near pn np q [] e l r hl last first ls =
      move_head f g p n y.0 near y.0 q e l r.3 hl first
      (subst (λ k. after_in (g k) ≡ n) (sym last) pn)
      (np ∙ sym last)
      (subst (λ k. Apart k e) last (apart_longer f y.0 e l q (y ∷ e) r.3 r hl (omega arith)))
      (apart_longer f y.0 e l y.0 e r.3 r.3 hl (omega arith))
      ls
  unlink_run f g p n y near pn np q (z ∷ d) e l r hl last first ls =
      let apart : Apart q (z ∷ (d ++ y ∷ e)) = apart_longer f q (z ∷ (d ++ y ∷ e)) l q (z ∷ (d ++ y ∷ e)) r r hl (omega arith) in
      let behind : Apart z.0 (d ++ y ∷ e) = apart_longer f z.0 (d ++ y ∷ e) l z.0 (d ++ y ∷ e) r.3 r.3 hl (omega arith) in
      let own : l ≢ z.0 = λ same. (let found : None ≡ Some z.1 = sym hl ∙ ap (λ j. item_in (f j)) same ∙ r.2 in absurd (cc)) in
      let q_not_p : q ≢ p = λ same. apart_last q z.0 d (y ∷ e) apart.1 apart.0 (last ∙ sym same) in
      let q_not_s : q ≢ y.0 = λ same. apart_item q d y e apart.1 (sym same) in
      let z_not_s : z.0 ≢ y.0 = λ same. apart_item z.0 d y e behind (sym same) in
      let rest : Apart z.0 (y ∷ e) = apart_rest z.0 d (y ∷ e) behind in
      let z_not_n : z.0 ≢ n = λ same. apart_first z.0 e l rest.1 own (first ∙ sym same) in (
        near.after q q_not_p q_not_s ∙ r.0,
        near.before z.0 z_not_n z_not_s ∙ r.1,
        near.items z.0 z_not_s ∙ r.2,
        unlink_run f g p n y near pn np z.0 d e l r.3 hl last first ls,
      )

  -- the run of a ring is what its walk finds
  pub walk_run : (f : ℕ → Option (Node T)) (p : ℕ) (c : List (ℕ × T)) (e : ℕ) → IsRun f p c e → walk f (length c) (after_in (f p)) ≡ c
  walk_run f p [] e r = refl
  walk_run f p (y ∷ c) e r =
      ap (λ k. walk f (suc (length c)) k) r.0 ∙ ap (λ o. met y.0 o (walk f (length c) (after_in (f y.0)))) r.2
      ∙ ap (λ rest. y ∷ rest) (walk_run f y.0 c e r.3)

  pub list_of_ring : (f : ℕ → Option (Node T)) (l : ℕ) (c : List (ℕ × T)) → IsRing f l c → list_from f (f l) ≡ Some c
  list_of_ring f l c ring = rw ring.counted (ap Some (walk_run f l c l ring.linked))

  pub apart_end : (k p : ℕ) (c : List (ℕ × T)) → Apart k c → p ≢ k → last_key p c ≢ k
  apart_end k p [] a differ = differ
  apart_end k p (y ∷ c) a differ = apart_end k y.0 c a.1 a.0

  -- items are the same, and links but for these nodes
  pub record Nearly (f g : ℕ → Option (Node T)) (t b k u v w : ℕ) : Type 0 where
    pub after : (q : ℕ) → q ≢ t → q ≢ b → q ≢ k → after_in (g q) ≡ after_in (f q)
    pub before : (q : ℕ) → q ≢ u → q ≢ v → q ≢ w → before_in (g q) ≡ before_in (f q)
    pub items : (q : ℕ) → item_in (g q) ≡ item_in (f q)

  -- none of the nodes
  pub record ApartAll (c : List (ℕ × T)) (b k u v w : ℕ) : Type 0 where
    pub not_b : Apart b c
    pub not_k : Apart k c
    pub not_u : Apart u c
    pub not_v : Apart v c
    pub not_w : Apart w c

  -- a run whose last node goes on to another node
  pub retarget : (f g : ℕ → Option (Node T)) (t b k u v w : ℕ) → Nearly f g t b k u v w → (q : ℕ) (c : List (ℕ × T)) (z y : ℕ) → IsRun f q c z → item_in (f z) ≡ None → last_key q c ≡ t → after_in (g t) ≡ y → before_in (g y) ≡ t → q ≢ b → q ≢ k → ApartAll c b k u v w → IsRun g q c y
  retarget f g t b k u v w near q [] z y r hz last after before qb qk apart =
      (subst (λ j. after_in (g j) ≡ y) (sym last) after, before ∙ sym last)
  retarget f g t b k u v w near q (x ∷ c) z y r hz last after before qb qk apart =
      let own : Apart q (x ∷ c) = apart_longer f q (x ∷ c) z q (x ∷ c) r r hz (omega arith) in
      let qt : q ≢ t = λ same. apart_end q x.0 c own.1 own.0 (last ∙ sym same) in (
        near.after q qt qb qk ∙ r.0,
        near.before x.0 apart.not_u.0 apart.not_v.0 apart.not_w.0 ∙ r.1,
        near.items x.0 ∙ r.2,
        retarget f g t b k u v w near x.0 c z y r.3 hz last after before apart.not_b.0 apart.not_k.0
            (record { not_b = apart.not_b.1; not_k = apart.not_k.1; not_u = apart.not_u.1; not_v = apart.not_v.1; not_w = apart.not_w.1 }),
      )

  -- a run that none of the changed nodes is in
  pub untouched : (f g : ℕ → Option (Node T)) (t b k u v w : ℕ) → Nearly f g t b k u v w → (q : ℕ) (c : List (ℕ × T)) (z : ℕ) → IsRun f q c z → q ≢ t → q ≢ b → q ≢ k → Apart t c → ApartAll c b k u v w → z ≢ u → z ≢ v → z ≢ w → IsRun g q c z
  untouched f g t b k u v w near q [] z r qt qb qk first apart zu zv zw =
      (near.after q qt qb qk ∙ r.0, near.before z zu zv zw ∙ r.1)
  untouched f g t b k u v w near q (x ∷ c) z r qt qb qk first apart zu zv zw = (
    near.after q qt qb qk ∙ r.0,
    near.before x.0 apart.not_u.0 apart.not_v.0 apart.not_w.0 ∙ r.1,
    near.items x.0 ∙ r.2,
    untouched f g t b k u v w near x.0 c z r.3 first.0 apart.not_b.0 apart.not_k.0 first.1
        (record { not_b = apart.not_b.1; not_k = apart.not_k.1; not_u = apart.not_u.1; not_v = apart.not_v.1; not_w = apart.not_w.1 }) zu zv zw,
  )
