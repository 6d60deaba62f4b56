-- Units, as they are laid out one behind another.
use Rattle.std.proofs.Common.{◌≡◌, ◌+◌, ℕ, suc, List, [], ◌∷◌, ◌++◌, append_assoc, append-nil, length, refl, sym, ap, subst, ◌∙◌, arith, length-append}
use Rattle.sp_methods.specs.Kinds.{Kind, Unsigned, Signed}
use Rattle.sp_typed_units.specs.declared.declarations.Member.{Member}
use Rattle.sp_typed_units.specs.declared.declarations.Typed.{Typed}
use Rattle.sp_typed_units.specs.declared.declarations.Unit.{Unit as TypedUnit}
use Rattle.sp_meaning.specs.Globals.{globals_of}
use Rattle.sp_code.specs.declared.program.UnitCode.{UnitCode}
use Rattle.sp_code.specs.declared.program.UnitKinds.{UnitKinds}
use Rattle.sp_code.specs.Machine as machine
use Rattle.sp_code.specs.Shapes as shapes
use Rattle.sp_code.specs.Shapes.{Shape}
use Rattle.sp_code.specs.Programs as told
use Rattle.sp_code.specs.Programs.{units_of, unit_kinds, kinds_at}
use Rattle.sp_code_programs.specs.exprs.Marked.{Marked}
use Rattle.sp_code_programs.specs.units.Units.{slot_kinds, unit_entry, unit_code, ending_code, failing_code, starter_code}
use Rattle.sp_emit.specs.Kinds.{Grows}
use Rattle.sp_emit.specs.Emitted.{Emitted, Adds}
use Rattle.sp_emit.proofs.Growing.{grows_not, grows_then, number_before}
use Rattle.sp_emit.proofs.Adding.{adds_long}
use Rattle.sp_code_programs.specs.programs.Routines.{parameter_kinds}
use Rattle.sp_meaning.specs.Names.{member_names, names_of_members}
use Rattle.sp_code_programs.specs.programs.Units.{ending_at, failing_at, unit_end, whole_unit_code, units_code, unit_entries, starters_code, member_kinds, kinds_of_unit, kinds_of_units}
use Rattle.sp_lower_tables.specs.Numbers.{GivesNumber, GivesNumbers}
use Rattle.sp_lower_tables.proofs.Numbered.{turns_both, numbers_before}
use Rattle.sp_lower.specs.declared.units.Addresses.{Addresses}
use Rattle.sp_lower.specs.inside.Units.{GivesKinds, plain_entry, IsEntryOf, LaysUnit, LaysUnits, AddsStarters}

-- as many names as members
pub names_long : (ms : List Member) → length (member_names ms) ≡ length ms
names_long [] = refl
names_long (m ∷ ms) = ap suc (names_long ms)

-- the kinds of the locals of a unit's own code
pub gives_slots : (a b c : Emitted) (m n : ℕ) (ns : List ℕ) → GivesNumber a b Unsigned m → GivesNumber b c Signed n → ns ≡ m ∷ m ∷ n ∷ [] → GivesNumbers a c slot_kinds ns
gives_slots a b c m n ns h i is =
    let first = number_before b.kinds c.kinds Unsigned m i.same.kinds h.number in
    subst (λ (l : List ℕ). GivesNumbers a c slot_kinds l) (sym is)
    (record {
      same = turns_both a b c h.same i.same;
      numbers =
          record {
            below = (first.within, (first.within, (i.number.within, tt)));
            are = ap (λ (k : Kind). k ∷ k ∷ told.kind_at c.kinds n ∷ []) first.is ∙ ap (λ (k : Kind). Unsigned ∷ Unsigned ∷ k ∷ []) i.number.is;
          };
    })

-- the kinds of a unit
pub gives_kinds : (ranges : List ℕ) (a b c d : Emitted) (x : TypedUnit) (kinds : UnitKinds) → GivesNumbers a b (parameter_kinds ranges x.parameters) kinds.parameters.items → GivesNumbers b c (member_kinds ranges x.members) kinds.members.items
    → GivesNumbers c d slot_kinds kinds.locals.items → GivesKinds ranges a d x kinds
gives_kinds ranges a b c d x kinds ps ms ls =
    record {
      same = turns_both a c d (turns_both a b c ps.same ms.same) ls.same;
      parameters = numbers_before b.kinds d.kinds (parameter_kinds ranges x.parameters) kinds.parameters.items (grows_then b.kinds c.kinds d.kinds ms.same.kinds ls.same.kinds) ps.numbers;
      members = numbers_before c.kinds d.kinds (member_kinds ranges x.members) kinds.members.items ls.same.kinds ms.numbers;
      locals = ls.numbers;
    }

abbrev kinds_with : List Kind → List Kind → List Kind → shapes.UnitKinds
kinds_with ps ms ls = record { parameters = ps; members = ms; locals = ls }

abbrev kinds_by : List Kind → UnitKinds → shapes.UnitKinds
kinds_by ks u = kinds_with (kinds_at ks u.parameters.items) (kinds_at ks u.members.items) (kinds_at ks u.locals.items)

-- which stay what they are where kinds grow
kinds_stay : (ranges : List ℕ) (a b : Emitted) (x : TypedUnit) (kinds : UnitKinds) (ks : List Kind) → GivesKinds ranges a b x kinds → Grows b.kinds ks → kinds_by ks kinds ≡ kinds_of_unit ranges x
kinds_stay ranges a b x kinds ks h g =
    let ps = numbers_before b.kinds ks (parameter_kinds ranges x.parameters) kinds.parameters.items g h.parameters in
    let ms = numbers_before b.kinds ks (member_kinds ranges x.members) kinds.members.items g h.members in
    let ls = numbers_before b.kinds ks slot_kinds kinds.locals.items g h.locals in
    ap (λ (l : List Kind). kinds_with l (kinds_at ks kinds.members.items) (kinds_at ks kinds.locals.items)) ps.are
    ∙ ap (λ (l : List Kind). kinds_with (parameter_kinds ranges x.parameters) l (kinds_at ks kinds.locals.items)) ms.are
    ∙ ap (λ (l : List Kind). kinds_with (parameter_kinds ranges x.parameters) (member_kinds ranges x.members) l) ls.are

module _ (list : Typed) where
  three_long : (n : ℕ) (a b c : List Marked) → n + length (a ++ (b ++ c)) ≡ n + length a + length b + length c
  three_long n a b c = omega (arith, length-append {A = Marked})

  -- all code of a unit, by its parts
  pub unit_laid : (a b c d : Emitted) (u : ℕ) (x : TypedUnit) (s t r : Shape) (at : Addresses) → Adds a b (unit_code list (length a.marks) u x) s → Adds b c (ending_code list u) t → Adds c d (failing_code list u) r
      → at.start ≡ length a.marks → at.ending ≡ length b.marks → at.failing ≡ length c.marks → LaysUnit list a d u x at
  unit_laid a b c d u x s t r at h₁ h₂ h₃ start ending failing =
      let parts = unit_code list (length a.marks) u x in
      let ends = ending_code list u in
      let fails = failing_code list u in
      record {
        marks =
            h₃.marks
            ∙ ap (λ (l : List Marked). l ++ fails) h₂.marks
            ∙ ap (λ (l : List Marked). (l ++ ends) ++ fails) h₁.marks
            ∙ append_assoc (a.marks ++ parts) ends fails
            ∙ append_assoc a.marks parts (ends ++ fails);
        kinds = grows_then a.kinds c.kinds d.kinds (grows_then a.kinds b.kinds c.kinds h₁.kinds h₂.kinds) h₃.kinds;
        start = start;
        ending = ending ∙ adds_long h₁;
        failing = failing ∙ adds_long h₂ ∙ ap (λ n. n + length ends) (adds_long h₁);
      }

  unit_sized : (at u : ℕ) (x : TypedUnit) → at + length (whole_unit_code list at u x) ≡ unit_end list at u x
  unit_sized at u x = three_long at (unit_code list at u x) (ending_code list u) (failing_code list u)

  -- tables with one more unit
  entries_more : (us : List UnitCode) (v : UnitCode) → units_of (us ++ v ∷ []) ≡ units_of us ++ plain_entry v ∷ []
  entries_more [] v = refl
  entries_more (w ∷ us) v = ap (λ (l : List machine.UnitCode). plain_entry w ∷ l) (entries_more us v)

  members_more : (us : List UnitCode) (v : UnitCode) → told.member_names (us ++ v ∷ []) ≡ told.member_names us ++ v.members.items ∷ []
  members_more [] v = refl
  members_more (w ∷ us) v = ap (λ (l : List (List (List ℕ))). w.members.items ∷ l) (members_more us v)

  kinds_more : (ks : List Kind) (us : List UnitCode) (v : UnitCode) → unit_kinds ks (us ++ v ∷ []) ≡ unit_kinds ks us ++ kinds_by ks v.kinds ∷ []
  kinds_more ks [] v = refl
  kinds_more ks (w ∷ us) v = ap (λ (l : List shapes.UnitKinds). kinds_by ks w.kinds ∷ l) (kinds_more ks us v)

  -- one unit
  pub one_laid : (a b c : Emitted) (us vs : List UnitCode) (v : UnitCode) (u : ℕ) (x : TypedUnit) (at : Addresses) (kinds : UnitKinds) → GivesKinds (globals_of list).ranges a b x kinds → LaysUnit list b c u x at → IsEntryOf at kinds x v
      → vs ≡ us ++ v ∷ [] → LaysUnits list a us c vs u (x ∷ [])
  one_laid a b c us vs v u x at kinds given h is pushed =
      let same : length b.marks ≡ length a.marks = ap length given.same.marks in
      let n = length a.marks in
      let ranges = (globals_of list).ranges in
      subst (λ (l : List UnitCode). LaysUnits list a us c l u (x ∷ [])) (sym pushed)
      (record {
        marks =
            h.marks
            ∙ ap (λ m. b.marks ++ whole_unit_code list m u x) same
            ∙ ap (λ (l : List Marked). l ++ whole_unit_code list n u x) given.same.marks
            ∙ ap (λ (l : List Marked). a.marks ++ l) (sym (append-nil (whole_unit_code list n u x)));
        grown = grows_then a.kinds b.kinds c.kinds given.same.kinds h.kinds;
        entries =
            entries_more us v
            ∙ ap (λ (y : machine.UnitCode). units_of us ++ y ∷ [])
            (is.plain
            ∙ ap (λ m. unit_entry m at.ending at.failing x) (h.start ∙ same)
            ∙ ap (λ m. unit_entry n m at.failing x) (h.ending ∙ ap (λ m. ending_at list m u x) same)
            ∙ ap (λ m. unit_entry n (ending_at list n u x) m x) (h.failing ∙ ap (λ m. failing_at list m u x) same));
        members = members_more us v ∙ ap (λ (ns : List (List ℕ)). told.member_names us ++ ns ∷ []) is.members;
        kinds = λ ks g.
            kinds_more ks us v
            ∙ ap (λ (y : UnitKinds). unit_kinds ks us ++ kinds_by ks y ∷ []) is.kinds
            ∙ ap (λ (y : shapes.UnitKinds). unit_kinds ks us ++ y ∷ []) (kinds_stay ranges a b x kinds ks given (grows_then b.kinds c.kinds ks h.kinds g));
      })

  units_none : (a : Emitted) (us : List UnitCode) (u : ℕ) → LaysUnits list a us a us u []
  units_none a us u =
      record {
        marks = sym (append-nil a.marks);
        grown = grows_not a.kinds;
        entries = sym (append-nil (units_of us));
        members = sym (append-nil (told.member_names us));
        kinds = λ ks g. sym (append-nil (unit_kinds ks us));
      }

  -- a unit, and those behind it
  units_both : (a b c : Emitted) (us vs ws : List UnitCode) (u : ℕ) (x : TypedUnit) (xs : List TypedUnit) → LaysUnits list a us b vs u (x ∷ []) → LaysUnits list b vs c ws (suc u) xs → LaysUnits list a us c ws u (x ∷ xs)
  units_both a b c us vs ws u x xs h k =
      let n = length a.marks in
      let ranges = (globals_of list).ranges in
      let code = whole_unit_code list n u x in
      let first : b.marks ≡ a.marks ++ code = h.marks ∙ ap (λ (l : List Marked). a.marks ++ l) (append-nil code) in
      let long : length b.marks ≡ unit_end list n u x = ap length first ∙ length-append a.marks code ∙ unit_sized n u x in
      record {
        marks =
            k.marks
            ∙ ap (λ m. b.marks ++ units_code list m (suc u) xs) long
            ∙ ap (λ (l : List Marked). l ++ units_code list (unit_end list n u x) (suc u) xs) first
            ∙ append_assoc a.marks code (units_code list (unit_end list n u x) (suc u) xs);
        grown = grows_then a.kinds b.kinds c.kinds h.grown k.grown;
        entries =
            k.entries
            ∙ ap (λ m. units_of vs ++ unit_entries list m (suc u) xs) long
            ∙ ap (λ (l : List machine.UnitCode). l ++ unit_entries list (unit_end list n u x) (suc u) xs) h.entries
            ∙ append_assoc (units_of us) (unit_entries list n u (x ∷ [])) (unit_entries list (unit_end list n u x) (suc u) xs);
        members =
            k.members
            ∙ ap (λ (l : List (List (List ℕ))). l ++ names_of_members xs) h.members
            ∙ append_assoc (told.member_names us) (names_of_members (x ∷ [])) (names_of_members xs);
        kinds = λ ks g.
            k.kinds ks g
            ∙ ap (λ (l : List shapes.UnitKinds). l ++ kinds_of_units ranges xs) (h.kinds ks (grows_then b.kinds c.kinds ks k.grown g))
            ∙ append_assoc (unit_kinds ks us) (kinds_of_units ranges (x ∷ [])) (kinds_of_units ranges xs);
      }

  -- Along a row: what was laid out, and what is left from a number on, are all.
  abbrev pub Leads : Emitted → List UnitCode → Emitted → List UnitCode → List TypedUnit → ℕ → List TypedUnit → Type 0
  Leads first us now vs all u left = (e : Emitted) (ws : List UnitCode) → LaysUnits list now vs e ws u left → LaysUnits list first us e ws 0 all

  pub leads_on : (first a b : Emitted) (us vs ws : List UnitCode) (all left rest : List TypedUnit) (u : ℕ) (x : TypedUnit) → left ≡ x ∷ rest → Leads first us a vs all u left → LaysUnits list a vs b ws u (x ∷ []) → Leads first us b ws all (u + 1) rest
  leads_on first a b us vs ws all left rest u x is lead h e os later =
      let n : u + 1 ≡ suc u = omega arith in
      lead e os (subst (λ (l : List TypedUnit). LaysUnits list a vs e os u l) (sym is) (units_both a b e vs ws os u x rest h (subst (λ m. LaysUnits list b ws e os m rest) n later)))

  pub leads_to : (first a : Emitted) (us vs : List UnitCode) (all left : List TypedUnit) (u : ℕ) → left ≡ [] → Leads first us a vs all u left → LaysUnits list first us a vs 0 all
  leads_to first a us vs all left u none lead = lead a vs (subst (λ (l : List TypedUnit). LaysUnits list a vs a vs u l) (sym none) (units_none a vs u))

  -- the same of starters
  abbrev pub StartersLead : Emitted → Emitted → List TypedUnit → ℕ → List TypedUnit → Type 0
  StartersLead first now all u left = (e : Emitted) → AddsStarters list now e u left → AddsStarters list first e 0 all

  pub starters_on : (first a b : Emitted) (all left rest : List TypedUnit) (u : ℕ) (x : TypedUnit) (s : Shape) → left ≡ x ∷ rest → StartersLead first a all u left → Adds a b (starter_code list u x) s → StartersLead first b all (u + 1) rest
  starters_on first a b all left rest u x s is lead h e later =
      let n : u + 1 ≡ suc u = omega arith in
      let code = starter_code list u x in
      lead e
      (subst (λ (l : List TypedUnit). AddsStarters list a e u l) (sym is)
      (record {
        marks =
            later.marks
            ∙ ap (λ m. b.marks ++ starters_code list m rest) n
            ∙ ap (λ (l : List Marked). l ++ starters_code list (suc u) rest) h.marks
            ∙ append_assoc a.marks code (starters_code list (suc u) rest);
        kinds = grows_then a.kinds b.kinds e.kinds h.kinds later.kinds;
      }))

  pub starters_to : (first a : Emitted) (all left : List TypedUnit) (u : ℕ) → left ≡ [] → StartersLead first a all u left → AddsStarters list first a 0 all
  starters_to first a all left u none lead =
      lead a (subst (λ (l : List TypedUnit). AddsStarters list a a u l) (sym none) (record { marks = sym (append-nil a.marks); kinds = grows_not a.kinds }))
