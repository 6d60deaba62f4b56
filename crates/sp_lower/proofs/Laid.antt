-- Bodies, as they are laid out one behind another.
use Rattle.std.proofs.Common.{◌≡◌, ◌+◌, ℕ, List, [], ◌∷◌, ◌++◌, append_assoc, append-nil, length, refl, sym, ap, subst, ◌∙◌, arith, length-append, Vec, Global}
use Rattle.sp_value.specs.Val.{Val}
use Rattle.sp_methods.specs.Kinds.{Kind}
use Rattle.sp_typed.specs.Stmts.{Stmt}
use Rattle.sp_meaning.specs.Globals.{Globals}
use Rattle.sp_code_meaning.specs.Layouts.{Layout}
use Rattle.sp_code.specs.declared.program.BodyCode.{BodyCode}
use Rattle.sp_code.specs.Machine.{Body}
use Rattle.sp_code.specs.Shapes.{Shape, BodyKinds, body_shape}
use Rattle.sp_code.specs.Programs.{bodies_of, kind_at, kinds_at, round_of, body_kinds}
use Rattle.sp_code_programs.specs.exprs.Marked.{Marked}
use Rattle.sp_code_programs.specs.units.Bodies.{body_code}
use Rattle.sp_emit.specs.Emitted.{Emitted, TurnsTo}
use Rattle.sp_emit.proofs.Growing.{grows_not, grows_then, kinds_before}
use Rattle.sp_lower_expr.specs.declared.around.Around.{Around}
use Rattle.sp_lower_expr.specs.Around.{globals_in, layout_in}
use Rattle.sp_lower_stmt.specs.declared.bodies.Frame.{Frame}
use Rattle.sp_lower_stmt.specs.Added.{AddsRoutine}
use Rattle.sp_code_programs.specs.programs.Routines.{Routine, routine_size, entry_at, local_kinds, routine_code}
use Rattle.sp_code_programs.specs.programs.Programs.{routines_size, entries_from, kinds_of_locals, routines_code}
use Rattle.sp_law_programs.proofs.program_laid_lemmas.Routines.{routines_sized}
use Rattle.sp_lower.specs.declared.bodies.Bodies.{Bodies}
use Rattle.sp_lower.specs.inside.Laid.{entry_of, placed_at, FrameStands, IsRoutine, Lays}

bodies_more : (bs : List BodyCode) (b : BodyCode) → bodies_of (bs ++ b ∷ []) ≡ bodies_of bs ++ entry_of b ∷ []
bodies_more [] b = refl
bodies_more (c ∷ bs) b = ap (λ (l : List Body). entry_of c ∷ l) (bodies_more bs b)

abbrev kinds_with : List Kind → BodyKinds
kinds_with l = record { locals = l }

abbrev kinds_of : List Kind → List ℕ → BodyKinds
kinds_of ks ns = kinds_with (kinds_at ks ns)

locals_more : (ks : List Kind) (vs : List (Vec ℕ Global)) (v : Vec ℕ Global) → body_kinds ks (vs ++ v ∷ []) ≡ body_kinds ks vs ++ kinds_of ks v.items ∷ []
locals_more ks [] v = refl
locals_more ks (w ∷ vs) v = ap (λ (l : List BodyKinds). kinds_of ks w.items ∷ l) (locals_more ks vs v)

-- sums of sizes
none_on : (a : ℕ) → a ≡ a + 0
none_on a = omega arith

sums : (a b c : ℕ) → a + b + c ≡ a + (b + c)
sums a b c = omega arith

module _ (globals : Globals) where
  -- bodies behind other bodies
  code_both : (rs qs : List Routine) (at : ℕ) → routines_code globals at (rs ++ qs) ≡ routines_code globals at rs ++ routines_code globals (at + routines_size rs) qs
  code_both [] qs at = ap (λ n. routines_code globals n qs) (none_on at)
  code_both (r ∷ rs) qs at =
      let next = at + routine_size r in
      let e = sums at (routine_size r) (routines_size rs) in
      ap (λ (l : List Marked). routine_code globals at r ++ l) (code_both rs qs next ∙ ap (λ n. routines_code globals next rs ++ routines_code globals n qs) e)
      ∙ sym (append_assoc (routine_code globals at r) (routines_code globals next rs) (routines_code globals (at + (routine_size r + routines_size rs)) qs))

  entries_both : (rs qs : List Routine) (at : ℕ) → entries_from at (rs ++ qs) ≡ entries_from at rs ++ entries_from (at + routines_size rs) qs
  entries_both [] qs at = ap (λ n. entries_from n qs) (none_on at)
  entries_both (r ∷ rs) qs at =
      let next = at + routine_size r in
      let e = sums at (routine_size r) (routines_size rs) in
      ap (λ (l : List Body). entry_at at r ∷ l) (entries_both rs qs next ∙ ap (λ n. entries_from next rs ++ entries_from n qs) e)

  locals_both : (rs qs : List Routine) → kinds_of_locals (rs ++ qs) ≡ kinds_of_locals rs ++ kinds_of_locals qs
  locals_both [] qs = refl
  locals_both (r ∷ rs) qs = ap (λ (l : List BodyKinds). local_kinds r ∷ l) (locals_both rs qs)

  lays_none : (a : Emitted) (p : Bodies) → Lays globals a p a p []
  lays_none a p =
      record {
        marks = sym (append-nil a.marks);
        kinds = grows_not a.kinds;
        entries = sym (append-nil (bodies_of p.entries.items));
        locals = λ ks g. sym (append-nil (body_kinds ks p.locals.items));
      }

  pub lays_long : (a b : Emitted) (p q : Bodies) (rs : List Routine) → Lays globals a p b q rs → length b.marks ≡ length a.marks + routines_size rs
  lays_long a b p q rs h =
      ap length h.marks ∙ length-append a.marks (routines_code globals (length a.marks) rs) ∙ ap (λ n. length a.marks + n) (routines_sized globals rs (length a.marks))

  pub lays_both : (a b c : Emitted) (x y z : Bodies) (rs qs : List Routine) → Lays globals a x b y rs → Lays globals b y c z qs → Lays globals a x c z (rs ++ qs)
  lays_both a b c x y z rs qs h k =
      let at = length a.marks in
      let long = lays_long a b x y rs h in
      let code = routines_code globals at rs in
      let entries = entries_from at rs in
      record {
        marks =
            k.marks
            ∙ ap (λ (l : List Marked). l ++ routines_code globals (length b.marks) qs) h.marks
            ∙ append_assoc a.marks code (routines_code globals (length b.marks) qs)
            ∙ ap (λ n. a.marks ++ (code ++ routines_code globals n qs)) long
            ∙ ap (λ (l : List Marked). a.marks ++ l) (sym (code_both rs qs at));
        kinds = grows_then a.kinds b.kinds c.kinds h.kinds k.kinds;
        entries =
            k.entries
            ∙ ap (λ (l : List Body). l ++ entries_from (length b.marks) qs) h.entries
            ∙ append_assoc (bodies_of x.entries.items) entries (entries_from (length b.marks) qs)
            ∙ ap (λ n. bodies_of x.entries.items ++ (entries ++ entries_from n qs)) long
            ∙ ap (λ (l : List Body). bodies_of x.entries.items ++ l) (sym (entries_both rs qs at));
        locals = λ ks g.
            k.locals ks g
            ∙ ap (λ (l : List BodyKinds). l ++ kinds_of_locals qs) (h.locals ks (grows_then b.kinds c.kinds ks k.kinds g))
            ∙ append_assoc (body_kinds ks x.locals.items) (kinds_of_locals rs) (kinds_of_locals qs)
            ∙ ap (λ (l : List BodyKinds). body_kinds ks x.locals.items ++ l) (sym (locals_both rs qs));
      }

  -- bodies behind another shape
  pub turn_lays : (a b c : Emitted) (x y : Bodies) (rs : List Routine) → TurnsTo a b a.now → Lays globals b x c y rs → Lays globals a x c y rs
  turn_lays a b c x y rs t h =
      record {
        marks = h.marks ∙ ap (λ (l : List Marked). l ++ routines_code globals (length l) rs) t.marks;
        kinds = grows_then a.kinds b.kinds c.kinds t.kinds h.kinds;
        entries = h.entries ∙ ap (λ (l : List Marked). bodies_of x.entries.items ++ entries_from (length l) rs) t.marks;
        locals = h.locals;
      }

  -- Along a row: what was laid out, and what is left, are all.
  abbrev pub Leads : Emitted → Bodies → Emitted → Bodies → List Routine → List Routine → Type 0
  Leads first x now y all left = (e : Emitted) (b : Bodies) → Lays globals now y e b left → Lays globals first x e b all

  pub leads_on : (first a b : Emitted) (x y z : Bodies) (all left rest : List Routine) (r : Routine) → left ≡ r ∷ rest → Leads first x a y all left → Lays globals a y b z (r ∷ []) → Leads first x b z all rest
  leads_on first a b x y z all left rest r is lead h e w later =
      lead e w (subst (λ (l : List Routine). Lays globals a y e w l) (sym is) (lays_both a b e y z w (r ∷ []) rest h later))

  pub leads_to : (first a : Emitted) (x y : Bodies) (all left : List Routine) → left ≡ [] → Leads first x a y all left → Lays globals first x a y all
  leads_to first a x y all left none lead = lead a y (subst (λ (l : List Routine). Lays globals a y a y l) (sym none) (lays_none a y))

-- one body, by what was done
pub laid : (x : Around) (a b : Emitted) (p q : Bodies) (frame : Frame) (e entry : BodyCode) (s : Stmt) (r : Routine) (start : ℕ) (ns : Vec ℕ Global) → IsRoutine x a.kinds frame e s r → FrameStands (length a.kinds) frame
    → start ≡ length a.marks → entry_of entry ≡ placed_at start (entry_of e) → ns.items ≡ frame.locals.items → q.entries.items ≡ p.entries.items ++ entry ∷ [] → q.locals.items ≡ p.locals.items ++ ns ∷ []
    → AddsRoutine x a b (body_shape frame.unit (round_of a.kinds frame.round) (kinds_at a.kinds frame.locals.items)) frame.ending (kind_at a.kinds frame.kind) s → Lays (globals_in x) a p b q (r ∷ [])
laid x a b p q frame e entry s r start ns is stands here placed copied entries locals h =
    let g = globals_in x in
    let at = length a.marks in
    let begun = body_shape frame.unit (round_of a.kinds frame.round) (kinds_at a.kinds frame.locals.items) in
    let k = kind_at a.kinds frame.kind in
    let code : body_code g (layout_in x) begun at frame.ending k s ≡ routine_code g at r =
    ap (λ (l : Layout). body_code g l begun at frame.ending k s) is.layout
    ∙ ap (λ (t : Shape). body_code g r.layout t at frame.ending k s) is.shape
    ∙ ap (λ (v : Val). body_code g r.layout r.shape at v k s) is.ending
    ∙ ap (λ (j : Kind). body_code g r.layout r.shape at r.ending j s) is.result
    ∙ ap (λ (b : Stmt). body_code g r.layout r.shape at r.ending r.result b) is.body in
    record {
      marks = h.marks ∙ ap (λ (l : List Marked). a.marks ++ l) (code ∙ sym (append-nil (routine_code g at r)));
      kinds = h.kinds;
      entries =
          ap bodies_of entries
          ∙ bodies_more p.entries.items entry
          ∙ ap (λ (y : Body). bodies_of p.entries.items ++ y ∷ []) (placed ∙ is.entry start)
          ∙ ap (λ n. bodies_of p.entries.items ++ entry_at n r ∷ []) here;
      locals = λ ks grown.
          ap (body_kinds ks) locals
          ∙ locals_more ks p.locals.items ns
          ∙ ap (λ (l : List Kind). body_kinds ks p.locals.items ++ kinds_with l ∷ [])
          (ap (kinds_at ks) copied ∙ kinds_before a.kinds ks frame.locals.items (grows_then a.kinds b.kinds ks h.kinds grown) stands.locals ∙ ap (λ (t : Shape). t.locals) is.shape);
    }
