-- A statement passes where its test says so.
use Rattle.std.proofs.Common.{◌≡◌, ℕ, ◌+◌, Bool, true, ◌&&◌, Some}
use Rattle.std.specs.Prelude.{slice_get, is_some}
use Rattle.std.proofs.lemmas.Bool.{and_parts}
use Rattle.sp_types.specs.Types.{Ty}
use Rattle.sp_typed.specs.Exprs.{type_of}
use Rattle.sp_typed.specs.Stmts.{Stmt, Stmts, Branches, Cases, bare, valued, assign, print, block, branch, while_loop, for_loop, switch, no_stmts, more_stmts, no_branches, more_branches, no_cases, more_cases}
use Rattle.sp_typed_units.specs.declared.declarations.Typed.{Typed}
use Rattle.sp_meaning_states.specs.Types.{kind_of_type}
use Rattle.sp_meaning.specs.Globals.{Globals}
use Rattle.sp_code_meaning.specs.Layouts.{Layout}
use Rattle.sp_code_meaning.specs.Exprs.{slot_local}
use Rattle.sp_code.specs.Machine.{Plain}
use Rattle.sp_code.specs.Shapes.{Round, Shapes}
use Rattle.sp_law_code.specs.bodies.Fits.{StmtsFit, BranchesFit, CasesFit}
use Rattle.sp_law_programs.specs.finished_bodies.Built.{StmtsAreBuilt, BranchesAreBuilt, CasesAreBuilt}
use Rattle.sp_lower_stmt.specs.Literals.{StmtsLiteralsFit, BranchesLiteralsFit, CasesLiteralsFit}
use Rattle.sp_law_meaning.specs.Standing.{StmtsStand, BranchesStand, CasesStand}
use Rattle.sp_law_programs.specs.program_laid.Places.{StmtsChangePlaces, BranchesChangePlaces, CasesChangePlaces}
use Rattle.sp_law_lists.specs.fit_expr.Around.{globals_in, locals_in}
use Rattle.sp_law_lists.specs.fit_expr.Passes.{Tables}
use Rattle.sp_law_lists.specs.fit_expr.Test.{expr_passes, place_passes}
use Rattle.sp_law_lists.proofs.fit_expr_lemmas.Sound.{expr_sound, exprs_sound, place_sound}
use Rattle.sp_law_lists.specs.fit_body.Bodies.{Body, round_in}
use Rattle.sp_law_lists.specs.fit_body.Passes.{StmtPasses}
use Rattle.sp_law_lists.specs.fit_body.Test.{goes_over, assigns, slot_is, test_passes, values_pass, stmt_passes, stmts_pass, branches_pass, cases_pass}
use Rattle.sp_law_lists.proofs.fit_body_lemmas.OfKinds.{over_kinds, assigned_kinds}
use Rattle.sp_law_lists.proofs.fit_body_lemmas.Straight.{slot_kind, test_sound, values_sound, bare_sound, valued_sound}

module _ (body : Body) where
  abbrev list : Typed
  list = body.around.list

  abbrev globals : Globals
  globals = globals_in body.around

  abbrev layout : Layout
  layout = body.around.places

  abbrev round : Round
  round = round_in globals.ranges body.returns

  -- what is asked of rows, as of a statement
  record StmtsPass (in_loop : Bool) (ss : Stmts) : Type 0 where
    fits : (p : Plain) (shapes : Shapes) → Tables list p shapes → StmtsFit p shapes globals layout (locals_in body.around) body.around.unit round in_loop ss
    built : StmtsAreBuilt globals list.functions ss
    literals : StmtsLiteralsFit ss
    stands : StmtsStand (is_some layout.offset) list.functions ss
    places : StmtsChangePlaces ss

  record BranchesPass (in_loop : Bool) (bs : Branches) : Type 0 where
    fits : (p : Plain) (shapes : Shapes) → Tables list p shapes → BranchesFit p shapes globals layout (locals_in body.around) body.around.unit round in_loop bs
    built : BranchesAreBuilt globals list.functions bs
    literals : BranchesLiteralsFit bs
    stands : BranchesStand (is_some layout.offset) list.functions bs
    places : BranchesChangePlaces bs

  record CasesPass (in_loop : Bool) (l : ℕ) (cs : Cases) : Type 0 where
    fits : (p : Plain) (shapes : Shapes) → Tables list p shapes → CasesFit p shapes globals layout (locals_in body.around) body.around.unit round in_loop l cs
    built : CasesAreBuilt globals list.functions cs
    literals : CasesLiteralsFit cs
    stands : CasesStand (is_some layout.offset) list.functions cs
    places : CasesChangePlaces cs

  mutual
    pub stmt_sound : (in_loop : Bool) (s : Stmt) → stmt_passes body in_loop s ≡ true → StmtPasses list layout (locals_in body.around) body.around.unit round in_loop s
    stmt_sound in_loop (bare m) h =
        let q = bare_sound body in_loop m.op h in
        record { fits = λ p shapes tables. q.fits p shapes; built = q.built; literals = tt; stands = tt; places = tt }
    stmt_sound in_loop (valued m e) h =
        let q = valued_sound body m.op e h in
        record { fits = q.fits; built = q.built; literals = q.literals; stands = q.stands; places = (q.target, q.places) }
    stmt_sound in_loop (assign m target e) h =
        let q = and_parts (place_passes body.around (slot_local layout m.owner) target && expr_passes body.around e) (assigns m.op (type_of target) (type_of e)) h in
        let r = and_parts (place_passes body.around (slot_local layout m.owner) target) (expr_passes body.around e) q.0 in
        let t = place_sound body.around (slot_local layout m.owner) target r.0 in
        let v = expr_sound body.around e r.1 in
        record {
          fits = λ p shapes tables. (t.fits p shapes tables, v.fits p shapes tables, assigned_kinds globals.ranges m.op (type_of target) (type_of e) q.1);
          built = (t.built, v.built);
          literals = (t.literals, v.literals);
          stands = (t.stands, v.stands);
          places = (t.place, t.places, v.places);
        }
    stmt_sound in_loop (print at es) h =
        let q = exprs_sound body.around es h in
        record { fits = q.fits; built = q.built; literals = q.literals; stands = q.stands; places = q.places }
    stmt_sound in_loop (block ss) h =
        let q = stmts_sound in_loop ss h in
        record { fits = q.fits; built = q.built; literals = q.literals; stands = q.stands; places = q.places }
    stmt_sound in_loop (branch bs b) h =
        let q = and_parts (branches_pass body in_loop bs) (stmt_passes body in_loop b) h in
        let r = branches_sound in_loop bs q.0 in
        let s = stmt_sound in_loop b q.1 in
        record {
          fits = λ p shapes tables. (r.fits p shapes tables, s.fits p shapes tables);
          built = (r.built, s.built);
          literals = (r.literals, s.literals);
          stands = (r.stands, s.stands);
          places = (r.places, s.places);
        }
    stmt_sound in_loop (while_loop e b) h =
        let q = and_parts (test_passes body.around e) (stmt_passes body true b) h in
        let t = test_sound body.around e q.0 in
        let s = stmt_sound true b q.1 in
        record {
          fits = λ p shapes tables. ((t.0.fits p shapes tables, t.1), s.fits p shapes tables);
          built = (t.0.built, s.built);
          literals = (t.0.literals, s.literals);
          stands = (t.0.stands, s.stands);
          places = (t.0.places, s.places);
        }
    stmt_sound in_loop (for_loop m e b) h =
        let q = and_parts (expr_passes body.around e && goes_over (type_of e) m.ty && slot_is body.around m.slot m.ty) (stmt_passes body true b) h in
        let r = and_parts (expr_passes body.around e && goes_over (type_of e) m.ty) (slot_is body.around m.slot m.ty) q.0 in
        let o = and_parts (expr_passes body.around e) (goes_over (type_of e) m.ty) r.0 in
        let v = expr_sound body.around e o.0 in
        let s = stmt_sound true b q.1 in
        record {
          fits = λ p shapes tables. (v.fits p shapes tables, over_kinds globals.ranges (type_of e) m.ty o.1, slot_kind body.around m.slot m.ty r.1, s.fits p shapes tables);
          built = (v.built, s.built);
          literals = (v.literals, s.literals);
          stands = (v.stands, s.stands);
          places = (v.places, s.places);
        }
    stmt_sound in_loop (switch slot e cs b) h =
        let q = and_parts (expr_passes body.around e && slot_is body.around slot (type_of e) && cases_pass body in_loop (type_of e) cs) (stmt_passes body in_loop b) h in
        let r = and_parts (expr_passes body.around e && slot_is body.around slot (type_of e)) (cases_pass body in_loop (type_of e) cs) q.0 in
        let o = and_parts (expr_passes body.around e) (slot_is body.around slot (type_of e)) r.0 in
        let v = expr_sound body.around e o.0 in
        let kept = slot_kind body.around slot (type_of e) o.1 in
        let c = cases_sound in_loop (layout.first + slot) (type_of e) kept cs r.1 in
        let s = stmt_sound in_loop b q.1 in
        record {
          fits = λ p shapes tables. (v.fits p shapes tables, kept, c.fits p shapes tables, s.fits p shapes tables);
          built = (v.built, c.built, s.built);
          literals = (v.literals, c.literals, s.literals);
          stands = (v.stands, c.stands, s.stands);
          places = (v.places, c.places, s.places);
        }

    stmts_sound : (in_loop : Bool) (ss : Stmts) → stmts_pass body in_loop ss ≡ true → StmtsPass in_loop ss
    stmts_sound in_loop no_stmts h = record { fits = λ p shapes tables. tt; built = tt; literals = tt; stands = tt; places = tt }
    stmts_sound in_loop (more_stmts b ss) h =
        let q = and_parts (stmt_passes body in_loop b) (stmts_pass body in_loop ss) h in
        let s = stmt_sound in_loop b q.0 in
        let r = stmts_sound in_loop ss q.1 in
        record {
          fits = λ p shapes tables. (s.fits p shapes tables, r.fits p shapes tables);
          built = (s.built, r.built);
          literals = (s.literals, r.literals);
          stands = (s.stands, r.stands);
          places = (s.places, r.places);
        }

    branches_sound : (in_loop : Bool) (bs : Branches) → branches_pass body in_loop bs ≡ true → BranchesPass in_loop bs
    branches_sound in_loop no_branches h = record { fits = λ p shapes tables. tt; built = tt; literals = tt; stands = tt; places = tt }
    branches_sound in_loop (more_branches e b bs) h =
        let q = and_parts (test_passes body.around e && stmt_passes body in_loop b) (branches_pass body in_loop bs) h in
        let o = and_parts (test_passes body.around e) (stmt_passes body in_loop b) q.0 in
        let t = test_sound body.around e o.0 in
        let s = stmt_sound in_loop b o.1 in
        let r = branches_sound in_loop bs q.1 in
        record {
          fits = λ p shapes tables. ((t.0.fits p shapes tables, t.1), s.fits p shapes tables, r.fits p shapes tables);
          built = (t.0.built, s.built, r.built);
          literals = (t.0.literals, s.literals, r.literals);
          stands = (t.0.stands, s.stands, r.stands);
          places = (t.0.places, s.places, r.places);
        }

    cases_sound : (in_loop : Bool) (l : ℕ) (t : Ty) → slice_get (locals_in body.around) l ≡ Some (kind_of_type globals.ranges t) → (cs : Cases) → cases_pass body in_loop t cs ≡ true → CasesPass in_loop l cs
    cases_sound in_loop l t is no_cases h = record { fits = λ p shapes tables. tt; built = tt; literals = tt; stands = tt; places = tt }
    cases_sound in_loop l t is (more_cases es b cs) h =
        let q = and_parts (values_pass body.around t es && stmt_passes body in_loop b) (cases_pass body in_loop t cs) h in
        let o = and_parts (values_pass body.around t es) (stmt_passes body in_loop b) q.0 in
        let v = values_sound body l t is es o.0 in
        let s = stmt_sound in_loop b o.1 in
        let r = cases_sound in_loop l t is cs q.1 in
        record {
          fits = λ p shapes tables. (v.fits p shapes tables, s.fits p shapes tables, r.fits p shapes tables);
          built = (v.built, s.built, r.built);
          literals = (v.literals, s.literals, r.literals);
          stands = (v.stands, s.stands, r.stands);
          places = (v.places, s.places, r.places);
        }
