-- What a typed list tells of conversions, by the fields at its sites.
use Rattle.std.specs.Prelude.{ℕ, List, [], ◌∷◌, Option, Some, None}
use Rattle.std.proofs.Common.{◌≡◌, ◌⊎◌, inl, inr, refl, sym, ap, subst, ◌∙◌}
use Rattle.sp_base.specs.declared.places.Span.{Span}
use Rattle.sp_ast.specs.Trees.{Tree}
use Rattle.sp_solver.specs.Rows.{Among}
use Rattle.sp_solver.specs.Told.{told}
use Rattle.sp_types.specs.Types.{Ty}
use Rattle.sp_typed_units.specs.declared.declarations.EndlessConversion.{EndlessConversion}
use Rattle.sp_type_context.specs.Contexts.{Around}
use Rattle.sp_type_fields.specs.Values.{Values}
use Rattle.sp_type_members.specs.Endless.{place_of}
use Rattle.sp_type_members.specs.Tries.{AreStored}
use Rattle.sp_type_hook_rows.specs.declared.sites.Holder.{Holder}
use Rattle.sp_type_hook_rows.specs.declared.sites.Holder.TheVariants as holder_is
use Rattle.sp_type_hook_rows.specs.declared.sites.Site.{Site}
use Rattle.sp_type_declarations.specs.Conversions.{endless_row, held_conversion, site_conversion, endless}
use Rattle.sp_law_rules.specs.Conversions.{Conversion, UnitField, conversions_of, IsEndless}
use Rattle.sp_law_rules.specs.ToldConversions.{held_field, field_at, ToldAreEndless, EndlessAreTold}
use Rattle.sp_law_rules.proofs.OpenConversions.{among_front, among_back, among_parts}
use Rattle.sp_law_rules.proofs.EndlessFields.{found, endless_found}

module _ (list : List Tree) (contexts : List Around) (v : Values) (types : List (Option Ty)) (stored : AreStored list contexts v types) where
  abbrev Endless : UnitField → Type 0
  Endless x = IsEndless list contexts v (told types) x

  -- what is told of a field in a module
  record Told (m : ℕ) (o : Option UnitField) (c : EndlessConversion) : Type 0 where
    field : UnitField
    is : o ≡ Some field
    there : c.«module» ≡ m
    conversion : Conversion
    own : Among (conversions_of list contexts v (told types) field) conversion
    place : conversion.place ≡ c.span
    circular : Endless field

  row_told : (m n : ℕ) (t : Tree) (o : Option Span) (c : EndlessConversion) → place_of list contexts v types n t ≡ o → Among (endless_row m o) c → Told m (held_field n (holder_is.Field t)) c
  row_told m n t None c e h = absurd h
  row_told m n t (Some at) c e (inr h) = absurd h
  row_told m n t (Some at) c e (inl is) =
      let x : UnitField = record { unit = n; tree = t } in
      let f = found list contexts v types stored x at e in
      record { field = x; is = refl; there = ap (λ (c : EndlessConversion). c.«module») (sym is); conversion = f.0.0; own = f.0.1; place = f.0.2 ∙ ap (λ (c : EndlessConversion). c.span) is; circular = f.1 }

  holder_told : (m n : ℕ) (h : Holder) (c : EndlessConversion) → Among (held_conversion list contexts v types m n h) c → Told m (held_field n h) c
  holder_told m n (holder_is.Field t) c h = row_told m n t (place_of list contexts v types n t) c refl h
  holder_told m n (holder_is.Declaration t) c h = absurd h
  holder_told m n (holder_is.Item t) c h = absurd h

  record AtSite (ss : List Site) (c : EndlessConversion) : Type 0 where
    site : Site
    among : Among ss site
    tells : Told site.«module» (field_at site) c

  all_told : (ss : List Site) (c : EndlessConversion) → Among (endless list contexts v types ss) c → AtSite ss c
  all_told [] c h = absurd h
  all_told (s ∷ ss) c h = by (λ h. all_told ss c h) (among_parts (site_conversion list contexts v types s) (endless list contexts v types ss) c h)
    where
      by : (Among (endless list contexts v types ss) c → AtSite ss c) → Among (site_conversion list contexts v types s) c ⊎ Among (endless list contexts v types ss) c → AtSite (s ∷ ss) c
      by rest (inl h) = record { site = s; among = inl refl; tells = holder_told s.«module» s.unit s.holder c h }
      by rest (inr h) = (let a = rest h in record { site = a.site; among = inr a.among; tells = a.tells })

  -- and all are told
  holder_row : (m n : ℕ) (h : Holder) (x : UnitField) → held_field n h ≡ Some x → Endless x → (at : Span) × Among (held_conversion list contexts v types m n h) (record { «module» = m; span = at })
  holder_row m n (holder_is.Field t) x is e =
      let field : UnitField = record { unit = n; tree = t } in
      let same : field ≡ x = cc in
      let h = endless_found list contexts v types stored field (subst (λ x. Endless x) (sym same) e) in
      (h.0, subst (λ o. Among (endless_row m o) (record { «module» = m; span = h.0 })) (sym h.1) (inl refl))
  holder_row m n (holder_is.Declaration t) x is e = cc
  holder_row m n (holder_is.Item t) x is e = cc

  all_rows : (ss : List Site) (s : Site) (x : UnitField) → Among ss s → field_at s ≡ Some x → Endless x → (at : Span) × Among (endless list contexts v types ss) (record { «module» = s.«module»; span = at })
  all_rows [] s x h is e = absurd h
  all_rows (r ∷ ss) s x (inl same) is e =
      let a = holder_row s.«module» s.unit s.holder x is e in
      (a.0, among_front (site_conversion list contexts v types r) (endless list contexts v types ss) (record { «module» = s.«module»; span = a.0 }) (subst (λ (y : Site). Among (site_conversion list contexts v types y) (record { «module» = s.«module»; span = a.0 })) (sym same) a.1))
  all_rows (r ∷ ss) s x (inr h) is e =
      let a = all_rows ss s x h is e in
      (a.0, among_back (site_conversion list contexts v types r) (endless list contexts v types ss) (record { «module» = s.«module»; span = a.0 }) a.1)

pub told_are_endless : ToldAreEndless
told_are_endless list contexts v types stored ss c h =
    let a = all_told list contexts v types stored ss c h in
    let t = a.tells in
    (a.site, a.among, t.field, t.is, t.there, t.conversion, t.own, t.place, t.circular)

pub endless_are_told : EndlessAreTold
endless_are_told list contexts v types stored ss s x h is e = all_rows list contexts v types stored ss s x h is e
