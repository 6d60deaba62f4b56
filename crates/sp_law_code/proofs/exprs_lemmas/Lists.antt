-- What is done with the values of a row of parts, which are the operands.
use Rattle.std.proofs.Common.{◌≡◌, ℕ, ◌+◌, ◌-◌, Bool, true, false, List, [], ◌∷◌, ◌++◌, length, take, drop, reverse, Option, Some, None, Result as Answer, Ok, Err, refl, sym, ap, ◌∙◌, subst, inl, inr}
use Rattle.std.specs.Prelude.{◌⊎◌, if◌then◌else◌}
use Rattle.std.proofs.Math.Seq.{take-append_seam, drop-append_seam}
use Rattle.sp_base.specs.declared.kinds.PKind.{PKind}
use Rattle.sp_numbers.specs.declared.width.Width.TheVariants.{W64}
use Rattle.sp_words.specs.declared.methods.Method.{Method}
use Rattle.sp_words.specs.declared.methods.Method.TheVariants.{ToUint, ToInt, ToUintOrder, ToIntOrder, Sub, StartsWith, Split, Split1, Lower, Upper, Decode, Encode, PushBack, PopBack, Front, Back, Get, GetOr}
use Rattle.sp_words.specs.Methods.{arity, changes}
use Rattle.sp_value.specs.Val.{Val, uint, bytes, str, enum, tuple, vector, vals_of}
use Rattle.sp_operators.specs.Operators.{cast}
use Rattle.sp_operators.specs.declared.plain_type.PlainType.TheVariants as plain
use Rattle.sp_methods.specs.Methods.{method}
use Rattle.sp_typed.specs.declared.words.ManyOp.{ManyOp}
use Rattle.sp_typed.specs.declared.words.ManyOp.TheVariants as many_is
use Rattle.sp_typed.specs.declared.words.UnitMethod.TheVariants as unit_method
use Rattle.sp_meaning_states.specs.States.{Reading, State, Gives, Result, ends, chosen, local_of, start_of}
use Rattle.sp_meaning_states.specs.Reads.{Ask, Read}
use Rattle.sp_meaning_states.specs.Values.{set_of, map_of}
use Rattle.sp_meaning.specs.Globals.{Globals}
use Rattle.sp_code_meaning.specs.Layouts.{Layout}
use Rattle.sp_meaning.specs.Operations.{given, converted, offset_from}
use Rattle.sp_code_meaning.specs.Exprs.{many_means}
use Rattle.sp_code.specs.declared.instr.Instr.{Instr}
use Rattle.sp_code.specs.declared.instr.Instr.TheVariants as does
use Rattle.sp_code.specs.Machine.{Frame, Plain, At, Goes, put_all, act, step}
use Rattle.sp_code.specs.Shapes.{Shape}
use Rattle.sp_code.specs.Runs.{Ways, leads, Runs}
use Rattle.sp_code_programs.specs.exprs.Marked.{Marked, mark}
use Rattle.sp_code_programs.specs.exprs.Code.{many_code, kept_offset, changing}
use Rattle.sp_law_code.specs.exprs.Parts.{IsCounted}
use Rattle.sp_law_code.specs.exprs.Laws.{CallsRun}
use Rattle.sp_law_code.proofs.exprs_lemmas.Steps.{Does, one, act_at, has_instr, gives, answers}

-- a method has as many operands as it takes, or it makes nothing of them
counted_or_nothing : (m : Method) (us : List Val) → (length us ≡ arity m) ⊎ (method m us ≡ Ok [])
counted_or_nothing ToUint (uint _ _ ∷ bytes _ ∷ []) = inl refl
counted_or_nothing ToInt (uint _ _ ∷ bytes _ ∷ []) = inl refl
counted_or_nothing ToUintOrder (enum _ _ ∷ bytes _ ∷ []) = inl refl
counted_or_nothing ToIntOrder (enum _ _ ∷ bytes _ ∷ []) = inl refl
counted_or_nothing Sub (uint _ _ ∷ uint _ _ ∷ bytes _ ∷ []) = inl refl
counted_or_nothing StartsWith (bytes _ ∷ bytes _ ∷ []) = inl refl
counted_or_nothing Split (bytes _ ∷ bytes _ ∷ []) = inl refl
counted_or_nothing Split1 (bytes _ ∷ bytes _ ∷ []) = inl refl
counted_or_nothing Lower (bytes _ ∷ []) = inl refl
counted_or_nothing Upper (bytes _ ∷ []) = inl refl
counted_or_nothing Decode (enum _ _ ∷ enum _ _ ∷ bytes _ ∷ []) = inl refl
counted_or_nothing Encode (str _ ∷ []) = inl refl
counted_or_nothing PushBack (_ ∷ _ ∷ []) = inl refl
counted_or_nothing PopBack (_ ∷ []) = inl refl
counted_or_nothing Front (_ ∷ []) = inl refl
counted_or_nothing Back (_ ∷ []) = inl refl
counted_or_nothing Get (_ ∷ _ ∷ []) = inl refl
counted_or_nothing GetOr (_ ∷ _ ∷ _ ∷ []) = inl refl
counted_or_nothing _ _ = inr refl

-- a node that is a method is one that changes its receiver
abbrev pub IsChanging : ManyOp → Type 0
IsChanging (many_is.Method m slot) = changes m ≡ true
IsChanging op = Unit {0}

pub take_all : (us vs : List Val) (n : ℕ) → length us ≡ n → take n (us ++ vs) ≡ us
take_all us vs n e = subst (λ k. take k (us ++ vs) ≡ us) e (take-append_seam us vs)

pub drop_all : (us vs : List Val) (n : ℕ) → length us ≡ n → drop n (us ++ vs) ≡ vs
drop_all us vs n e = subst (λ k. drop k (us ++ vs) ≡ vs) e (drop-append_seam us vs)

module _ (p : Plain) (reads : Reading → Ask → Read) where
  -- a value that is made of all
  makes : (pc : ℕ) (s : Shape) (i : Instr) (n : ℕ) (us : List Val) (f : List Val → Val) → length us ≡ n
      → ((vs : List Val) (fs : List Frame) (st : State) → act p reads (Some i) pc vs fs st ≡ Goes [] (At (pc + 1) (f (take n vs) ∷ drop n vs) fs st))
      → Does p reads pc (mark s i ∷ []) us (λ st. ends (Gives (f us)) st)
  makes pc s i n us f l h =
      gives p reads pc s i us (λ st. f us)
      (λ vs fs st. h (us ++ vs) fs st ∙ ap (λ ws. Goes [] (At (pc + 1) (f ws ∷ drop n (us ++ vs)) fs st)) (take_all us vs n l) ∙ ap (λ ws. Goes [] (At (pc + 1) (f us ∷ ws) fs st)) (drop_all us vs n l))

  -- a method that gives one value
  given_runs : (pc : ℕ) (ws vs : List Val) (x : Ways) (st : State) (r : Answer (List Val) PKind) → step p reads (At pc ws x.frames st) ≡ put_all r (pc + 1) vs x.frames st
      → Runs p reads (At pc ws x.frames st) (leads (pc + 1) vs x) (given r st)
  given_runs pc ws vs x st (Ok []) e = tt
  given_runs pc ws vs x st (Ok (v ∷ [])) e = one p reads _ [] _ e
  given_runs pc ws vs x st (Ok (v ∷ w ∷ us)) e = tt
  given_runs pc ws vs x st (Err kind) e = one p reads _ [] _ e

  given_does : (pc : ℕ) (s : Shape) (m : Method) (us : List Val) → Does p reads pc (mark s (does.Lib m) ∷ []) us (given (method m us))
  given_does pc s m us = cases (counted_or_nothing m us)
    where
      cases : (length us ≡ arity m) ⊎ (method m us ≡ Ok []) → Does p reads pc (mark s (does.Lib m) ∷ []) us (given (method m us))
      cases (inl l) = λ vs x st has. given_runs pc (us ++ vs) vs x st (method m us)
          (act_at p reads pc (us ++ vs) x.frames st (does.Lib m) (has_instr p reads pc s (does.Lib m) [] has)
          ∙ ap (λ ws. put_all (method m ws) (pc + 1) (drop (arity m) (us ++ vs)) x.frames st) (take_all us vs (arity m) l)
          ∙ ap (λ ws. put_all (method m us) (pc + 1) ws x.frames st) (drop_all us vs (arity m) l))
      cases (inr e) = subst (λ r. Does p reads pc (mark s (does.Lib m) ∷ []) us (given r)) (sym e) (λ vs x st has. tt)

  converts : (pc : ℕ) (s : Shape) (k : ℕ) (us : List Val) → Does p reads pc (mark s (does.Cast (plain.Enum k)) ∷ []) us (converted k us)
  converts pc s k [] = λ vs x st has. tt
  converts pc s k (v ∷ []) = answers p reads pc s (does.Cast (plain.Enum k)) (v ∷ []) (cast v (plain.Enum k)) (λ _ _ _. refl)
  converts pc s k (v ∷ w ∷ us) = λ vs x st has. tt

  offsets : (pc : ℕ) (s : Shape) (us : List Val) → Does p reads pc (mark s does.Offset ∷ []) us (offset_from us)
  offsets pc s [] = λ vs x st has. tt
  offsets pc s (u ∷ []) = gives p reads pc s does.Offset (u ∷ []) (λ st. uint W64 (st.now.place - start_of st u)) (λ _ _ _. refl)
  offsets pc s (v ∷ w ∷ us) = λ vs x st has. tt

  changes_or_not : (b : Bool) (pc : ℕ) (changed ms : List Marked) (change all : State → Result) → (b ≡ true → Does p reads pc changed [] change) → Does p reads pc ms [] all
      → Does p reads pc (if b then changed else ms) [] (λ st. chosen b change all st)
  changes_or_not true pc changed ms change all h g = h refl
  changes_or_not false pc changed ms change all h g = g

  -- the code of a row, by what is done with its values, and by the change of its receiver
  pub many_does : (globals : Globals) (call : ℕ → List Val → State → Result) (layout : Layout) → CallsRun p reads call
      → (op : ManyOp) (o : Option ℕ) (s t : Shape) (pc n : ℕ) (ms changed : List Marked) (all : (List Val → State → Result) → State → Result) (change : State → Result)
      → IsCounted p op n
      → ((go : List Val → State → Result) → ((us : List Val) → length us ≡ n → Does p reads (pc + length ms) (many_code globals layout t op n) us (go us)) → Does p reads pc (ms ++ many_code globals layout t op n) [] (all go))
      → (IsChanging op → Does p reads pc changed [] change)
      → Does p reads pc (kept_offset globals layout s op o (changing globals layout op changed (ms ++ many_code globals layout t op n))) [] (many_means globals call layout op o all change)
  many_does globals call layout calls many_is.Tuple o s t pc n ms changed all change counted made h =
      made (λ vs st. ends (Gives (tuple (vals_of (reverse vs)))) st) (λ us l. makes (pc + length ms) t (does.MakeTuple n) n us (λ vs. tuple (vals_of (reverse vs))) l (λ _ _ _. refl))
  many_does globals call layout calls many_is.Vector o s t pc n ms changed all change counted made h =
      made (λ vs st. ends (Gives (vector (vals_of (reverse vs)))) st) (λ us l. makes (pc + length ms) t (does.MakeVector n) n us (λ vs. vector (vals_of (reverse vs))) l (λ _ _ _. refl))
  many_does globals call layout calls many_is.Set o s t pc n ms changed all change counted made h =
      made (λ vs st. ends (Gives (set_of (reverse vs))) st) (λ us l. makes (pc + length ms) t (does.MakeSet n) n us (λ vs. set_of (reverse vs)) l (λ _ _ _. refl))
  many_does globals call layout calls many_is.Map o s t pc n ms changed all change counted made h =
      made (λ vs st. ends (Gives (map_of (reverse vs))) st) (λ us l. makes (pc + length ms) t (does.MakeMap n) n us (λ vs. map_of (reverse vs)) l (λ _ _ _. refl))
  many_does globals call layout calls (many_is.Call f) o s t pc n ms changed all change counted made h =
      made (call f) (λ us l vs x st has. calls f (pc + length ms) counted.0 us vs x st (has_instr p reads (pc + length ms) t (does.Call f) [] has) counted.1 (l ∙ counted.2))
  many_does globals call layout calls (many_is.Convert k) o s t pc n ms changed all change counted made h =
      made (converted k) (λ us l. converts (pc + length ms) t k us)
  many_does globals call layout calls (many_is.Method m slot) o s t pc n ms changed all change counted made h =
      changes_or_not (changes m) pc changed (ms ++ mark t (does.Lib m) ∷ []) change (all (λ vs st. given (method m vs) st)) h
      (made (λ vs st. given (method m vs) st) (λ us l. given_does (pc + length ms) t m us))
  many_does globals call layout calls (many_is.OfUnit unit_method.Offset at) (Some l) s t pc n ms changed all change counted made h =
      gives p reads pc s (does.Load l) [] (λ st. local_of st l) (λ _ _ _. refl)
  many_does globals call layout calls (many_is.OfUnit unit_method.Offset at) None s t pc n ms changed all change counted made h =
      made offset_from (λ us l. offsets (pc + length ms) t us)
  many_does globals call layout calls (many_is.OfUnit _ at) o s t pc n ms changed all change counted made h = λ vs x st has. tt
  many_does globals call layout calls _ o s t pc n ms changed all change counted made h = λ vs x st has. tt
