-- What each call of a session makes of what the session stands for.
use Rattle.std.proofs.Common.{◌≡◌, ◌≢◌, ℕ, ◌-◌, List, [], ◌∷◌, ◌++◌, length, drop, refl, sym, ap, ◌∙◌, subst, arith, length-drop}
use Rattle.std.proofs.lemmas.List.{drop_at, drop_all}
use Rattle.std.specs.Prelude.{min, reverse}
use Rattle.sp_base.specs.Input.{Close, held_open, ended}
use Rattle.sp_base.specs.declared.places.Limits.{Limits}
use Rattle.sp_events.specs.declared.event.Event.{Event}
use Rattle.sp_events.specs.declared.event.What.{What}
use Rattle.sp_typed_units.specs.declared.declarations.Typed.{Typed}
use Rattle.sp_value.specs.Val.{Val}
use Rattle.sp_window.specs.Windows.{Held}
use Rattle.sp_meaning_states.specs.States.{State, End, Failed, Returned, Backs, Rejected, Need, Result, Ends, end_of, events_of}
use Rattle.sp_meaning_states.specs.Telling.{Names}
use Rattle.sp_code.specs.declared.program.Program.{Program}
use Rattle.sp_code.specs.Machine.{Frame, Plain, Config, At, Ending, Next, Waits, Over, step, low_of}
use Rattle.sp_code.specs.Programs.{names_of, plain_of, shapes_of}
use Rattle.sp_code.specs.Shapes.{Shaped}
use Rattle.sp_code.specs.Runs.{Comes}
use Rattle.sp_law_machine.specs.ends.Ending.{IsStop}
use Rattle.sp_meaning.specs.Names.{value_names_of}
use Rattle.sp_code_programs.specs.programs.Whole.{starter_at}
use Rattle.sp_law_programs.specs.unit_told.Told.{told_end, Tells}
use Rattle.sp_law_programs.specs.unit_told.Told as results
use Rattle.sp_fiber.specs.declared.phase.Phase.{Phase as FiberPhase}
use Rattle.sp_fiber.specs.declared.phase.Phase.TheVariants as fiber_is
use Rattle.sp_fiber.specs.Moves.{whole_reads, frames_of, IsWaiting, IsOver}
use Rattle.sp_fiber.specs.Fibers.{Suspended, started, HasRun, Fed, Closed}
use Rattle.sp_fiber.specs.Fibers as fibers
use Rattle.sp_meaning.specs.declared.stand.Stand.{Stand}
use Rattle.sp_meaning.specs.declared.stand.Stand.TheVariants as stand_is
use Rattle.sp_meaning.specs.Meaning.{Meaning, UnitMeaning, least, low}
use Rattle.sp_session.specs.declared.session.Phase.{Phase}
use Rattle.sp_session.specs.declared.session.Phase.TheVariants as phase_is
use Rattle.sp_session.specs.Units.{of_flow, last, points_of, unit_meaning}
use Rattle.sp_session.specs.Session.{Runs, start, IsLive, IsAt, told_in}
use Rattle.sp_session.specs.Telling.{HasStopped, HasTold, news, next_stand, IsFront, IsToldOn, IsToldInPart}
use Rattle.sp_session.proofs.Lawful.{same_names, stops_tell_unit, starts_shaped}
use Rattle.sp_law_meaning.specs.Standing.{ListStands}
use Rattle.sp_session.proofs.Laid.{laid_result, meaning_is}
use Rattle.sp_session.proofs.Meanings.{events_behind, stand_is_of, events_are_of, waiting_events, settled, settled_ended}

-- a fiber that has run has come to a stop
stops_at : (p : Plain) (s : List ℕ) (close : Close) (c : Config) (x : Next) → step p (whole_reads s close) c ≡ x → IsStop x → IsStop (step p (whole_reads s close) c)
stops_at p s close c x is h = subst IsStop (sym is) h

comes_in : (phase : FiberPhase) (p : Plain) (w : Held) (from at : Config) (s : List ℕ) (es : List What) → fibers.IsLive phase p w from at s es → HasRun phase
    → Comes p (whole_reads s held_open) from es at × IsStop (step p (whole_reads s held_open) at)
comes_in fiber_is.Waiting p w from at s es live run = (live.0, stops_at p s held_open at (Waits live.1.mark) live.1.waits tt)
comes_in fiber_is.Over p w from at s es live run = (live.0, stops_at p s held_open at (Over live.1.how live.1.state) live.1.over tt)
comes_in fiber_is.Fresh p w from at s es live run = absurd run
comes_in fiber_is.Ended p w from at s es live run = absurd run
comes_in fiber_is.Broken p w from at s es live run = absurd run

-- one that has run nothing has told nothing
fresh_in : (phase : FiberPhase) (p : Plain) (w : Held) (from at : Config) (s : List ℕ) (es : List What) → fibers.IsLive phase p w from at s es → phase ≡ fiber_is.Fresh → es ≡ []
fresh_in phase p w from at s es live is = (subst (λ x. fibers.IsLive x p w from at s es) is live).1

told_of : (close : Close) (f : Suspended) (from : Config) (s : List ℕ) (es : List What) (r : Result) → HasStopped close f from s es → Tells f.code (whole_reads s close) f.at es r → HasTold close f from s r
told_of close f from s es r stopped tells = record { stopped = subst (HasStopped close f from s) tells.events stopped; tells = subst (λ es. Tells f.code (whole_reads s close) f.at es r) tells.events tells }

module _ (list : Typed) (program : Program) (limits : Limits) (u : ℕ) where
  abbrev names : Names
  names = value_names_of list

  abbrev result : List ℕ → Close → Result
  result s close = laid_result list limits u s close

  abbrev meaning : UnitMeaning
  meaning = unit_meaning list limits u

  -- a fiber that has come to a stop has told the unit's result
  tells_at : Runs list program limits u → (f : Suspended) → f.code ≡ plain_of limits program → (s : List ℕ) (close : Close) (es : List What) → Comes f.code (whole_reads s close) (start list u) es f.at
      → IsStop (step f.code (whole_reads s close) f.at) → Tells f.code (whole_reads s close) f.at es (result s close)
  tells_at runs f code s close es comes stop =
      subst (λ p. Tells p (whole_reads s close) f.at es (result s close)) (sym code)
      (stops_tell_unit list program limits u runs s close f.at es (subst (λ p. Comes p (whole_reads s close) (start list u) es f.at) code comes) (subst (λ p. IsStop (step p (whole_reads s close) f.at)) code stop))

  abbrev HasToldUnit : Suspended → List ℕ → Close → List What → Type 0
  HasToldUnit f s close es = HasTold close f (start list u) s (result s close) × (events_of (result s close) ≡ es)

  told_open : Runs list program limits u → (f : Suspended) → f.code ≡ plain_of limits program → (s : List ℕ) (es : List What) → fibers.StandsFor f (start list u) s es → HasRun f.phase → HasToldUnit f s held_open es
  told_open runs f code s es stands run =
      let came = comes_in f.phase f.code f.window (start list u) f.at s es stands.live run in
      let tells = tells_at runs f code s held_open es came.0 came.1 in
      (told_of held_open f (start list u) s es (result s held_open) (stands, run) tells, sym tells.events)

  told_ended : Runs list program limits u → (f : Suspended) → f.code ≡ plain_of limits program → (s : List ℕ) (es : List What) → fibers.EndedFor f (start list u) s es → HasToldUnit f s ended es
  told_ended runs f code s es over =
      let tells = tells_at runs f code s ended es over.comes (stops_at f.code s ended f.at (Over over.over.how over.over.state) over.over.over tt) in
      (told_of ended f (start list u) s es (result s ended) over tells, sym tells.events)

  -- what is new over more of the input, by what was told before
  module _ (w : List ℕ) (close : Close) (es fs : List What) (is : events_of (result w close) ≡ es ++ fs) (stands : ListStands list) where
    abbrev AreNews : Stand → List Event → Type 0
    AreNews stand told = (news names (result w close) fs stand ≡ drop (length told) (meaning w close).events) × (next_stand (result w close) stand ≡ (meaning w close).stand)

    -- where the unit waited
    news_waiting : (told : List Event) → told ≡ of_flow es → AreNews stand_is.Waiting told
    news_waiting told front =
        let all = events_are_of list limits u stands w close ∙ events_behind names (result w close) es fs is in
        let rest = of_flow fs ++ last names (result w close) in (
          sym (drop_at (of_flow es) rest (length told) (ap (λ xs. length xs) (sym front))) ∙ sym (ap (drop (length told)) all),
          sym (stand_is_of list limits u stands w close),
        )

    -- where it was over
    all_told : (xs : List Event) → xs ≡ (meaning w close).events → [] ≡ drop (length xs) (meaning w close).events
    all_told xs same = sym (drop_all (length xs) (meaning w close).events (omega (arith, ap (λ xs. length xs) same)))

    module _ (s : List ℕ) (f : Suspended) (told : fibers.StandsFor f (start list u) s es) (settles : (meaning s held_open).stand ≢ stand_is.Waiting → meaning w close ≡ meaning s held_open) where
      same_events : (meaning s held_open).stand ≢ stand_is.Waiting → (meaning s held_open).events ≡ (meaning w close).events
      same_events final = ap (λ (m : Meaning). m.events) (sym (settles final))

      same_stand : (stand : Stand) → stand ≡ (meaning s held_open).stand → (meaning s held_open).stand ≢ stand_is.Waiting → stand ≡ (meaning w close).stand
      same_stand stand e final = e ∙ ap (λ (m : Meaning). m.stand) (sym (settles final))

      news_fed : (stand : Stand) → events_of (result s held_open) ≡ es → stand ≡ (meaning s held_open).stand → AreNews stand (meaning s held_open).events
      news_fed stand_is.Waiting all e = news_waiting (meaning s held_open).events (waiting_events list limits u stands s held_open es (sym e) all)
      news_fed stand_is.Done all e =
          let final : (meaning s held_open).stand ≢ stand_is.Waiting = λ waits. let q : stand_is.Done ≡ stand_is.Waiting = e ∙ waits in cc in
          (all_told (meaning s held_open).events (same_events final), same_stand stand_is.Done e final)
      news_fed (stand_is.Failed x) all e =
          let final : (meaning s held_open).stand ≢ stand_is.Waiting = λ waits. let q : stand_is.Failed x ≡ stand_is.Waiting = e ∙ waits in cc in
          (all_told (meaning s held_open).events (same_events final), same_stand (stand_is.Failed x) e final)

      news_live : Runs list program limits u → f.code ≡ plain_of limits program → (phase : Phase) (stand : Stand) → IsLive phase meaning stand f.phase s → AreNews stand (told_in phase meaning s)
      news_live runs code phase_is.Fresh stand live =
          let nothing = fresh_in f.phase f.code f.window (start list u) f.at s es told.live live.0 in
          subst (λ x. AreNews x []) (sym live.1) (news_waiting [] (sym (ap of_flow nothing)))
      news_live runs code phase_is.Fed stand live = news_fed stand (told_open runs f code s es told live.0).1 live.1
      news_live runs code phase_is.Ended stand live = absurd live
      news_live runs code phase_is.Broken stand live = absurd live

  -- a call, of what was before it
  module _ (phase : Phase) (stand : Stand) (f : Suspended) (s : List ℕ) (at : IsAt list program limits u phase stand f s) where
    abbrev told_before : List Event
    told_before = told_in phase meaning s

    abbrev next : List ℕ → Close → List Event
    next w close = drop (length told_before) (meaning w close).events

    module _ (g : Suspended) (code : g.code ≡ f.code) (none whats : List What) (nothing : none ≡ []) where
      code_is : g.code ≡ plain_of limits program
      code_is = code ∙ at.code

      -- what was told is new of the result
      module _ (w : List ℕ) (close : Close) (fs : List What) (told : whats ≡ none ++ fs) (h : HasToldUnit g w close (at.told ++ fs))
          (settles : (meaning s held_open).stand ≢ stand_is.Waiting → meaning w close ≡ meaning s held_open) where
        fs_are : fs ≡ whats
        fs_are = sym (told ∙ ap (λ xs. xs ++ fs) nothing)

        news_are : (news (names_of program) (result w close) whats stand ≡ next w close) × (next_stand (result w close) stand ≡ (meaning w close).stand)
        news_are =
            let n = news_live w close at.told fs h.1 at.runs.stands s f at.stands settles at.runs at.code phase stand at.live in
            subst (λ xs. (news (names_of program) (result w close) xs stand ≡ next w close) × (next_stand (result w close) stand ≡ (meaning w close).stand)) fs_are
            (ap (λ names. news names (result w close) fs stand) (same_names list program limits u at.runs) ∙ n.0, n.1)

        told_whole : (now : Stand) (before after : List Event) → IsToldOn g (names_of program) whats stand now before after → (after ≡ before ++ next w close) × (now ≡ (meaning w close).stand)
        told_whole now before after on =
            let x = on close (start list u) w (result w close) h.0 in
            (x.0 ∙ ap (λ xs. before ++ xs) news_are.0, x.1 ∙ news_are.1)

        told_front : (before after : List Event) → IsToldInPart g (names_of program) whats stand before after → IsFront before after (next w close)
        told_front before after on = subst (IsFront before after) news_are.0 (on close (start list u) w (result w close) h.0)

      -- a further piece
      module _ (piece : List ℕ) (fed : Fed g (start list u) (s ++ piece) at.told none whats) where
        fed_told : HasToldUnit g (s ++ piece) held_open (at.told ++ fed.events)
        fed_told = told_open at.runs g code_is (s ++ piece) (at.told ++ fed.events) fed.stands fed.run

        pub fed_whole : (now : Stand) (before after : List Event) → IsToldOn g (names_of program) whats stand now before after
            → (after ≡ before ++ next (s ++ piece) held_open) × (now ≡ (meaning (s ++ piece) held_open).stand)
        fed_whole = told_whole (s ++ piece) held_open fed.events fed.told fed_told (settled list limits u program at.runs s piece held_open)

        pub fed_front : (before after : List Event) → IsToldInPart g (names_of program) whats stand before after → IsFront before after (next (s ++ piece) held_open)
        fed_front = told_front (s ++ piece) held_open fed.events fed.told fed_told (settled list limits u program at.runs s piece held_open)

        pub fed_at : (now : Stand) → now ≡ (meaning (s ++ piece) held_open).stand → IsAt list program limits u phase_is.Fed now g (s ++ piece)
        fed_at now is = record { runs = at.runs; code = code_is; told = at.told ++ fed.events; stands = fed.stands; counted = fed.stands.counted; live = (fed.run, is) }

      -- the end of the input
      module _ (closed : Closed g (start list u) s at.told none whats) where
        closed_told : HasToldUnit g s ended (at.told ++ closed.events)
        closed_told = told_ended at.runs g code_is s (at.told ++ closed.events) closed.stands

        pub closed_whole : (now : Stand) (before after : List Event) → IsToldOn g (names_of program) whats stand now before after → (after ≡ before ++ next s ended) × (now ≡ (meaning s ended).stand)
        closed_whole = told_whole s ended closed.events closed.told closed_told (settled_ended list limits u program at.runs s)

        pub closed_front : (before after : List Event) → IsToldInPart g (names_of program) whats stand before after → IsFront before after (next s ended)
        closed_front = told_front s ended closed.events closed.told closed_told (settled_ended list limits u program at.runs s)

-- what a session keeps
low_is : (m : UnitMeaning) (s : List ℕ) (close : Close) (points : List ℕ) → (m s close).retention_points ≡ points → low m s close ≡ least (length s) points
low_is m s close points is = ap (least (length s)) is

same_frames : (c : Config) → results.frames_of c ≡ frames_of c
same_frames (At pc vs fs st) = refl
same_frames (Ending how fs st) = refl

waiting_points : (m : ℕ) (r : Result) → Need m ≡ end_of r → points_of r ≡ m ∷ []
waiting_points m (Ends how es st) is = subst (λ how. points_of (Ends how es st) ≡ m ∷ []) is refl

over_points : (fs : List Frame) (how : End) (x : State) (r : Result) → told_end fs (Over how x) ≡ end_of r → points_of r ≡ []
over_points fs (Returned v) x (Ends how es st) is = subst (λ how. points_of (Ends how es st) ≡ []) is refl
over_points fs (Failed e) x (Ends how es st) is = subst (λ how. points_of (Ends how es st) ≡ []) is refl
over_points fs Backs x (Ends how es st) is = subst (λ how. points_of (Ends how es st) ≡ []) is refl
over_points fs Rejected x (Ends how es st) is = subst (λ how. points_of (Ends how es st) ≡ []) is refl
over_points fs _ x (Ends how es st) is = subst (λ how. points_of (Ends how es st) ≡ []) is refl

module _ (list : Typed) (program : Program) (limits : Limits) (u : ℕ) (runs : Runs list program limits u) (f : Suspended) (code : f.code ≡ plain_of limits program) (s : List ℕ) where
  abbrev r : Result
  r = laid_result list limits u s held_open

  abbrev unit_low : ℕ
  unit_low = low (unit_meaning list limits u) s held_open

  points : (unit_meaning list limits u s held_open).retention_points ≡ points_of r
  points = ap (λ (m : Meaning). m.retention_points) (meaning_is list limits u runs.stands s held_open)

  kept_waiting : (es : List What) → Comes f.code (whole_reads s held_open) (start list u) es f.at → IsWaiting f.code held_open f.window f.at s → length f.window.bytes ≡ length s - unit_low
  kept_waiting es comes waits =
      let tells = tells_at list program limits u runs f code s held_open es comes (stops_at f.code s held_open f.at (Waits waits.mark) waits.waits tt) in
      let mark = low_of (results.frames_of f.at) waits.mark in
      let need : Need mark ≡ end_of r = subst (λ x. told_end (results.frames_of f.at) x ≡ end_of r) waits.waits tells.ends in
      let low : unit_low ≡ min mark (length s) = low_is (unit_meaning list limits u) s held_open (mark ∷ []) (points ∙ waiting_points mark r need) in
      let base : f.window.base ≡ min mark (length s) = waits.least ∙ ap (λ fs. min (low_of fs waits.mark) (length s)) (sym (same_frames f.at)) in
      omega (arith, low, base, ap (λ xs. length xs) waits.holds.bytes, length-drop f.window.base s)

  kept_over : (es : List What) → Comes f.code (whole_reads s held_open) (start list u) es f.at → IsOver f.code held_open f.window f.at s → length f.window.bytes ≡ length s - unit_low
  kept_over es comes over =
      let tells = tells_at list program limits u runs f code s held_open es comes (stops_at f.code s held_open f.at (Over over.how over.state) over.over tt) in
      let ends : told_end (results.frames_of f.at) (Over over.how over.state) ≡ end_of r = subst (λ x. told_end (results.frames_of f.at) x ≡ end_of r) over.over tells.ends in
      let low : unit_low ≡ length s = low_is (unit_meaning list limits u) s held_open [] (points ∙ over_points (results.frames_of f.at) over.how over.state r ends) in
      omega (arith, low, ap (λ xs. length xs) over.empty)

  kept_in : (phase : FiberPhase) (es : List What) → fibers.IsLive phase f.code f.window (start list u) f.at s es → length f.window.bytes ≡ length s - unit_low
  kept_in fiber_is.Fresh es live =
      let none : length s ≡ 0 = ap (λ xs. length xs) live.0 in
      omega (arith, none, ap (λ xs. length xs) live.3.bytes, length-drop {A = ℕ} f.window.base [])
  kept_in fiber_is.Waiting es live = kept_waiting es live.0 live.1
  kept_in fiber_is.Over es live = kept_over es live.0 live.1
  kept_in fiber_is.Ended es live = absurd live
  kept_in fiber_is.Broken es live = absurd live

pub kept_at : (list : Typed) (program : Program) (limits : Limits) (u : ℕ) (phase : Phase) (stand : Stand) (f : Suspended) (s : List ℕ) → IsAt list program limits u phase stand f s
    → length f.window.bytes ≡ length s - low (unit_meaning list limits u) s held_open
kept_at list program limits u phase stand f s at = kept_in list program limits u at.runs f at.code s f.phase at.told at.stands.live

-- a session that was only started
pub begins_there : (list : Typed) (u at : ℕ) (arguments : List Val) → at ≡ starter_at list u → arguments ≡ [] → started at (reverse arguments) ≡ start list u
begins_there list u at arguments place none = ap (λ n. started n (reverse arguments)) place ∙ ap (λ ws. started (starter_at list u) (reverse ws)) none

pub shaped_at : (list : Typed) (program : Program) (limits : Limits) (u at : ℕ) (arguments : List Val) → Runs list program limits u → at ≡ starter_at list u → arguments ≡ []
    → Shaped (plain_of limits program) (shapes_of program) (started at (reverse arguments))
shaped_at list program limits u at arguments runs place none = subst (Shaped (plain_of limits program) (shapes_of program)) (sym (begins_there list u at arguments place none)) (starts_shaped list program limits u runs)

pub started_at : (list : Typed) (program : Program) (limits : Limits) (u : ℕ) (f : Suspended) (at : ℕ) (arguments : List Val) → Runs list program limits u → at ≡ starter_at list u → arguments ≡ []
    → fibers.StandsFor f (started at (reverse arguments)) [] [] → f.phase ≡ fiber_is.Fresh → f.code ≡ plain_of limits program → IsAt list program limits u phase_is.Fresh stand_is.Waiting f []
started_at list program limits u f at arguments runs place none stands fresh code =
    record {
      runs = runs;
      code = code;
      told = [];
      stands = subst (λ c. fibers.StandsFor f c [] []) (begins_there list u at arguments place none) stands;
      counted = stands.counted;
      live = (fresh, refl);
    }
