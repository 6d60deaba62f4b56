-- Rows on which the definitions are run.
use Rattle.std.specs.Prelude.{ℕ, ◌≡◌, true, false, List, [], ◌∷◌, codes, refl}
use Rattle.std.proofs.Common.{arith}
use Rattle.sp_base.specs.declared.kinds.MKind.TheVariants.{UnknownName}
use Rattle.sp_events.specs.declared.event.Event.{Event}
use Rattle.sp_events.specs.declared.event.What.TheVariants.{Hook, Print, ForwardEod}
use Rattle.sp_json.specs.Lines.{line_of}
use Rattle.sp_meaning.specs.declared.stand.Stand.TheVariants.{Waiting}
use Rattle.sp_meaning.specs.Meaning.{UnitMeaning}
use Rattle.sp_load.specs.declared.sources.Source.{Source}
use Rattle.sp_driver_args.specs.Words.{nothing_wanted}
use Rattle.sp_driver.specs.declared.exits.Exit.TheVariants as exit_is
use Rattle.sp_driver.specs.declared.exits.RunExit.TheVariants as run_is
use Rattle.sp_driver.specs.declared.exits.Unready.TheVariants as unready_is
use Rattle.sp_driver.specs.declared.options.RunOptions.{RunOptions}
use Rattle.sp_driver.specs.Driver.{status_of, message_of}
use Rattle.sp_driver.specs.Lines.{flow_name, event_line, event_lines}
use Rattle.sp_driver.specs.Lists.{text_at}
use Rattle.sp_driver.specs.Options.{options_of, AreOptions}
use Rattle.sp_driver.specs.Shown.{shown, whole, run_lines}

-- events
abbrev hook : Event
hook = record { at = []; what = Hook (codes "M::U::a") [] }

abbrev print : Event
print = record { at = []; what = Print [] }

abbrev forward : Event
forward = record { at = []; what = ForwardEod }

-- a print always has a line, a hook where it is traced
printed : event_line false print ≡ line_of flow_name print
printed = refl

hidden : event_line false hook ≡ []
hidden = refl

traced : event_line true hook ≡ line_of flow_name hook
traced = refl

not_forwarded : event_line false forward ≡ []
not_forwarded = refl

-- a unit that prints for each byte
abbrev prints : List ℕ → List Event
prints [] = []
prints (b ∷ bs) = print ∷ prints bs

abbrev telling : UnitMeaning
telling s close = record { events = prints s; stand = Waiting; retention_points = [] }

abbrev pieces : ℕ → RunOptions
pieces most = record { increment = 1; most = most; trace = false }

-- behind two pieces of three bytes stand the lines of two bytes, and at the end those of all
two_pieces : shown telling (pieces 3) (1 ∷ 2 ∷ 3 ∷ []) 2 ≡ event_lines false (print ∷ print ∷ [])
two_pieces = refl

all_pieces : whole telling (pieces 3) (1 ∷ 2 ∷ 3 ∷ []) ≡ event_lines false (print ∷ print ∷ print ∷ [])
all_pieces = refl

-- of three bytes where two may be taken two pieces are shown, and else the whole
too_long : run_lines telling (pieces 2) (1 ∷ 2 ∷ 3 ∷ []) ≡ shown telling (pieces 2) (1 ∷ 2 ∷ 3 ∷ []) 2
too_long = refl

not_long : run_lines telling (pieces 3) (1 ∷ 2 ∷ 3 ∷ []) ≡ whole telling (pieces 3) (1 ∷ 2 ∷ 3 ∷ [])
not_long = refl

-- no piece is empty
no_empty_pieces : AreOptions (record { increment = 0; most = 3; trace = false }) → ⊥
no_empty_pieces are = omega (arith, are.some)

-- texts by their numbers
abbrev files : List Source
files = record { path = codes "m.spicy"; text = codes "module M;" } ∷ record { path = codes "n.spicy"; text = codes "module N;" } ∷ []

second : text_at files 1 ≡ codes "module N;"
second = refl

past_the_end : text_at files 2 ≡ []
past_the_end = refl

-- statuses and messages
no_parser : status_of (exit_is.Unready unready_is.NoParser) ≡ 3
no_parser = refl

no_parser_told : message_of (exit_is.Unready unready_is.NoParser) ≡ codes "spicy-driver: M32 NoParser\n"
no_parser_told = refl

cannot_run : status_of (exit_is.Unready (unready_is.Unbuilt (record { path = codes "m.spicy"; place = record { line = 2; col = 3 }; kind = UnknownName }))) ≡ 3
cannot_run = refl

too_long_told : message_of (exit_is.Ran run_is.TooLong) ≡ codes "spicy-driver: input too long\n"
too_long_told = refl

-- the report isn't an option of a run
reports : options_of (record nothing_wanted { report = true }) ≡ options_of nothing_wanted
reports = refl
