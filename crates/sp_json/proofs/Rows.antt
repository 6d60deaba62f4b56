-- The line of each kind of event, computed.
use Rattle.std.specs.Prelude.{negsuc, true, None, Some, codes}
use Rattle.std.specs.Fmt.{digits}
use Rattle.std.proofs.Common.{◌≡◌, List, ℕ, [], ◌∷◌, ◌++◌, refl}
use Rattle.serde_json.proofs.OnLiterals.{serde_json_on_literals}
use Rattle.sp_base.specs.declared.kinds.PKind.TheVariants.{Short, Assert}
use Rattle.sp_events.specs.Tree.{void, bool, uint, int, bytes, str, label, unlisted, bits, tuple, vector, set, map, unit, place, trees_of, pairs_of, fields_of}
use Rattle.sp_events.specs.declared.event.What.{What}
use Rattle.sp_events.specs.declared.event.What.TheVariants.{Hook, Print, Write, Forward, ForwardEod, Done, Failed}
use Rattle.sp_json.specs.Lines.{line_of, report_of}

-- the line of an event of the flow 0
abbrev line : What → List ℕ
line what = line_of (codes "0") (record { at = []; what = what })

printed : line_of (codes "0") (record { at = 1 ∷ 12 ∷ []; what = Print (uint 4 ∷ bytes (codes "EF") ∷ []) }) ≡ codes "{\"at\":\"0.1.12\",\"print\":[4,\"EF\"]}\n"
unfolding digits serde_json_on_literals
printed = refl

done : line (Done (unit (fields_of ((codes "b", uint 2) ∷ (codes "a", bool true) ∷ (codes "ab", int (negsuc 0)) ∷ [])))) ≡ codes "{\"at\":\"0\",\"done\":{\"a\":true,\"ab\":-1,\"b\":2}}\n"
unfolding digits serde_json_on_literals
done = refl

failed : line (Failed (record { kind = Short; offset = 1; text = None })) ≡ codes "{\"at\":\"0\",\"error\":\"Short\",\"offset\":1}\n"
unfolding digits serde_json_on_literals
failed = refl

failed_with_text : line (Failed (record { kind = Assert; offset = 30; text = Some (codes "no") })) ≡ codes "{\"at\":\"0\",\"error\":\"Assert\",\"offset\":30,\"text\":\"no\"}\n"
unfolding digits serde_json_on_literals
failed_with_text = refl

hook : line (Hook (codes "M::U::x") (label (codes "E::A") ∷ [])) ≡ codes "{\"args\":[\"E::A\"],\"at\":\"0\",\"hook\":\"M::U::x\"}\n"
unfolding digits serde_json_on_literals
hook = refl

written : line (Write (codes "s") 7 (codes "AB")) ≡ codes "{\"at\":\"0\",\"seq\":7,\"sink\":\"s\",\"write\":\"AB\"}\n"
unfolding digits serde_json_on_literals
written = refl

-- the byte 255 is the character U+00FF, which has two bytes in UTF-8
forwarded : line (Forward (65 ∷ 255 ∷ [])) ≡ codes "{\"at\":\"0\",\"forward\":\"A" ++ 195 ∷ 191 ∷ codes "\"}\n"
unfolding digits serde_json_on_literals
forwarded = refl

forward_ended : line ForwardEod ≡ codes "{\"at\":\"0\",\"forward_eod\":true}\n"
unfolding digits serde_json_on_literals
forward_ended = refl

members : line (Print (tuple (trees_of (unlisted 3 ∷ place 9 ∷ [])) ∷ set (trees_of []) ∷ vector (trees_of (str (codes "x") ∷ [])) ∷ [])) ≡ codes "{\"at\":\"0\",\"print\":[[3,9],[],[\"x\"]]}\n"
unfolding digits serde_json_on_literals
members = refl

entries : line (Print (map (pairs_of ((uint 1, str (codes "x")) ∷ (uint 2, str (codes "y")) ∷ [])) ∷ bits ((codes "lo", 2) ∷ (codes "hi", 1) ∷ []) ∷ [])) ≡ codes "{\"at\":\"0\",\"print\":[[[1,\"x\"],[2,\"y\"]],{\"hi\":1,\"lo\":2}]}\n"
unfolding digits serde_json_on_literals
entries = refl

without_value : line (Print (void ∷ [])) ≡ codes "{\"at\":\"0\",\"print\":[null]}\n"
unfolding digits serde_json_on_literals
without_value = refl

reported : report_of (codes "0") 2 4 ≡ codes "{\"at\":\"0\",\"kept\":2,\"received\":4}\n"
unfolding digits serde_json_on_literals
reported = refl
